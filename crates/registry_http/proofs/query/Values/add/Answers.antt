use Rattle.std.proofs.Common.{List, ◌∷◌, Option, sym, ap, ◌∙◌}
use Rattle.std.specs.Prelude.{codes}
use Rattle.std.specs.declared.borrow.CowStr.{CowStr}
use Rattle.std.specs.declared.alloc.Global.{Global}
use Rattle.oci_types.specs.Text.{Text}
use Rattle.registry_http.specs.Asking.{value_among}
use Rattle.registry_http.specs.Decoding.{cow_text, or_else}
use Rattle.registry_http.proofs.QueryLemmas.{keys_same}
use Rattle.registry_http.proofs.query.Values.add.Goals as goal

-- what was kept, and else what is among the pairs
abbrev behind : Text → List (Text × Text) → Option (CowStr Global) → Option Text
behind key pairs kept = or_else (cow_text kept) (value_among key pairs)

pub returns : goal.returns
returns c = λ raw others named.
    let pairs = (raw, c.args.value.now) ∷ others in
    keys_same _ _ pairs others
    (ap (behind (codes "digest") pairs) (sym c.take.ensures.value) ∙ c.in_ok-self.ensures raw others named)
    (ap (behind (codes "mount") pairs) (sym c.take-2.ensures.value) ∙ c.in_ok-self-2.ensures raw others named)
    (ap (behind (codes "from") pairs) (sym c.take-3.ensures.value) ∙ c.in_ok-self-3.ensures raw others named)
    (ap (behind (codes "n") pairs) (sym c.take-4.ensures.value) ∙ c.in_ok-self-4.ensures raw others named)
    (ap (behind (codes "last") pairs) (sym c.take-5.ensures.value) ∙ c.in_ok-self-5.ensures raw others named)
    (ap (behind (codes "artifactType") pairs) (sym c.take-6.ensures.value) ∙ c.in_ok-self-6.ensures raw others named)
