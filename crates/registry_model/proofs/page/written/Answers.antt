use Rattle.std.proofs.Common.{◌≡◌, ◌∙◌, ◌++◌, sym, ap, subst, append_assoc}
use Rattle.std.specs.Prelude.{IfOk, codes, decimal, string_bytes}
use Rattle.oci_types.specs.Text.{Text}
use Rattle.registry_model.specs.TagPage.{next_link}
use Rattle.registry_model.proofs.page.written.Goals as goal

joined : (a b c d e f g : Text) → a ++ b ++ c ++ d ++ e ++ f ++ g ≡ a ++ (b ++ (c ++ (d ++ (e ++ (f ++ g)))))
joined a b c d e f g = simp append_assoc

pub returns : goal.returns
returns c =
    let name = c.as_str-name.result.now in
    let last = c.as_str-last.result.now in
    subst (λ (t : Text). IfOk c.format.result (λ s. string_bytes s ≡ t))
    (sym (joined (codes "</v2/") name (codes "/tags/list?n=") (decimal c.args.n) (codes "&last=") last (codes ">; rel=\"next\""))
    ∙ ap (λ (t : Text). next_link t c.args.n last) c.as_str-name.ensures.text
    ∙ ap (λ (t : Text). next_link c.args.name.now c.args.n t) c.as_str-last.ensures.text)
    c.format.ensures.ok
