use Rattle.std.proofs.Common.{refl, sym, ◌∙◌}
use Rattle.registry_http.proofs.QueryLemmas.{pair_passed}
use Rattle.registry_http.proofs.query.keep.Goals as goal

pub returns-in-Some : goal.returns-in-Some
returns-in-Some c = λ raw others named. rw c.in-Some.is refl

pub returns-then-not-is_key : goal.returns-then-not-is_key
returns-then-not-is_key c = λ raw others named.
    rw c.in-None.is (pair_passed c.args.key.now raw c.args.value.now _ others named (sym c.is_key.ensures ∙ c.if-not-is_key.true))
