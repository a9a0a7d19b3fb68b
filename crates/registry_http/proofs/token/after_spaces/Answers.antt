use Rattle.std.proofs.Common.{sym, ap, ◌∙◌, ◌==◌, not, drop, arith}
use Rattle.std.proofs.lemmas.List.{drop_all}
use Rattle.registry_http.proofs.TextPlaces.{some_place, no_place, behind}
use Rattle.registry_http.proofs.token.after_spaces.Goals as goal

pub returns-in-Some : goal.returns-in-Some
returns-in-Some c =
    behind c.args.bytes.now c.in-Some.at
    ∙ ap (λ i. drop i c.args.bytes.now) (some_place (λ b. not (b == 32)) c.args.bytes.now c.in-Some.at c.in-Some.ensures).0

pub returns-in-None : goal.returns-in-None
returns-in-None c =
    let e = no_place (λ b. not (b == 32)) c.args.bytes.now c.in-None.ensures in
    sym (drop_all _ c.args.bytes.now (omega arith))
