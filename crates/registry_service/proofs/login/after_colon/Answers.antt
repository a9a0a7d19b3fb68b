use Rattle.std.proofs.Common.{sym, ap, ◌∙◌, ◌+◌, drop, arith}
use Rattle.std.proofs.lemmas.List.{drop_all}
use Rattle.registry_model.specs.Login.{is_colon}
use Rattle.registry_model.proofs.PlacesAndDigits.{some_place, no_place, behind}
use Rattle.registry_service.proofs.login.after_colon.Goals as goal

pub returns-in-Some : goal.returns-in-Some
returns-in-Some c =
    behind c.args.bytes.now (c.in-Some.at + 1)
    ∙ ap (λ i. drop (i + 1) c.args.bytes.now) (some_place is_colon c.args.bytes.now c.in-Some.at c.in-Some.ensures).0

pub returns-in-None : goal.returns-in-None
returns-in-None c =
    let e = no_place is_colon c.args.bytes.now c.in-None.ensures in
    sym (drop_all _ c.args.bytes.now (omega arith))
