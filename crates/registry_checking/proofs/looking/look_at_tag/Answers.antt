use Rattle.std.proofs.Common.{◌∙◌, ℕ, Option, ap, sym}
use Rattle.std.specs.Option.{option_and_then}
use Rattle.oci_types.specs.Text.{Text}
use Rattle.oci_types.specs.declared.kind.Kind.{Kind}
use Rattle.registry_model.specs.Keeping as keeping
use Rattle.registry_model.specs.Lookups.{manifest_size_at}
use Rattle.registry_checking.specs.Wrongs.{untied}
use Rattle.registry_checking.proofs.WrongLemmas.{read_failed, later_failed, judged}
use Rattle.registry_checking.proofs.looking.look_at_tag.Goals as goal

pub returns-in_err-named : goal.returns-in_err-named
returns-in_err-named g c = read_failed _ _ c.from_residual.result _ _ _ _ _ c.from_residual.ensures c.in_err-named.ensures

pub returns-in_err-sized : goal.returns-in_err-sized
returns-in_err-sized g c =
    let first = c.in_ok-named.ensures in
    later_failed _ _ c.from_residual-in_err-sized.result _ _ _ _ _ _ _ c.from_residual-in_err-sized.ensures c.in_err-sized.ensures
    (λ between. (first.found between).1) first.spends.0 first.honest

pub returns : goal.returns
returns g c =
    let first = c.in_ok-named.ensures in
    let second = c.in_ok-sized.ensures in
    let repo = c.args.repo.now in
    let tag = c.args.tag in
    let w = (g.K.Keeper.kept c.args.keeper.now).world in
    judged c.wrong_tag.result _ _ _ _ _ _ c.wrong_tag.ensures
    (λ honest.
    let one = first.found (second.honest honest) in
    let two = second.found honest in (
      ap (λ (sized : Option (Kind × ℕ)). untied repo tag sized) (two.0 ∙ ap (λ (x : keeping.Kept). manifest_size_at x.world repo c.in-Some.digest) one.1)
          ∙ sym (ap (λ (o : Option Text). option_and_then (λ (digest : Text). untied repo tag (manifest_size_at w repo digest)) o) (sym one.0 ∙ c.in-Some.is)),
      two.1 ∙ one.1,
    ))
    first.spends.0 second.spends.1 (λ honest. first.honest (second.honest honest))
