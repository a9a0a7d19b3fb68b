use Rattle.std.proofs.Common.{◌∙◌, ℕ, Option, ap, ap₂}
use Rattle.oci_types.specs.Text.{Text}
use Rattle.oci_types.specs.declared.kind.Kind.{Kind}
use Rattle.registry_model.specs.Keeping as keeping
use Rattle.registry_model.specs.Lookups.{manifest_size_at}
use Rattle.registry_checking.specs.Wrongs.{wrong_manifest}
use Rattle.registry_checking.proofs.WrongLemmas.{read_failed, later_failed, judged}
use Rattle.registry_checking.proofs.looking.look_at_manifest.Goals as goal

pub returns-in_err-kept : goal.returns-in_err-kept
returns-in_err-kept g c = read_failed _ _ c.from_residual.result _ _ _ _ _ c.from_residual.ensures c.in_err-kept.ensures

pub returns-in_err-sized : goal.returns-in_err-sized
returns-in_err-sized g c =
    let first = c.in_ok-kept.ensures in
    later_failed _ _ c.from_residual-in_err-sized.result _ _ _ _ _ _ _ c.from_residual-in_err-sized.ensures c.in_err-sized.ensures
    (λ between. (first.found between).1) first.spends.0 first.honest

pub returns : goal.returns
returns g c =
    let first = c.in_ok-kept.ensures in
    let second = c.in_ok-sized.ensures in
    let repo = c.args.repo.now in
    let digest = c.args.digest.now in
    judged c.wrong_manifest.result _ _ _ _ _ _ c.wrong_manifest.ensures
    (λ honest.
    let one = first.found (second.honest honest) in
    let two = second.found honest in
    (ap₂ (λ (kept : Option (Kind × Text)) (sized : Option (Kind × ℕ)). wrong_manifest repo digest kept sized) one.0 (two.0 ∙ ap (λ (x : keeping.Kept). manifest_size_at x.world repo digest) one.1), two.1 ∙ one.1))
    first.spends.0 second.spends.1 (λ honest. first.honest (second.honest honest))
