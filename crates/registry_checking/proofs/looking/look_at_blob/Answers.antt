use Rattle.std.proofs.Common.{◌∙◌, ℕ, Option, ap, ap₂}
use Rattle.oci_types.specs.Text.{Text}
use Rattle.registry_model.specs.Keeping as keeping
use Rattle.registry_model.specs.Lookups.{blob_size_at}
use Rattle.registry_checking.specs.Wrongs.{wrong_blob}
use Rattle.registry_checking.proofs.WrongLemmas.{read_failed, later_failed, judged}
use Rattle.registry_checking.proofs.looking.look_at_blob.Goals as goal

pub returns-in_err-bytes : goal.returns-in_err-bytes
returns-in_err-bytes g c = read_failed _ _ c.from_residual.result _ _ _ _ _ c.from_residual.ensures c.in_err-bytes.ensures

pub returns-in_err-size : goal.returns-in_err-size
returns-in_err-size g c =
    let first = c.in_ok-bytes.ensures in
    later_failed _ _ c.from_residual-in_err-size.result _ _ _ _ _ _ _ c.from_residual-in_err-size.ensures c.in_err-size.ensures
    (λ between. (first.found between).1) first.spends.0 first.honest

pub returns : goal.returns
returns g c =
    let first = c.in_ok-bytes.ensures in
    let second = c.in_ok-size.ensures in
    let repo = c.args.repo.now in
    let digest = c.args.digest.now in
    judged c.wrong_blob.result _ _ _ _ _ _ c.wrong_blob.ensures
    (λ honest.
    let one = first.found (second.honest honest) in
    let two = second.found honest in
    (ap₂ (λ (bytes : Option Text) (size : Option ℕ). wrong_blob repo digest bytes size) one.0 (two.0 ∙ ap (λ (x : keeping.Kept). blob_size_at x.world repo digest) one.1), two.1 ∙ one.1))
    first.spends.0 second.spends.1 (λ honest. first.honest (second.honest honest))
