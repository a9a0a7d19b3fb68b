use Rattle.std.proofs.Common.{◌∙◌, ◌++◌, sym, ap}
use Rattle.oci_types.specs.Text.{Text}
use Rattle.oci_types.specs.Digest.{verdict_of}
use Rattle.registry_model.specs.Answer.{Answer}
use Rattle.registry_model.specs.Doing.{course_of_answer}
use Rattle.registry_model.specs.Heads.{is_sent}
use Rattle.operation_parts.proofs.RepoOutcomes.{told}
use Rattle.blob_operations.specs.Uploads.{bytes_so_far, finish_with}
use Rattle.blob_operations.proofs.UploadLemmas.{found_session}
use Rattle.staged_operations.specs.Staging.{from_stage, staged_in}
use Rattle.staged_operations.proofs.StagingLemmas.{same_from, stage_is}
use Rattle.staged_operations.proofs.WholeLemmas.{whole, mismatched, differs}
use Rattle.staged_operations.proofs.session_close.close_with.Goals as goal

pub returns-in-Differs : goal.returns-in-Differs
returns-in-Differs g c =
    let s = g.H.Keeper.kept c.args.holder.now in
    let s' = g.H.Keeper.kept c.verdict_behind.new.self in
    let key = c.args.key in
    let name = c.args.name.now in
    let u = c.args.upload in
    let digest = c.args.digest in
    let body = staged_in s key in
    record {
      comes = λ honest.
          let found = c.in_ok-verdict.ensures.found honest in
          let f = found_session s.world name u.number u.size (c.requires.open (c.verdict_behind.ensures.honest honest)) in
          let stage = stage_is (λ (t : Text). verdict_of digest (whole s.world name u.number t)) (s.held.stages key) c.in-Some.verdict (sym c.in-Some.is ∙ found.0) in
          told (from_stage key s s') s' name (λ r. finish_with r name u.number digest (bytes_so_far r u.number ++ body)) f.repo f.at _ _ c.refusal.ensures c.requires.unspent (same_from key s s' found.1)
          (mismatched s.world name u.number u.size f body digest
          (differs digest (whole s.world name u.number body) c.in-Some.verdict c.requires.verified stage.1 c.in-Differs.is));
      answers = ap course_of_answer c.refusal.ensures;
      carries = ap (λ (a : Answer). is_sent a.body) c.refusal.ensures;
      spends = c.in_ok-verdict.ensures.spends;
      honest = c.verdict_behind.ensures.honest;
    }
