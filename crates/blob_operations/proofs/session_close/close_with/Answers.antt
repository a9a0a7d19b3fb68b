use Rattle.std.proofs.Common.{◌≡◌, ◌++◌, length, Some, rules, refl, sym, ap, subst}
use Rattle.registry_model.specs.Doing.{course_of_answer}
use Rattle.registry_model.specs.Closing.{finish_as_is}
use Rattle.registry_model.specs.Keeping.{Kept}
use Rattle.registry_model.specs.Sessions.{finished}
use Rattle.registry_model.specs.Lookups.{bytes_or_none, session_at, session_size_at}
use Rattle.operation_parts.specs.Operating.{Operates}
use Rattle.operation_parts.proofs.FailedCalls.{write_failed}
use Rattle.blob_operations.specs.Uploads.{bytes_so_far, finish_with}
use Rattle.operation_parts.proofs.RepoOutcomes.{same_act, made, spends_after}
use Rattle.blob_operations.proofs.UploadLemmas.{found_session}
use Rattle.blob_operations.proofs.SessionCloseLemmas.{none_so_far, finish_unread, unmade, known, unknown}
use Rattle.blob_operations.proofs.session_close.close_with.Goals as goal

pub returns-then-upload-eq0 : goal.returns-then-upload-eq0
returns-then-upload-eq0 g c = record {
  comes = λ honest. (
      let s = g.K.Keeper.kept c.args.keeper.now in
      let name = c.args.name.now in
      let number = c.args.upload.number in
      let f = found_session s.world name number c.args.upload.size (c.requires.open (c.finish.ensures.honest honest)) in
      same_act c.finish.result name (λ r. finish_with r name number c.args.digest c.args.body.now) (λ r. finish_with r name number c.args.digest (bytes_so_far r number ++ c.args.body.now))
      s s _ f.repo refl f.at (none_so_far s.world name number c.args.upload.size f c.args.digest c.args.body.now c.if-upload-eq0.true) (c.finish.ensures.comes honest));
  answers = c.finish.ensures.answers;
  carries = c.finish.ensures.carries;
  spends = c.finish.ensures.spends;
  honest = c.finish.ensures.honest;
}

pub returns-then-branch : goal.returns-then-branch
returns-then-branch g c = record {
  comes = λ honest. (
      let s = g.K.Keeper.kept c.args.keeper.now in
      let name = c.args.name.now in
      let number = c.args.upload.number in
      let none : length c.args.body.now ≡ 0 = search rules in
      let f = found_session s.world name number c.args.upload.size (c.requires.open (c.in_ok-finish_known.ensures.honest honest)) in
      let did = known c.in_ok-finish_known.field-0 _ _ s _ c.if-branch.true (c.in_ok-finish_known.ensures.made honest) in
      made s _ name (λ r. finish_with r name number c.args.digest (bytes_so_far r number ++ c.args.body.now)) f.repo f.at _ _ (c.created_blob.ensures.shown name c.in-Ok.ensures)
      (λ r. finished r number c.args.digest (bytes_or_none (session_at s.world name number))) did.1
      (finish_unread s.world name number c.args.upload.size f c.args.digest did.0 c.args.body.now none));
  answers = ap course_of_answer (c.created_blob.ensures.shown c.args.name.now c.in-Ok.ensures);
  carries = c.created_blob.ensures.carries;
  spends = c.in_ok-finish_known.ensures.spends;
  honest = c.in_ok-finish_known.ensures.honest;
}

pub returns-in_default : goal.returns-in_default
returns-in_default g c = record { comes = λ honest. refl; answers = tt; carries = tt; spends = (c.requires.unspent, c.requires.unspent); honest = λ honest. honest }

pub returns-in_err-finish_known : goal.returns-in_err-finish_known
returns-in_err-finish_known g c =
    let s = g.K.Keeper.kept c.args.keeper.now in
    let late = g.K.Keeper.kept c.finish_known.new.self in
    write_failed (finish_as_is s.world c.args.name.now c.args.upload.number c.args.digest) c.from_residual.result c.in_err-finish_known.field-0.0 _ _ s s late
    (g.K.Keeper.is_honest c.args.keeper.now) (g.K.Keeper.is_honest c.args.keeper.now) (g.K.Keeper.is_honest c.finish_known.new.self)
    c.from_residual.ensures (λ _. refl) (λ honest. honest) c.requires.unspent
    (record {
      made = λ honest. unmade c.in_err-finish_known.field-0.0 _ _ s late (c.in_err-finish_known.ensures.made honest);
      spends = c.in_err-finish_known.ensures.spends;
      honest = c.in_err-finish_known.ensures.honest;
    })

pub close_read-requires-2-clause-unspent : goal.close_read-requires-2-clause-unspent
close_read-requires-2-clause-unspent g c = c.in_ok-finish_known.ensures.spends.1

pub close_read-requires-2-clause-open : goal.close_read-requires-2-clause-open
close_read-requires-2-clause-open g c honest =
    let s = g.K.Keeper.kept c.args.keeper.now in
    subst (λ (x : Kept). session_size_at x.world c.args.name.now c.args.upload.number ≡ Some c.args.upload.size)
    (sym (unknown c.in_ok-finish_known.field-0 _ _ s _ c.if-branch.false (c.in_ok-finish_known.ensures.made honest))) (c.requires.open (c.in_ok-finish_known.ensures.honest honest))

pub returns-then-not-is_empty : goal.returns-then-not-is_empty
returns-then-not-is_empty g c = record {
  comes = c.close_read.ensures.comes;
  answers = c.close_read.ensures.answers;
  carries = c.close_read.ensures.carries;
  spends = c.close_read.ensures.spends;
  honest = c.close_read.ensures.honest;
}

pub returns : goal.returns
returns g c = record {
  comes = λ honest. (
      let s = g.K.Keeper.kept c.args.keeper.now in
      let number = c.args.upload.number in
      subst (λ (x : Kept). Operates c.close_read-2.result c.args.name.now (λ r. finish_with r c.args.name.now number c.args.digest (bytes_so_far r number ++ c.args.body.now)) x (g.K.Keeper.kept c.close_read-2.new.keeper))
      (unknown c.in_ok-finish_known.field-0 _ _ s _ c.if-branch.false (c.in_ok-finish_known.ensures.made (c.close_read-2.ensures.honest honest))) (c.close_read-2.ensures.comes honest));
  answers = c.close_read-2.ensures.answers;
  carries = c.close_read-2.ensures.carries;
  spends = spends_after c.close_read-2.result (g.K.Keeper.kept c.args.keeper.now) _ _ c.requires.unspent c.close_read-2.ensures.spends;
  honest = λ honest. c.in_ok-finish_known.ensures.honest (c.close_read-2.ensures.honest honest);
}
