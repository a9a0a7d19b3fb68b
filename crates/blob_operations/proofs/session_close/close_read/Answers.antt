use Rattle.std.proofs.Common.{◌≡◌, ◌∙◌, ◌++◌, None, Some, refl, sym, ap, subst, rules}
use Rattle.registry_model.specs.declared.refusal.Refusal.TheVariants.{UploadUnknown}
use Rattle.registry_model.specs.Keeping.{Kept, bytes_in}
use Rattle.registry_model.specs.Lookups.{session_at, session_size_at}
use Rattle.operation_parts.proofs.RepoOutcomes.{same_act, spends_after}
use Rattle.blob_operations.specs.Uploads.{bytes_so_far, finish_with}
use Rattle.blob_operations.proofs.UploadLemmas.{found_session, open_held, held_fits}
use Rattle.blob_operations.proofs.SessionCloseLemmas.{held_so_far}
use Rattle.operation_parts.proofs.ReadLemmas.{told_this, kept_on}
use Rattle.operation_parts.proofs.EarlyLemmas.{refused_early}
use Rattle.blob_operations.proofs.session_close.close_read.Goals as goal

pub returns-in-Err : goal.returns-in-Err
returns-in-Err g c =
    refused_early bytes_in (λ o. o ≡ None) UploadUnknown c.session-held.result _ c.in-Err.reply c.args.name.now _ _ _ _ _ c.in-Err.ensures refl refl c.session-held.ensures
    (λ honest o none e stays a is. absurd (open_held (g.K.Keeper.kept c.args.keeper.now) c.args.name.now c.args.upload (c.requires.open (c.session-held.ensures.honest honest)) (sym (ap bytes_in none) ∙ e)))

pub returns-in_default : goal.returns-in_default
returns-in_default g c =
    let s = g.K.Keeper.kept c.args.keeper.now in
    let mid = g.K.Keeper.kept c.session-held.new.self in
    record {
      comes = λ honest. (told_this bytes_in c.session-held.result (Some c.in-Ok.bytes) (session_at s.world c.args.name.now c.args.upload.number) s mid c.in-Ok.ensures (c.session-held.ensures.found honest)).1;
      answers = tt;
      carries = tt;
      spends = kept_on c.session-held.result (Some c.in-Ok.bytes) s mid c.in-Ok.ensures c.session-held.ensures.spends;
      honest = c.session-held.ensures.honest;
    }

pub returns : goal.returns
returns g c =
    let s = g.K.Keeper.kept c.args.keeper.now in
    let mid = g.K.Keeper.kept c.session-held.new.self in
    let name = c.args.name.now in
    let number = c.args.upload.number in
    let all : c.as_slice.result.now ≡ c.in-Ok.bytes.items ++ c.args.body.now = search rules in
    record {
      comes = λ honest.
          let early = c.finish.ensures.honest honest in
          let held = told_this bytes_in c.session-held.result (Some c.in-Ok.bytes) (session_at s.world name number) s mid c.in-Ok.ensures (c.session-held.ensures.found early) in
          let f = found_session s.world name number c.args.upload.size (c.requires.open (c.session-held.ensures.honest early)) in
          same_act c.finish.result name (λ r. finish_with r name number c.args.digest c.as_slice.result.now) (λ r. finish_with r name number c.args.digest (bytes_so_far r number ++ c.args.body.now))
          s mid _ f.repo held.1 f.at
          (ap (finish_with f.repo name number c.args.digest) (held_so_far s.world name number c.args.upload.size f c.in-Ok.bytes.items c.args.body.now held.0 ∙ sym all))
          (c.finish.ensures.comes honest);
      answers = c.finish.ensures.answers;
      carries = c.finish.ensures.carries;
      spends = spends_after c.finish.result s mid _ c.requires.unspent c.finish.ensures.spends;
      honest = λ honest. c.session-held.ensures.honest (c.finish.ensures.honest honest);
    }

pub finish-requires : goal.finish-requires
finish-requires g c =
    let s = g.K.Keeper.kept c.args.keeper.now in
    let mid = g.K.Keeper.kept c.session-held.new.self in
    let name = c.args.name.now in
    let u = c.args.upload in
    let all : c.as_slice.result.now ≡ c.in-Ok.bytes.items ++ c.args.body.now = search rules in
    record {
      unspent = (kept_on c.session-held.result (Some c.in-Ok.bytes) s mid c.in-Ok.ensures c.session-held.ensures.spends).1;
      «open» = λ honest. subst (λ (x : Kept). session_size_at x.world name u.number ≡ Some u.size)
          (sym (told_this bytes_in c.session-held.result (Some c.in-Ok.bytes) (session_at s.world name u.number) s mid c.in-Ok.ensures (c.session-held.ensures.found honest)).1) (c.requires.open (c.session-held.ensures.honest honest));
      verified = c.requires.verified;
      fits = λ honest. held_fits s name u c.in-Ok.bytes.items c.args.body.now c.as_slice.result.now (c.requires.open (c.session-held.ensures.honest honest))
          (told_this bytes_in c.session-held.result (Some c.in-Ok.bytes) (session_at s.world name u.number) s mid c.in-Ok.ensures (c.session-held.ensures.found honest)).0 all c.requires.fits;
    }
