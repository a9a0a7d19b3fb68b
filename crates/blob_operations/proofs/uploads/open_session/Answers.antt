use Rattle.std.proofs.Common.{◌≡◌, ◌∙◌, ℕ, ap, sym, refl, None, Some}
use Rattle.std.specs.Prelude.{Option}
use Rattle.registry_model.specs.declared.refusal.Refusal.TheVariants.{TooManyUploads}
use Rattle.registry_model.specs.Answer.{Answer}
use Rattle.registry_model.specs.Doing.{course_of_answer}
use Rattle.registry_model.specs.Heads.{is_sent}
use Rattle.registry_model.specs.Lookups as lookups
use Rattle.blob_operations.specs.Uploads.{next_number_at}
use Rattle.blob_operations.proofs.UploadLemmas.{opens_none, opens_next, next_fits}
use Rattle.operation_parts.proofs.ReadLemmas.{told_this, kept_on, still_there}
use Rattle.operation_parts.proofs.EarlyLemmas.{refused_early, wrote, after_it, written_by}
use Rattle.blob_operations.proofs.uploads.open_session.Goals as goal

pub returns-in-Err : goal.returns-in-Err
returns-in-Err g c =
    refused_early (λ (o : Option ℕ). o) (λ o. o ≡ None) TooManyUploads c.next_number.result _ c.in-Err.reply c.args.name.now _ _ _ _ _ c.in-Err.ensures refl refl c.next_number.ensures
    (λ honest o none e stays a is. opens_none _ _ c.args.name.now (c.requires.there (c.next_number.ensures.honest honest)) c.requires.unspent stays a (sym none ∙ e) is)

pub returns-in_default : goal.returns-in_default
returns-in_default g c =
    let s = g.K.Keeper.kept c.args.keeper.now in
    let mid = g.K.Keeper.kept c.next_number.new.keeper in
    record {
      comes = λ honest. (told_this (λ (o : Option ℕ). o) c.next_number.result (Some c.in-Ok.number) (next_number_at s.world c.args.name.now) s mid c.in-Ok.ensures (c.next_number.ensures.found honest)).1;
      answers = tt;
      carries = tt;
      spends = kept_on c.next_number.result (Some c.in-Ok.number) s mid c.in-Ok.ensures c.next_number.ensures.spends;
      honest = c.next_number.ensures.honest;
    }

pub open_session-requires : goal.open_session-requires
open_session-requires g c =
    let s = g.K.Keeper.kept c.args.keeper.now in
    let mid = g.K.Keeper.kept c.next_number.new.keeper in
    let found = λ (honest : g.K.Keeper.is_honest c.next_number.new.keeper). told_this (λ (o : Option ℕ). o) c.next_number.result (Some c.in-Ok.number) (next_number_at s.world c.args.name.now) s mid c.in-Ok.ensures (c.next_number.ensures.found honest) in
    record {
      there = λ honest unspent. still_there s mid c.args.name.now (found honest).1 (c.requires.there (c.next_number.ensures.honest honest));
      few = λ honest unspent. (next_fits s mid c.args.name.now c.in-Ok.number (found honest).1 (found honest).0).0;
      below = λ honest unspent. (next_fits s mid c.args.name.now c.in-Ok.number (found honest).1 (found honest).0).1;
    }

pub returns : goal.returns
returns g c =
    let s = g.K.Keeper.kept c.args.keeper.now in
    let mid = g.K.Keeper.kept c.next_number.new.keeper in
    let name = c.args.name.now in
    after_it c.open_session.result c.in-Ok-session_reply.reply c.after.result name _ s _ _ _ c.after.ensures
    (wrote (lookups.open_session mid.world name) c.open_session.result c.in-Ok-session_reply.reply name _ s mid _ _ _ _
    (λ between. (told_this (λ (o : Option ℕ). o) c.next_number.result (Some c.in-Ok.number) (next_number_at s.world name) s mid c.in-Ok.ensures (c.next_number.ensures.found between)).1)
    c.next_number.ensures.honest c.requires.unspent (written_by _ _ _ _ _ _ _ _ c.open_session.ensures) (ap course_of_answer c.in-Ok-session_reply.ensures) (ap (λ (a : Answer). is_sent a.body) c.in-Ok-session_reply.ensures)
    (λ between made.
    let found = told_this (λ (o : Option ℕ). o) c.next_number.result (Some c.in-Ok.number) (next_number_at s.world name) s mid c.in-Ok.ensures (c.next_number.ensures.found between) in
    opens_next s mid name (c.requires.there (c.next_number.ensures.honest between)) c.requires.unspent found.1 _ _ c.in-Ok.number found.0 made c.in-Ok-session_reply.ensures))
