use Rattle.std.proofs.Common.{Some, Bool, true}
use Rattle.sqlite.specs.Held.{state}
use Rattle.registry_model.specs.World.{Repo}
use Rattle.registry_model.specs.Sessions.{finished}
use Rattle.registry_model.specs.Lookups.{session_at, bytes_or_none}
use Rattle.registry_model.specs.Closing.{session_matches, finish_as_is}
use Rattle.store_statements.specs.Held.{world_in}
use Rattle.store_writes.specs.Whole.{DoneWhereSo}
use Rattle.store_reads.proofs.CleanBefore.{was_clean}
use Rattle.store_reads.proofs.Foretold.{later, session_has_repo}
use Rattle.registry_store.specs.Usages.{Knows}
use Rattle.registry_store.proofs.KnownAnswers.{was_open}
use Rattle.registry_store.proofs.KnownWorlds.{follows, unfollowed}
use Rattle.registry_store.proofs.counted_sessions.finish_known.Goals as goal

pub returns-in-Ok-Some : goal.returns-in-Ok-Some
returns-in-Ok-Some g c =
    let old = state g.S.Store c.args.conn.now in
    let new = state g.S.Store c.finish_known.new.conn in
    record {
      made = λ l kind clean is. rw c.in-Ok-Some.field-0-is at (c.in-Ok-Some.ensures.made l kind clean is);
      places = λ l kind clean is. c.in-Ok-Some.ensures.places l kind clean is;
      memory = λ l kind clean is wanting. absurd (cc);
      crash = λ l kind clean is. rw c.in-Ok-Some.field-0-is at (c.in-Ok-Some.ensures.crash l kind clean is);
      survives = c.finish_known.ensures.survives;
      known = λ l kind known clean is sound.
          let w = world_in l old in
          let early = was_clean old new c.finish_known.ensures.survives clean in
          let made : DoneWhereSo l true old new (λ w. session_matches w c.args.repo.now c.args.number c.args.digest.now) (λ w. finish_as_is w c.args.repo.now c.args.number c.args.digest.now) = rw c.in-Ok-Some.field-0-is at (c.in-Ok-Some.ensures.made l kind clean is) in
          let told = rw c.in-Ok-Some.field-0-is at (c.in-Ok-Some.ensures.ended l kind clean is) in
          follows l c.args.known.now c.follow.new.self new w c.args.repo.now (λ (r : Repo). finished r c.args.number c.args.digest.now (bytes_or_none (session_at w c.args.repo.now c.args.number))) (Some c.known_end_change.result) (known early)
          (session_has_repo w c.args.repo.now c.args.number (was_open w c.args.repo.now c.args.number c.args.digest.now made.0))
          (c.known_end_change.ensures w c.args.repo.now c.args.digest.now c.args.number told.0 told.1) c.follow.ensures made.1.1;
    }

pub returns-in-Ok-None : goal.returns-in-Ok-None
returns-in-Ok-None g c =
    let old = state g.S.Store c.args.conn.now in
    let new = state g.S.Store c.finish_known.new.conn in
    record {
      made = λ l kind clean is. rw c.in-Ok-None.field-0-is at (c.in-Ok-None.ensures.made l kind clean is);
      places = λ l kind clean is. c.in-Ok-None.ensures.places l kind clean is;
      memory = λ l kind clean is wanting. absurd (cc);
      crash = λ l kind clean is. rw c.in-Ok-None.field-0-is at (c.in-Ok-None.ensures.crash l kind clean is);
      survives = c.finish_known.ensures.survives;
      known = λ l kind known clean is sound.
          let stays = rw c.in-Ok-None.field-0-is at (c.in-Ok-None.ensures.made l kind clean is) in
          later l (Knows c.args.known.now) old new stays.1 (known (was_clean old new c.finish_known.ensures.survives clean));
    }

pub returns-in-Err : goal.returns-in-Err
returns-in-Err g c = record {
  made = λ l kind clean is. tt;
  places = λ l kind clean is. tt;
  memory = λ l kind clean is wanting. c.in-Err.ensures.memory l kind clean is (let e = wanting in cc);
  crash = λ l kind clean is. c.in-Err.ensures.crash l kind clean is;
  survives = c.finish_known.ensures.survives;
  known = λ l kind known clean is sound.
      unfollowed {A = Bool} l c.args.known.now (state g.S.Store c.args.conn.now) (state g.S.Store c.finish_known.new.conn) c.in-Err.fault
      (known (was_clean (state g.S.Store c.args.conn.now) (state g.S.Store c.finish_known.new.conn) c.finish_known.ensures.survives clean)) sound (λ wanting. c.in-Err.ensures.memory l kind clean is (let e = wanting in cc));
}
