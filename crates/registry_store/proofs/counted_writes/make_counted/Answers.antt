use Rattle.std.proofs.Common.{true≢false}
use Rattle.sqlite.specs.Held.{state}
use Rattle.store_contents.specs.Layouts.{Layout}
use Rattle.store_statements.proofs.Checks.{never_storage}
use Rattle.store_statements.proofs.Crashes.{crash_failed}
use Rattle.store_statements.proofs.Transactions.{survives_all}
use Rattle.registry_store.specs.Writes.{Asks, Places, Suits, becomes, makes}
use Rattle.registry_store.proofs.Followed.{crash_where, made_then, memory_where, known_then, relates_then}
use Rattle.registry_store.proofs.counted_writes.make_counted.Goals as goal

pub make-made-requires : goal.make-made-requires
make-made-requires g c = record { fits = c.requires.fits }

pub returns : goal.returns
returns g c =
    let turns = λ (l : Layout) (suits : Suits l c.args.write).
    made_then g.S.Store l c.args.conn.now c.foretell.new.conn c.make-made.new.conn c.foretell.result c.in-Ok.change c.in-Ok.is c.foretell.ensures.survives (c.foretell.ensures.settled l) c.make-made.ensures.survives
    c.make-made.result (Asks c.args.write c.args.repo.now) (makes c.args.write c.args.repo.now) (c.make-made.ensures.made l suits) in
    let stays = λ (l : Layout) (suits : Suits l c.args.write).
    memory_where g.S.Store l c.args.conn.now c.foretell.new.conn c.make-made.new.conn c.foretell.result c.in-Ok.change c.in-Ok.is c.foretell.ensures.survives (c.foretell.ensures.settled l) c.make-made.ensures.survives
    c.make-made.result (Asks c.args.write c.args.repo.now) (c.make-made.ensures.memory l suits) in
    record {
      made = turns;
      places = λ l suits.
          relates_then g.S.Store l c.args.conn.now c.foretell.new.conn c.make-made.new.conn c.foretell.result c.in-Ok.change c.in-Ok.is c.foretell.ensures.survives (c.foretell.ensures.settled l) c.make-made.ensures.survives
          c.make-made.result (Asks c.args.write c.args.repo.now) (Places c.args.write) (c.make-made.ensures.places l suits);
      memory = stays;
      crash = λ l suits.
          crash_where g.S.Store l c.args.conn.now c.foretell.new.conn c.make-made.new.conn c.foretell.result c.in-Ok.change c.in-Ok.is c.foretell.ensures.survives (c.foretell.ensures.settled l) c.make-made.ensures.survives
          c.make-made.result (Asks c.args.write c.args.repo.now) (makes c.args.write c.args.repo.now) (c.make-made.ensures.crash l suits);
      survives = survives_all (state g.S.Store c.args.conn.now) (state g.S.Store c.foretell.new.conn) (state g.S.Store c.make-made.new.conn) _ _ c.foretell.ensures.survives c.make-made.ensures.survives;
      known = λ l suits known asks there.
          known_then g.S.Store l c.args.conn.now c.foretell.new.conn c.make-made.new.conn c.foretell.result c.in-Ok.change c.in-Ok.is c.foretell.ensures.survives (c.foretell.ensures.settled l) c.make-made.ensures.survives
          c.make-made.result c.args.known.now c.follow_made.new.known c.args.repo.now (becomes c.args.write c.args.repo.now) known there (c.foretell.ensures.found l) c.follow_made.ensures.followed c.follow_made.ensures.kept
          (turns l suits asks) (stays l suits asks);
    }

pub returns-in_default : goal.returns-in_default
returns-in_default g c = record {
  made = λ l suits asks clean is. tt;
  places = λ l suits asks clean is. tt;
  memory = λ l suits asks clean is wanting. absurd (never_storage wanting);
  crash = λ l suits asks clean is. crash_failed g.S.Store c.args.conn.now c.foretell.new.conn (makes c.args.write c.args.repo.now) is (c.foretell.ensures.kept l clean is);
  survives = c.foretell.ensures.survives;
  known = λ l suits known asks there clean is sound. absurd (true≢false sound);
}
