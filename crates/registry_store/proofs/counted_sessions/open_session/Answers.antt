use Rattle.store_reads.proofs.Foretold.{open_foretold}
use Rattle.registry_store.proofs.Followed.{opened_known}
use Rattle.registry_store.proofs.counted_sessions.open_session.Goals as goal

pub returns : goal.returns
returns g c = record {
  made = c.open_session-opened.ensures.made;
  places = c.open_session-opened.ensures.places;
  memory = c.open_session-opened.ensures.memory;
  crash = c.open_session-opened.ensures.crash;
  survives = c.open_session-opened.ensures.survives;
  known = λ l known there.
      opened_known g.S.Store l c.args.conn.now c.open_session-opened.new.conn c.args.known.now c.follow_made.new.known c.args.repo.now _ c.open_session-opened.result
      c.open_session-opened.ensures.survives (λ w none. open_foretold w c.args.repo.now none) there c.follow_made.ensures.followed c.follow_made.ensures.kept (c.open_session-opened.ensures.made l) (c.open_session-opened.ensures.memory l) known;
}
