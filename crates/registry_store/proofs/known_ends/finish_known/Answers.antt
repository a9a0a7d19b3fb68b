use Rattle.registry_model.specs.Closing.{session_matches, finish_as_is}
use Rattle.registry_store.proofs.KnownCalls.{known_follows, known_left, known_made, known_wanted}
use Rattle.registry_store.proofs.RowCalls.{rows_clean}
use Rattle.registry_store.proofs.known_ends.finish_known.Goals as goal

pub returns-clause-made : goal.returns-clause-made
returns-clause-made g c =
    known_made g.S.Store g.C.Contents c.args.contents.now c.args.conn.now c.finish_known.new.conn c.finish_known.result (λ w. session_matches w c.args.repo.now c.args.number c.args.digest.now)
    (λ w. finish_as_is w c.args.repo.now c.args.number c.args.digest.now) c.finish_known.ensures.made c.finish_known.ensures.places

pub returns-clause-memory : goal.returns-clause-memory
returns-clause-memory g c = known_wanted g.S.Store g.C.Contents c.args.contents.now c.args.conn.now c.finish_known.new.conn c.finish_known.result c.finish_known.ensures.memory

pub returns-clause-crash : goal.returns-clause-crash
returns-clause-crash g c =
    known_left g.S.Store g.C.Contents c.args.contents.now c.args.conn.now c.finish_known.new.conn c.finish_known.result (λ w. session_matches w c.args.repo.now c.args.number c.args.digest.now)
    (λ w. finish_as_is w c.args.repo.now c.args.number c.args.digest.now) c.finish_known.ensures.crash

pub returns-clause-known : goal.returns-clause-known
returns-clause-known g c =
    known_follows g.S.Store g.C.Contents c.args.contents.now c.args.conn.now c.finish_known.new.conn c.finish_known.result c.args.known.now c.finish_known.new.known c.finish_known.ensures.known
    (rows_clean g.S.Store g.C.Contents c.args.contents.now c.args.conn.now c.finish_known.new.conn c.finish_known.ensures.survives)
