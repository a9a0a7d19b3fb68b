use Rattle.sqlite.specs.Held.{state}
use Rattle.store_opening.proofs.OpeningLemmas.{shows_version, fails_understood}
use Rattle.store_opening.proofs.VersionAsked.{unchanged_asked, leaves_asked, answers_asked, asked_quietly}
use Rattle.store_opening.proofs.version.version_rows.Goals as goal

pub returns-clause-shown : goal.returns-clause-shown
returns-clause-shown g c clean h = shows_version (state g.S.Store c.args.conn.now) (state g.S.Store c.query_all.new.self) c.query_all.result h (c.query_all.ensures.ok clean)

pub returns-clause-same : goal.returns-clause-same
returns-clause-same g c clean = unchanged_asked (state g.S.Store c.args.conn.now) (state g.S.Store c.query_all.new.self) c.query_all.result (c.query_all.ensures.ok clean)

pub returns-clause-failing : goal.returns-clause-failing
returns-clause-failing g c clean h = fails_understood (state g.S.Store c.args.conn.now) (state g.S.Store c.query_all.new.self) c.query_all.result h (c.query_all.ensures.err clean)

pub returns-clause-left : goal.returns-clause-left
returns-clause-left g c clean = leaves_asked (state g.S.Store c.args.conn.now) (state g.S.Store c.query_all.new.self) c.query_all.result (c.query_all.ensures.ok clean) (c.query_all.ensures.err clean)

pub returns-clause-answered : goal.returns-clause-answered
returns-clause-answered g c clean = answers_asked (state g.S.Store c.args.conn.now) (state g.S.Store c.query_all.new.self) c.query_all.result (c.query_all.ensures.ok clean)

pub returns-clause-survives : goal.returns-clause-survives
returns-clause-survives g c = asked_quietly (state g.S.Store c.args.conn.now) (state g.S.Store c.query_all.new.self) c.query_all.ensures.survives
