use Rattle.std.proofs.Common.{pos}
use Rattle.sqlite.specs.Held.{state}
use Rattle.store_opening.proofs.OpeningLemmas.{is_marked, knows_version, never_both, shows_two}
use Rattle.pack_opening.proofs.AskingLemmas.{has_versions, shows_three}
use Rattle.pack_opening.proofs.AskingLemmas as packed
use Rattle.pack_opening.proofs.opening.find_version.Goals as goal

pub returns-then-not-is_there-clause-two : goal.returns-then-not-is_there-clause-two
returns-then-not-is_there-clause-two g c clean it =
    absurd (never_both c.is_there.result _ c.is_there.ensures (is_marked (state g.S.Store c.args.conn.now).now.schema it.holds.known.version)
    c.if-not-is_there.true)

pub returns-then-not-is_there-clause-three : goal.returns-then-not-is_there-clause-three
returns-then-not-is_there-clause-three g c clean file it = absurd
    (never_both c.is_there.result _ c.is_there.ensures (has_versions file (state g.S.Store c.args.conn.now).now it) c.if-not-is_there.true)

pub returns-in-Err-clause-two : goal.returns-in-Err-clause-two
returns-in-Err-clause-two g c clean it =
    let db = (state g.S.Store c.args.conn.now).now in
    c.in-Err.ensures.whole clean (knows_version db it.holds) (pos 2) (shows_two _ it.agree.version)

pub returns-in-Err-clause-three : goal.returns-in-Err-clause-three
returns-in-Err-clause-three g c clean file it =
    let db = (state g.S.Store c.args.conn.now).now in
    c.in-Err.ensures.whole clean (packed.knows_version file db it) (pos 3) (shows_three file db it)
