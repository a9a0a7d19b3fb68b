use Rattle.std.proofs.Common.{inr}
use Rattle.sqlite.specs.Held.{state}
use Rattle.store_statements.proofs.SettledAfter.{left_by_prepare}
use Rattle.store_statements.proofs.open_check.is_open.Goals as goal

pub returns-clause-left : goal.returns-clause-left
returns-clause-left g c = λ clean. inr (left_by_prepare _ (state g.S.Store c.args.conn.now) (state g.S.Store c.prepare.new.self) c.prepare.result _ (c.prepare.ensures.ok clean) (c.prepare.ensures.err clean))
