use Rattle.std.proofs.Common.{◌-◌, ◌<◌, List, All, arith, subst}
use Rattle.std.proofs.lemmas.List.{take_all}
use Rattle.registry_server.specs.declared.connection.Connection.{Connection}
use Rattle.registry_server.proofs.LifeLemmas.{still_all}
use Rattle.registry_server.proofs.connection.find_silent.Goals as goal

pub returns-then-saturating_sub-limit-clause-found : goal.returns-then-saturating_sub-limit-clause-found
returns-then-saturating_sub-limit-clause-found c =
    (c.loop-i-test.true, c.index-connections-i.result, c.index-connections-i.is, omega (arith, c.if-saturating_sub-limit.true, c.saturating_sub.ensures))

pub loop-i-preserved : goal.loop-i-preserved
loop-i-preserved c =
    still_all (λ l. c.args.time - l.since < c.args.limit) c.loop-i.i c.args.connections.now c.index-connections-i.result c.loop-i-test.true c.index-connections-i.is
    (omega (arith, c.if-saturating_sub-limit.false, c.saturating_sub.ensures)) c.loop-i.invariant

pub returns-clause-none : goal.returns-clause-none
returns-clause-none c =
    subst (λ (ys : List Connection). All (λ x. c.args.time - x.life.since < c.args.limit) ys) (take_all c.loop-i.i c.args.connections.now c.loop-i-test.false) c.loop-i.invariant
