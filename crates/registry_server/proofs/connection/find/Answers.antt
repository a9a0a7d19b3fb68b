use Rattle.std.proofs.Common.{ap, sym, ◌∙◌}
use Rattle.registry_server.specs.declared.connection.Connection.{Connection}
use Rattle.registry_server.proofs.PlaceLemmas.{found_last, not_last, none_at_end}
use Rattle.registry_server.proofs.connection.find.Goals as goal

pub returns-then-connections-i-clause-found : goal.returns-then-connections-i-clause-found
returns-then-connections-i-clause-found c =
    found_last c.args.number c.loop-i.i c.args.connections.now c.index-connections-i.result c.loop-i-test.true c.loop-i.auto.i c.index-connections-i.is
    (ap (λ (x : Connection). x.number) c.index-connections-i.is ∙ c.if-connections-i.true) c.loop-i.invariant

pub loop-i-init : goal.loop-i-init
loop-i-init c = none_at_end c.args.number c.args.connections.now

pub loop-i-preserved : goal.loop-i-preserved
loop-i-preserved c =
    not_last c.args.number c.loop-i.i c.args.connections.now c.index-connections-i.result c.loop-i-test.true c.loop-i.auto.i c.index-connections-i.is
    (λ e. c.if-connections-i.false (sym (ap (λ (x : Connection). x.number) c.index-connections-i.is) ∙ e)) c.loop-i.invariant
