use Rattle.std.proofs.Common.{ap, ◌∙◌}
use Rattle.registry_server.specs.declared.connection.Connection.{Connection}
use Rattle.registry_server.specs.Slots.{slots_of}
use Rattle.registry_server.proofs.PlaceLemmas.{stirred, all_idle}
use Rattle.registry_server.proofs.KeptLemmas.{still_resting, rest_taken, rest_from}
use Rattle.registry_server.proofs.connection.find_stirred.Goals as goal

pub returns-then-connections-i-clause-found : goal.returns-then-connections-i-clause-found
returns-then-connections-i-clause-found c =
    stirred c.loop-i.i c.args.connections.now c.index-connections-i.result c.loop-i-test.true c.index-connections-i.is (ap (λ (x : Connection). x.stirred) c.index-connections-i.is ∙ c.if-connections-i.true)
    (rest_taken c.loop-i.i c.args.connections.now c.loop-i.invariant)

pub loop-i-preserved : goal.loop-i-preserved
loop-i-preserved c =
    still_resting c.loop-i.i c.args.connections.now c.index-connections-i.result c.loop-i-test.true c.index-connections-i.is (ap (λ (x : Connection). x.stirred) c.index-connections-i.is ∙ c.if-connections-i.false) c.loop-i.invariant

pub returns-clause-none : goal.returns-clause-none
returns-clause-none c =
    all_idle c.loop-i.i c.args.connections.now c.loop-i-test.false (rest_taken c.loop-i.i c.args.connections.now c.loop-i.invariant)

pub loop-i-init : goal.loop-i-init
loop-i-init c = rest_from c.args.resting (slots_of c.args.connections.now) c.requires
