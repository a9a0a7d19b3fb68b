use Rattle.registry_server.specs.Open.{none}
use Rattle.registry_server.specs.Showing.{connected}
use Rattle.registry_server.proofs.CallLemmas.{leads_none}
use Rattle.registry_loop.specs.Together.{bounds_of}
use Rattle.registry_loop.proofs.TogetherLemmas.{within_from, within_none, together_none}
use Rattle.registry_loop.proofs.RoundLemmas.{served_rounds, no_round, ends_rounds}
use Rattle.registry_loop.proofs.crowd.CrowdGathering.serve_all.Goals as goal

pub returns-clause-rounds : goal.returns-clause-rounds
returns-clause-rounds g c honest =
    (connected c.serve_rounds.new.connections, rw (c.in_ok-connections.ensures.none, c.bounds_for.ensures) at (c.serve_rounds.ensures.serves honest))

pub returns-clause-within : goal.returns-clause-within
returns-clause-within g c honest =
    let served = returns-clause-rounds g c honest in
    within_from c.args.settings c.args.at_once c.args.self.now.limits.buffer _ served.0 (g.K.Keeper.kept c.serve_rounds.new.service)
    (served_rounds _ _ _ _ _ served.1)

pub returns-clause-serves : goal.returns-clause-serves
returns-clause-serves g c honest = (c.args.self.now.limits.buffer, returns-clause-within g c honest)

pub returns-in_err-connections-clause-serves : goal.returns-in_err-connections-clause-serves
returns-in_err-connections-clause-serves g c honest = together_none c.args.settings c.args.at_once (g.K.Keeper.kept c.args.service.now)

pub returns-in_err-connections-clause-within : goal.returns-in_err-connections-clause-within
returns-in_err-connections-clause-within g c honest = within_none c.args.settings c.args.at_once c.args.self.now.limits.buffer (g.K.Keeper.kept c.args.service.now)

pub returns-in_err-connections-clause-rounds : goal.returns-in_err-connections-clause-rounds
returns-in_err-connections-clause-rounds g c honest =
    let u = none c.args.settings (bounds_of c.args.at_once c.args.self.now.limits.buffer) in
    let s = g.K.Keeper.kept c.args.service.now in
    (u, ends_rounds u _ s u _ s u s (no_round u _ s) (leads_none u s))
