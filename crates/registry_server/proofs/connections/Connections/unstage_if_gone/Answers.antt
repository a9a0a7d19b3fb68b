use Rattle.std.proofs.Common.{sym, ◌∙◌}
use Rattle.registry_server.specs.Showing.{connected}
use Rattle.registry_server.proofs.CallLemmas.{of_unstaged}
use Rattle.registry_server.proofs.PlaceLemmas.{found_there}
use Rattle.registry_server.proofs.connections.Connections.unstage_if_gone.Goals as goal

pub returns-in-None-clause-leads : goal.returns-in-None-clause-leads
returns-in-None-clause-leads g c = λ honest.
    of_unstaged c.args.number (connected c.args.self.now) (g.K.Keeper.kept c.args.service.now) (g.K.Keeper.kept c.unstage.new.self) c.in-None.ensures.none (c.unstage.ensures.gone honest)

pub returns-in-Some-clause-unstaged : goal.returns-in-Some-clause-unstaged
returns-in-Some-clause-unstaged g c = λ honest none.
    absurd (let found = sym (found_there c.args.number _ (connected c.args.self.now).slots c.in-Some.ensures.found) ∙ none in cc)
