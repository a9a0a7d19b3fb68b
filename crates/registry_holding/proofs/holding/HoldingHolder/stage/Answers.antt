use Rattle.std.proofs.Common.{Some, []}
use Rattle.registry_holding.specs.Shown.{stages_in, pins_in}
use Rattle.registry_holding.proofs.StageLemmas.{staged, as_it_was}
use Rattle.registry_holding.proofs.holding.HoldingHolder.stage.Goals as goal

pub returns-clause-stages : goal.returns-clause-stages
returns-clause-stages g c = λ honest.
    let f = stages_in c.args.self.now.stages.map in
    let h = stages_in c.begin.new.self.map in
    staged c.begin.result c.args.key (Some []) (g.K.Keeper.kept c.args.self.now.keeper) f h (pins_in c.args.self.now.pins.map)
    c.begin.ensures.ok (as_it_was c.begin.result c.args.key f h c.begin.ensures.err)
