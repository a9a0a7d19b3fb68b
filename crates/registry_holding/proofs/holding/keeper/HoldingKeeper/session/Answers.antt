use Rattle.registry_holding.specs.Shown.{held_in}
use Rattle.registry_holding.proofs.HoldingLemmas.{read_held, spends_held}
use Rattle.registry_holding.proofs.holding.keeper.HoldingKeeper.session.Goals as goal

pub returns : goal.returns
returns g c =
    let h = held_in c.args.self.now.stages.map c.args.self.now.pins.map in
    let k = g.K.Keeper.kept c.args.self.now.keeper in
    let l = g.K.Keeper.kept c.session.new.self in
    record {
      found = λ honest. read_held h _ c.session.result _ k l (c.session.ensures.found honest);
      spends = spends_held h c.session.result k l c.session.ensures.spends;
      honest = c.session.ensures.honest;
    }
