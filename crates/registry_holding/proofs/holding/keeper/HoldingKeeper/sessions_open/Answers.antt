use Rattle.registry_holding.specs.Shown.{held_in}
use Rattle.registry_holding.proofs.HoldingLemmas.{read_held, spends_held}
use Rattle.registry_holding.proofs.holding.keeper.HoldingKeeper.sessions_open.Goals as goal

pub returns : goal.returns
returns g c =
    let h = held_in c.args.self.now.stages.map c.args.self.now.pins.map in
    let k = g.K.Keeper.kept c.args.self.now.keeper in
    let l = g.K.Keeper.kept c.sessions_open.new.self in
    record {
      found = λ honest. read_held h _ c.sessions_open.result _ k l (c.sessions_open.ensures.found honest);
      spends = spends_held h c.sessions_open.result k l c.sessions_open.ensures.spends;
      honest = c.sessions_open.ensures.honest;
    }
