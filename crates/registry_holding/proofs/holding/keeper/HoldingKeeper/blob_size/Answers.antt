use Rattle.registry_holding.specs.Shown.{held_in}
use Rattle.registry_holding.proofs.HoldingLemmas.{read_held, spends_held}
use Rattle.registry_holding.proofs.holding.keeper.HoldingKeeper.blob_size.Goals as goal

pub returns : goal.returns
returns g c =
    let h = held_in c.args.self.now.stages.map c.args.self.now.pins.map in
    let k = g.K.Keeper.kept c.args.self.now.keeper in
    let l = g.K.Keeper.kept c.blob_size.new.self in
    record {
      found = λ honest. read_held h _ c.blob_size.result _ k l (c.blob_size.ensures.found honest);
      spends = spends_held h c.blob_size.result k l c.blob_size.ensures.spends;
      honest = c.blob_size.ensures.honest;
    }
