use Rattle.registry_holding.specs.Shown.{held_in}
use Rattle.registry_holding.proofs.HoldingLemmas.{written_held, spends_held}
use Rattle.registry_holding.proofs.holding.keeper.HoldingKeeper.delete_blobs.Goals as goal

pub delete_blobs-requires : goal.delete_blobs-requires
delete_blobs-requires g c = c.requires

pub returns : goal.returns
returns g c =
    let h = held_in c.args.self.now.stages.map c.args.self.now.pins.map in
    let k = g.K.Keeper.kept c.args.self.now.keeper in
    let l = g.K.Keeper.kept c.delete_blobs.new.self in
    record {
      made = λ honest. written_held h c.delete_blobs.result _ k l (c.delete_blobs.ensures.made honest);
      spends = spends_held h c.delete_blobs.result k l c.delete_blobs.ensures.spends;
      honest = c.delete_blobs.ensures.honest;
    }
