use Rattle.std.proofs.Common.{◌∙◌, sym}
use Rattle.registry_model.specs.Keeping.{bytes_in}
use Rattle.registry_model.specs.Lookups.{blob_at}
use Rattle.registry_holding.specs.Shown.{stages_in, pins_in}
use Rattle.registry_holding.proofs.StageLemmas.{pin_failed, pin_wanting}
use Rattle.registry_holding.proofs.holding.HoldingHolder.pin.Goals as goal

pub returns-in_err-bytes-clause-pins : goal.returns-in_err-bytes-clause-pins
returns-in_err-bytes-clause-pins g c = λ honest.
    pin_failed c.from_residual.result c.in_err-bytes.field-0.0 c.args.key bytes_in (blob_at (g.K.Keeper.kept c.args.self.now.keeper).world c.args.repo.now c.args.digest.now) _ _ (g.K.Keeper.kept c.args.self.now.keeper) (g.K.Keeper.kept c.blob.new.self)
    (stages_in c.args.self.now.stages.map) (pins_in c.args.self.now.pins.map) c.from_residual.ensures (c.in_err-bytes.ensures.found honest)

pub returns-in_err-or_memory-in-Some-clause-pins : goal.returns-in_err-or_memory-in-Some-clause-pins
returns-in_err-or_memory-in-Some-clause-pins g c = λ honest.
    pin_wanting c.from_residual-in_err-or_memory-in-Some.result c.in_err-or_memory-in-Some.field-0.0 c.put.result c.args.key _ _ (g.K.Keeper.kept c.args.self.now.keeper) (g.K.Keeper.kept c.blob.new.self)
    (stages_in c.args.self.now.stages.map) (pins_in c.args.self.now.pins.map) (pins_in c.put.new.self.map) c.from_residual-in_err-or_memory-in-Some.ensures
    (sym c.in_err-or_memory-in-Some.was ∙ c.or_memory.ensures) (c.in_ok-bytes.ensures.found honest).1 c.put.ensures.err
