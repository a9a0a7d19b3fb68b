use Rattle.registry_model.specs.Pruning.{is_among}
use Rattle.order_carrying.specs.Naming.{IsPut}
use Rattle.order_carrying.proofs.naming.Namers.add.Given as goal

-- so far the manifest was put behind those that name the digests seen
abbrev pub invariant-loop-digest : goal.invariant-loop-digest
invariant-loop-digest l = IsPut l.manifest (is_among l.yielded) l.initial.self l.self
