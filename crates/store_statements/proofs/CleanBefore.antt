-- A disk that has returned what was written had done so before.
use Rattle.std.proofs.Common.{arith}
use Rattle.sqlite.specs.Tree.{Trees}
use Rattle.sqlite.specs.State.{State, HasCleanDisk, Survives}

pub was_clean : {old new : State} {P : Trees → Type 0} → Survives old new P → HasCleanDisk new → HasCleanDisk old
was_clean it clean = omega (arith, it.clean)
