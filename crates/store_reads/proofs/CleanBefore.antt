-- A disk that has returned what was written had done so before.
use Rattle.std.specs.Prelude.{⊤}
use Rattle.sqlite.specs.State.{State, HasCleanDisk, Survives}
use Rattle.store_statements.proofs.CleanBefore as before

pub was_clean : (old new : State) → Survives old new (λ _. ⊤) → HasCleanDisk new → HasCleanDisk old
was_clean old new lasts clean = before.was_clean lasts clean
