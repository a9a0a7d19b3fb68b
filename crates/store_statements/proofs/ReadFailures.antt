-- What a read says of the tables where its rows were shown: whatever is made of them, nothing changed.
use Rattle.std.proofs.Common.{inl, Ok, Err, Result, OnOk, IfErr}
use Rattle.sqlite.specs.State.{State, IsUnchanged}
use Rattle.store_statements.specs.Held.{LeavesAsWas}

pub same_if : {A E P : Type 0} (r : Result A E) → P → OnOk r P
same_if (Ok x) p = p
same_if (Err e) p = tt

pub left_if : {A E : Type 0} (old new : State) (r : Result A E) → IsUnchanged old new → IfErr r (λ _. LeavesAsWas old new)
left_if old new (Ok x) same = tt
left_if old new (Err e) same = inl same
