-- What a statement inside a transaction leaves of what was committed last.
use Rattle.std.proofs.Common.{inl, inr, ℕ, List, Ok, Err, Result}
use Rattle.sqlite.specs.Order.{Row}
use Rattle.sqlite.specs.State.{State, ExecutesInside, KeepsCommit}
use Rattle.sqlite.specs.declared.error.Error.{Error}
use Rattle.store_schema.proofs.Selects.{commit_left, commit_unchanged}

pub kept_by_execute : (sql : List ℕ) (params : Row) (old new : State) (r : Result ℕ Error) → ExecutesInside 0 sql params old new r → KeepsCommit old new
kept_by_execute sql params old new (Ok n) ran = record { was_open = λ e. ran.1.was_open; committed = λ e. ran.1.committed_is }
kept_by_execute sql params old new (Err e) (inl failed) = commit_left old new failed.1
kept_by_execute sql params old new (Err e) (inr ended) = commit_unchanged old new ended.2
