-- Bytes that are staged before a write of rows, and given up behind it where no row names them.
use Rattle.std.specs.Prelude.{◌≡◌, ⊤, ℕ, Bool, List, Result, Ok, Err, MatchResult}
use Rattle.sqlite.specs.Effect.{Database}
use Rattle.sqlite.specs.Order.{Row}
use Rattle.oci_types.specs.declared.fault.Fault.{Fault}
use Rattle.store_contents.specs.Layouts.{Layout}
use Rattle.store_bytes.specs.declared.contents.Contents.{Ghosts}
use Rattle.store_bytes.specs.declared.staged.Staged.{Staged}
use Rattle.store_bytes.specs.Keeping.{AllPlaces, KeepsBytes}
use Rattle.store_bytes.specs.Staging.{IsClear}

-- what a stage leaves, whatever it answers: the contents of all rows whose places are remembered, and what is
-- spared
pub record IsBesides {C : Type 0} (c : Ghosts C) (old new : C) : Type 0 where
  pub bytes : (db : Database) → AllPlaces (c.remembers old) (c.layout old) db
      → KeepsBytes (c.layout old) (c.layout new) db
  pub spares : (run : ℕ × ℕ) → c.spares old run → c.spares new run
  pub names : (rows : List Row) → c.names old rows → c.names new rows

-- what giving up leaves: the same bytes, and all is spared that is clear of what was given up
pub record IsGivenUp {C : Type 0} (c : Ghosts C) (it : Staged) (old new : C) : Type 0 where
  pub layout : c.layout new ≡ c.layout old
  pub crash : (l : Layout) → c.may_leave new l → c.may_leave old l
  pub spares : (run : ℕ × ℕ) → c.spares old run → IsClear it run → c.spares new run
  pub names : (rows : List Row) → c.names old rows → c.names new rows

-- the answer behind a write that tells whether its bytes came
abbrev pub Answers : Result Bool Fault → Result ⊤ Fault → Type 0
Answers put r = MatchResult put (λ _. r ≡ Ok tt) (λ fault. r ≡ Err fault)
