-- What a read leaves of where the bytes of contents are.
use Rattle.std.specs.Prelude.{◌≡◌, ℕ, List, IsTrue}
use Rattle.sqlite.specs.Order.{Row}
use Rattle.sqlite.specs.State.{State}
use Rattle.store_contents.specs.Layouts.{Layout}
use Rattle.store_bytes.specs.declared.contents.Contents.{Ghosts}
use Rattle.store_bytes.specs.Keeping.{AllPlaces}

-- no wrong answer was taken until now, and what the rows name was there
pub record IsReadable {C : Type 0} (g : Ghosts C) (old new : C) (s : State) : Type 0 where
  pub clean : IsTrue (g.is_clean new)
  pub spared : AllPlaces (g.remembers old) (g.layout old) s.now

-- its bytes are the same, and what lasts, is spared or refused is so still
pub record IsAsWas {C : Type 0} (g : Ghosts C) (old new : C) : Type 0 where
  pub layout : g.layout new ≡ g.layout old
  pub crash : (l : Layout) → g.may_leave new l → g.may_leave old l
  pub clean : IsTrue (g.is_clean new) → IsTrue (g.is_clean old)
  pub spares : (run : ℕ × ℕ) → g.spares old run → g.spares new run
  pub remembers : (run : ℕ × ℕ) → g.remembers old run → g.remembers new run
  pub names : (rows : List Row) → g.names old rows → g.names new rows
  pub refuses : (age : ℕ) → g.refuses old age → g.refuses new age
