-- Steps inside a transaction, of which several changes are made.
use Rattle.std.specs.Prelude.{◌≡◌, ℕ, ℤ, List, Result, OnOk, IfOk}
use Rattle.sqlite_trees.specs.declared.store.Store.{Ghosts}
use Rattle.sqlite.specs.State.{HasCleanDisk}
use Rattle.sqlite.specs.Held.{Held, state}
use Rattle.oci_types.specs.Text.{Text}
use Rattle.oci_types.specs.declared.fault.Fault.{Fault}
use Rattle.store_contents.specs.declared.content_id.ContentId.{ContentId}
use Rattle.store_statements.specs.Tables.{Tables}
use Rattle.store_statements.specs.Changes.{blob_columns, Comes}
use Rattle.store_contents.specs.Layouts.{Layout}
use Rattle.store_statements.specs.Held.{IsReady, held}
use Rattle.store_statements.specs.Steps.{ContentKept}

-- from such tables, the transaction goes on, and this is so of the tables before and after
abbrev pub StepsFrom : {S : Type 0} → Ghosts S → Layout → Held S → Held S → {A E : Type 0} → Result A E
    → (Tables → Type 0) → (Tables → Tables → Type 0) → Type 0
StepsFrom g l old new r P R =
    HasCleanDisk (state g new) → IsReady l (state g old) → P (held l (state g old))
    → OnOk r (IsReady l (state g new) × R (held l (state g old)) (held l (state g new)))

-- the repository has this link, which it did not have; the other tables stay
pub record LinkIsPut (old new : Tables) (repo digest : List ℕ) (size : ℕ) (content : ℤ) : Type 0 where
  pub comes : Comes old.blobs new.blobs (blob_columns repo digest size content)
  pub others : new ≡ record old { blobs = new.blobs }

-- the transaction goes on, and the bytes have an id, which is the answer; of places those of these runs come
abbrev pub KeepsContent : {S : Type 0} → Ghosts S → Layout → Held S → Held S → Result ContentId Fault → Text
    → List (ℕ × ℕ) → Type 0
KeepsContent g l old new r bytes runs =
    HasCleanDisk (state g new) → IsReady l (state g old)
    → IfOk r (λ it. IsReady l (state g new)
    × ContentKept (held l (state g old)) (held l (state g new)) it.id bytes runs)
