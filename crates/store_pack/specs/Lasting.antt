-- What is remembered of a pack stands in each file that a crash may leave.
use Rattle.std.proofs.Common.{◌≡◌, ℕ, List, [], ◌∷◌, slice_range, ◌+◌, sym, subst}
use Rattle.std.specs.List.{AllByRecursion}
use Rattle.sqlite.specs.Effect.{Database}
use Rattle.sqlite_disk.specs.declared.Disk.{Ghosts}
use Rattle.registry_pack.specs.declared.pack.Pack.{Pack}
use Rattle.registry_pack.specs.Pack.{file_of}
use Rattle.registry_pack.proofs.RangeLemmas.{length-range, range_is}
use Rattle.store_contents.specs.Layouts.{InPack, Layout}
use Rattle.store_contents.specs.Places.{place_rows, runs_of}
use Rattle.store_bytes.specs.Keeping.{AllPlaces, KeepsBytes}
use Rattle.store_bytes.proofs.KeepingLemmas.{IsSameAt, keeps_bytes}
use Rattle.store_pack.specs.Contents.{IsRemembered}

module _ {D : Type 0} {g : Ghosts D} (pack : Pack D g) where
  abbrev pub Leaves : Layout → Type 0
  Leaves l = (file : List ℕ) × g.may_leave (file_of pack) file × (l ≡ InPack file)

  run_same : (file : List ℕ) → g.may_leave (file_of pack) file → (run : ℕ × ℕ) → IsRemembered pack run
      → IsSameAt (g.seen (file_of pack)) file run
  run_same file may run it =
      range_is file (slice_range (g.seen (file_of pack)) run.0 (run.0 + run.1)) run.0 run.1
      (length-range (g.seen (file_of pack)) run.0 run.1 it.kept.within) (it.kept.lasts.after file may)

  runs_same : (file : List ℕ) → g.may_leave (file_of pack) file → (runs : List (ℕ × ℕ))
      → AllByRecursion (IsRemembered pack) runs → AllByRecursion (IsSameAt (g.seen (file_of pack)) file) runs
  runs_same file may [] all = tt
  runs_same file may (r ∷ rs) all = (run_same file may r all.0, runs_same file may rs all.1)

  pub pack_lasts : (l : Layout) → Leaves l → (db : Database)
      → AllPlaces (IsRemembered pack) (InPack (g.seen (file_of pack))) db
      → KeepsBytes (InPack (g.seen (file_of pack))) l db
  pack_lasts l may db all =
      subst (λ (m : Layout). KeepsBytes (InPack (g.seen (file_of pack))) m db) (sym may.2)
      (keeps_bytes (g.seen (file_of pack)) may.0 db (runs_same may.0 may.1 (runs_of (place_rows db)) all))
