-- A registry whose tables were made just now beside a new pack.
use Rattle.std.proofs.Common.{◌≡◌, inl, ℕ, List, [], sym, subst}
use Rattle.std.specs.List.{AllByRecursion}
use Rattle.sqlite.specs.Order.{Row}
use Rattle.sqlite.specs.Effect.{Database}
use Rattle.sqlite_disk.specs.declared.Disk.{Ghosts}
use Rattle.registry_pack.specs.declared.pack.Pack.{Pack}
use Rattle.registry_pack.specs.Pack.{age_of, mark_of}
use Rattle.store_contents.specs.Places.{pack_rows, runs_of}
use Rattle.store_pack.specs.Contents.{Names}
use Rattle.store_pack.specs.Pack.{PackSays}
use Rattle.store_pack.proofs.ContentsLemmas.{named_as_said}

pub new_names : {D : Type 0} {g : Ghosts D} (db : Database) (pack : Pack D g) (mark : List ℕ) → PackSays db mark 0 → mark_of pack ≡ mark → age_of pack ≡ 0 → Names pack (pack_rows db)
new_names db pack mark says has_mark has_age =
    named_as_said db pack (inl (subst (λ n. PackSays db (mark_of pack) n) (sym has_age) (subst (λ m. PackSays db m 0) (sym has_mark) says)))

pub none_named : (P : ℕ × ℕ → Type 0) (rows : List Row) → rows ≡ [] → AllByRecursion P (runs_of rows)
none_named P rows none = subst (λ rs. AllByRecursion P (runs_of rs)) (sym none) tt
