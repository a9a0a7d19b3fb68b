-- What a pack keeps of the bytes that rows name, through its calls and in each outcome of a crash.
use Rattle.std.proofs.Common.{◌≡◌, ◌⊎◌, inl, inr, ◌∙◌, ℕ, pos, zero, suc, ◌+◌, ◌≤◌, ◌<◌, ◌↔◌, List, [], ◌∷◌, length, slice_range, get_or, append-nil, false, true≢false, Ok, Err, Result, OnOk, refl, sym, subst, arith}
use Rattle.std.specs.Prelude.{is_err}
use Rattle.std.proofs.lemmas.Bool.{cases_lt}
use Rattle.std.specs.List.{AllByRecursion}
use Rattle.sqlite.specs.declared.types.Value.TheVariants.{Int}
use Rattle.sqlite.specs.Order.{Row, column}
use Rattle.sqlite_disk.specs.Disk.{Holds}
use Rattle.sqlite_trees.proofs.ListLemmas.{all-permutation}
use Rattle.std.specs.List.Sorted.{IsPermutation}
use Rattle.std.proofs.lemmas.List.Sorted.{IsPermutation-sym}
use Rattle.store_pack.specs.Opening.{AreSpared, AreThere}
use Rattle.store_places.specs.Places.{runs_at}
use Rattle.registry_pack.specs.Holes.{IsFree}
use Rattle.registry_pack.proofs.RangeLemmas.{Holds-range, length-range, range_is}
use Rattle.sqlite.specs.Effect.{Database}
use Rattle.sqlite_disk.specs.declared.Disk.{Ghosts}
use Rattle.registry_pack.specs.declared.extent.Extent.{Extent}
use Rattle.registry_pack.specs.declared.pack.Pack.{Pack}
use Rattle.registry_pack.specs.declared.head.Head.{Head}
use Rattle.registry_pack.specs.declared.head.HeadCopy.{HeadCopy}
use Rattle.registry_pack.specs.declared.head.HeadCopy.TheVariants.{First, Second}
use Rattle.registry_pack.specs.Blocks.{IsInBlocks, IsInUse, block_ceil, block_floor}
use Rattle.registry_pack.specs.Extents.{AreApart, AreWithin, bytes_at, bytes_of, ends_at, size_of, starts_at}
use Rattle.registry_pack.specs.Heads.{head_bytes, offset_of}
use Rattle.registry_pack.specs.Pack.{IsWritable, KeepsRetired, KeepsSpace, KeepsWritable, age_of, end_of, file_of, head_of}
use Rattle.registry_pack.specs.Standing.{KeepsAll, KeepsBelow, KeepsElsewhere, Lasts}
use Rattle.registry_pack.proofs.HeadLemmas.{length-head_bytes}
use Rattle.registry_pack.proofs.StandingLemmas.{KeepsElsewhere-all, KeepsElsewhere-then}
use Rattle.store_contents.specs.Layouts.{InPack}
use Rattle.store_contents.specs.Places.{pack_rows, place_rows, runs_of}
use Rattle.store_bytes.specs.Keeping.{AllPlaces, KeepsBytes}
use Rattle.store_bytes.proofs.KeepingLemmas.{IsSameAt, keeps_bytes}
use Rattle.store_pack.specs.Contents as contents
use Rattle.store_pack.specs.Contents.{IsNamedBy, IsPlaced, IsRemembered, IsSpared, Names, Places, Refuses, Spares}
use Rattle.store_pack.specs.Pack.{SaysAge}
use Rattle.store_pack.proofs.JointLemmas.{run_lasting, run_still}

module _ {D : Type 0} {g : Ghosts D} where
  runs_same : (old new : Pack D g) → Spares old new → (runs : List (ℕ × ℕ)) → AllByRecursion (IsRemembered old) runs → AllByRecursion (IsSameAt (g.seen (file_of old)) (g.seen (file_of new))) runs
  runs_same old new spares [] all = tt
  runs_same old new spares (r ∷ rs) all = (spares.bytes r all.0, runs_same old new spares rs all.1)

  pub pack_keeps : (old new : Pack D g) → Spares old new → (db : Database) → AllPlaces (IsRemembered old) (InPack (g.seen (file_of old))) db → KeepsBytes (InPack (g.seen (file_of old))) (InPack (g.seen (file_of new))) db
  pack_keeps old new spares db all = keeps_bytes (g.seen (file_of old)) (g.seen (file_of new)) db (runs_same old new spares (runs_of (place_rows db)) all)

  pub still_remembered : (old new : Pack D g) → Spares old new → (run : ℕ × ℕ) → IsRemembered old run → IsRemembered new run
  still_remembered old new spares run it = record {
    kept = spares.kept run it;
    placed = it.placed;
    closed = λ p low high may. it.closed p low high (spares.writable p may);
  }

-- ---- a place that was free is apart from all that is remembered

apart_by : (a n b m : ℕ) → 0 < n → 0 < m → ((p : ℕ) → a ≤ p → p < a + n → b ≤ p → p < b + m → ⊥) → AreApart a n b m
apart_by a n b m some any none =
    elim (cases_lt b (a + n)) [
      | inr x ↦ inl x
      | inl x ↦ elim (cases_lt a (b + m)) [
        | inr y ↦ inr y
        | inl y ↦ elim (cases_lt a b) [
          | inl z ↦ absurd (none b (omega arith) x (omega arith) (omega arith))
          | inr z ↦ absurd (none a (omega arith) (omega arith) z y)
        ]
      ]
    ]

floor_down : (n : ℕ) → block_floor n ≤ n
floor_down n = omega arith

ceil_up : (n : ℕ) → n ≤ block_ceil n
ceil_up n = omega arith

pub in_blocks : (e : Extent) → 8192 ≤ starts_at e → (p : ℕ) → starts_at e ≤ p → p < ends_at e → IsInBlocks e p
in_blocks e behind p low high = (omega (arith, behind, low), omega (arith, floor_down e.at, low), omega (arith, ceil_up (e.at + e.size), high))

pub elsewhere_then : {D : Type 0} (g : Ghosts D) (at n : ℕ) (was mid is : D) → KeepsElsewhere g at n was mid → KeepsAll g mid is → KeepsElsewhere g at n was is
elsewhere_then g at n was mid is first then = KeepsElsewhere-then g was mid is at n first (KeepsElsewhere-all g mid is at n then)

module _ {D : Type 0} {g : Ghosts D} (old new : Pack D g) (e : Extent) (n : ℕ) (some : 0 < n) (size : size_of e ≡ n) (behind : 8192 ≤ starts_at e) (free : (p : ℕ) → IsInBlocks e p → IsWritable old p)
    (kept : KeepsElsewhere g (starts_at e) n (file_of old) (file_of new)) (writable : (p : ℕ) → IsWritable new p → IsWritable old p) (retired : KeepsRetired old new) (head : head_of new ≡ head_of old) where
  apart : (run : ℕ × ℕ) → IsRemembered old run → AreApart (starts_at e) n run.0 run.1
  apart run it = apart_by (starts_at e) n run.0 run.1 some it.placed.some (λ p low high from to. it.closed p from to (free p (in_blocks e behind p low (omega (arith, size, high)))))

  from_head : (copy : HeadCopy) (said : Head) → AreApart (starts_at e) n (offset_of copy) (length (head_bytes said))
  from_head First said = inr (omega (arith, behind, length-head_bytes said))
  from_head Second said = inr (omega (arith, behind, length-head_bytes said))

  pub spares_placed : Spares old new
  spares_placed = record {
    kept = λ run it. record { within = omega (arith, it.kept.within, kept.no_shorter); lasts = subst (Lasts g (file_of new) run.0) (sym (run_still g (file_of old) (file_of new) (starts_at e) n kept run it.kept (apart run it))) (run_lasting g (file_of old) (file_of new) (starts_at e) n kept run it.kept (apart run it)) };
    bytes = λ run it. run_still g (file_of old) (file_of new) (starts_at e) n kept run it.kept (apart run it);
    writable = writable;
    retired = retired;
    refuses = λ age it. record { copy = it.copy; head = it.head; lasts = kept.lasts (offset_of it.copy) (head_bytes it.head) (from_head it.copy it.head) it.lasts; higher = it.higher };
    head = head;
    clean = kept.clean;
  }

pub was_done : {A E : Type 0} (r : Result A E) (P : Type 0) → is_err r ≡ false → OnOk r P → P
was_done (Ok v) P is so = so
was_done (Err e) P is so = absurd (true≢false is)

-- ---- bytes that were placed

at_extent : (file : List ℕ) (e : Extent) (bytes : List ℕ) → size_of e ≡ length bytes → Holds file (starts_at e) bytes → AreWithin file (e ∷ []) × (bytes_at file (e ∷ []) ≡ bytes)
at_extent file e bytes size there = (
  (omega (arith, size, there.within), tt),
  append-nil (bytes_of file e) ∙ range_is file bytes e.at e.size (sym size) there,
)

module _ {D : Type 0} {g : Ghosts D} (old new : Pack D g) (bytes : List ℕ) (e : Extent) (places : Places old new bytes e) (spares : Spares old new) where
  pub staged_at : (IsHashed : Type 0) (file : List ℕ) (es : List Extent) → es ≡ e ∷ [] → IsHashed → Holds file (starts_at e) bytes
      → AreWithin file es × (bytes_at file es ≡ bytes) × IsHashed
  staged_at IsHashed file es is hashed there =
      let it = subst (λ (l : List Extent). AreWithin file l × (bytes_at file l ≡ bytes)) (sym is) (at_extent file e bytes places.size there) in
      (it.0, it.1, hashed)

  in_run : (p : ℕ) → starts_at e ≤ p → p < starts_at e + size_of e → IsInBlocks e p
  in_run p low high = in_blocks e places.behind p low high

  spared_one : contents.AreApart old → IsSpared new (starts_at e, size_of e)
  spared_one apart = record {
    remembered = record {
      kept = record {
        within = omega (arith, places.size, places.lasts.now.within);
        lasts = subst (Lasts g (file_of new) (starts_at e)) (sym (range_is (g.seen (file_of new)) bytes e.at e.size (sym places.size) places.lasts.now)) places.lasts;
      };
      placed = record { behind = places.behind; some = omega (arith, places.size, places.some) };
      closed = λ p low high may. places.closed p (in_run p low high) may;
    };
    closed = λ p low high may. apart p (places.was_writable p (in_run p low high)) (subst (λ h. IsFree h p) spares.retired may);
  }

  pub spared_all : contents.AreApart old → (es : List Extent) → es ≡ e ∷ [] → AllByRecursion (IsSpared new) (runs_at es)
  spared_all apart es is = subst (λ (l : List Extent). AllByRecursion (IsSpared new) (runs_at l)) (sym is) (spared_one apart, tt)

  pub clear_of : (es : List Extent) → es ≡ e ∷ [] → (run : ℕ × ℕ) → IsRemembered old run → (p : ℕ) → run.0 ≤ p → p < run.0 + run.1 → IsInUse es p → ⊥
  clear_of es is run it p low high used = by (subst (λ (l : List Extent). IsInUse l p) is used)
    where
      by : IsInUse (e ∷ []) p → ⊥
      by (inl k) = it.closed p low high (places.was_writable p k)
      by (inr none) = none

-- ---- the end of the file is cut off

module _ {D : Type 0} {g : Ghosts D} (old new : Pack D g) (below : KeepsBelow g (end_of new) (file_of old) (file_of new)) (heads : KeepsBelow g 8192 (file_of old) (file_of new))
    (writable : (p : ℕ) → IsWritable new p ↔ IsWritable old p) (retired : KeepsRetired old new) (head : head_of new ≡ head_of old) where
  -- what is remembered may not be written, so it ends before the end
  ends_before : (run : ℕ × ℕ) → IsRemembered old run → run.0 + run.1 ≤ end_of new
  ends_before run it =
      elim (cases_lt (end_of new) (run.0 + run.1)) [
        | inr low ↦ low
        | inl high ↦ elim (cases_lt (end_of new) run.0) [
          | inl behind ↦ absurd (it.closed run.0 (omega arith) (omega (arith, it.placed.some)) ((writable run.0).0 (inr (omega (arith, behind)))))
          | inr within ↦ absurd (it.closed (end_of new) (omega (arith, within)) high ((writable (end_of new)).0 (inr (omega arith))))
        ]
      ]

  abbrev range_of : ℕ × ℕ → List ℕ
  range_of run = slice_range (g.seen (file_of old)) run.0 (run.0 + run.1)

  lasts_still : (run : ℕ × ℕ) → IsRemembered old run → Lasts g (file_of new) run.0 (range_of run)
  lasts_still run it = below.lasts run.0 (range_of run) (omega (arith, ends_before run it, length-range (g.seen (file_of old)) run.0 run.1 it.kept.within)) it.kept.lasts

  range_still : (run : ℕ × ℕ) → IsRemembered old run → slice_range (g.seen (file_of new)) run.0 (run.0 + run.1) ≡ range_of run
  range_still run it = range_is (g.seen (file_of new)) (range_of run) run.0 run.1 (length-range (g.seen (file_of old)) run.0 run.1 it.kept.within) (lasts_still run it).now

  in_head : (copy : HeadCopy) (said : Head) → offset_of copy + length (head_bytes said) ≤ 8192
  in_head First said = omega (arith, length-head_bytes said)
  in_head Second said = omega (arith, length-head_bytes said)

  pub spares_cut : Spares old new
  spares_cut = record {
    kept = λ run it. record {
      within = omega (arith, (lasts_still run it).now.within, length-range (g.seen (file_of old)) run.0 run.1 it.kept.within);
      lasts = subst (Lasts g (file_of new) run.0) (sym (range_still run it)) (lasts_still run it);
    };
    bytes = range_still;
    writable = λ p may. (writable p).0 may;
    retired = retired;
    refuses = λ age it. record { copy = it.copy; head = it.head; lasts = heads.lasts (offset_of it.copy) (head_bytes it.head) (in_head it.copy it.head) it.lasts; higher = it.higher };
    head = head;
    clean = below.clean;
  }

pub spares_itself : {D : Type 0} {g : Ghosts D} (pack : Pack D g) → Spares pack pack
spares_itself pack = record { kept = λ run it. it.kept; bytes = λ run it. refl; writable = λ p may. may; retired = refl; refuses = λ age it. it; head = refl; clean = λ is. is }

pub spares_then : {D : Type 0} {g : Ghosts D} (old mid new : Pack D g) → Spares old mid → Spares mid new → Spares old new
spares_then old mid new a b = record {
  kept = λ run it. b.kept run (still_remembered old mid a run it);
  bytes = λ run it. b.bytes run (still_remembered old mid a run it) ∙ a.bytes run it;
  writable = λ p may. a.writable p (b.writable p may);
  retired = b.retired ∙ a.retired;
  refuses = λ age it. b.refuses age (a.refuses age it);
  head = b.head ∙ a.head;
  clean = λ is. a.clean (b.clean is);
}

pub still_spared : {D : Type 0} {g : Ghosts D} (old new : Pack D g) → Spares old new → (run : ℕ × ℕ) → IsSpared old run → IsSpared new run
still_spared old new spares run it = record { remembered = still_remembered old new spares run it.remembered; closed = λ p low high may. it.closed p low high (subst (λ h. IsFree h p) spares.retired may) }

pub still_named : {D : Type 0} {g : Ghosts D} (old new : Pack D g) → head_of new ≡ head_of old → (rows : List Row) → Names old rows → Names new rows
still_named old new same rows it = subst (λ (h : Head). IsNamedBy h rows) (sym same) it

-- ---- extents that are released

pub in_use_at : (es : List Extent) (i : ℕ) (d : Extent) (p : ℕ) → i < length es → IsInBlocks (get_or es i d) p → IsInUse es p
in_use_at [] i d p low k = absurd (omega (arith, low))
in_use_at (e ∷ es) zero d p low k = inl k
in_use_at (e ∷ es) (suc i) d p low k = inr (in_use_at es i d p (omega (arith, low)) k)

-- ---- what the rows name is there

module _ {D : Type 0} {g : Ghosts D} where
  pub there_all : (pack : Pack D g) (runs : List (ℕ × ℕ)) → AllByRecursion (IsRemembered pack) runs → AreThere (g.seen (file_of pack)) runs
  there_all pack [] all = tt
  there_all pack (r ∷ rs) all = (all.0.kept.within, there_all pack rs all.1)

  pub writable_same : (old new : Pack D g) → KeepsWritable old new → (p : ℕ) → IsWritable new p → IsWritable old p
  writable_same old new same p (inl f) = inl (subst (λ h. IsFree h p) same.0 f)
  writable_same old new same p (inr past) = inr (omega (arith, past, same.1))

  -- a pack that was opened by the rows, and synced
  module _ (disk : D) (old new : Pack D g) (seen : g.seen (file_of old) ≡ g.seen disk) (lasting : (a : ℕ) (bytes : List ℕ) → Holds (g.seen (file_of old)) a bytes → Lasts g (file_of new) a bytes)
      (still : g.seen (file_of new) ≡ g.seen (file_of old)) (space : KeepsSpace old new) where
    pub spared_opened : (runs : List (ℕ × ℕ)) → AreThere (g.seen disk) runs → AreSpared old runs → AllByRecursion IsPlaced runs → AllByRecursion (IsSpared new) runs
    spared_opened [] there spared placed = tt
    spared_opened (r ∷ rs) there spared placed = (
      record {
        remembered = record {
          kept = record {
            within = rw still (rw seen there.0);
            lasts = rw still (lasting r.0 (slice_range (g.seen (file_of old)) r.0 (r.0 + r.1)) (Holds-range (g.seen (file_of old)) r.0 r.1 (rw seen there.0)));
          };
          placed = placed.0;
          closed = λ p low high may. (spared.0 p low high).0 (writable_same old new space.writable p may);
        };
        closed = λ p low high may. (spared.0 p low high).1 (subst (λ h. IsFree h p) space.retired may);
      },
      spared_opened rs there.1 spared.1 placed.1,
    )

-- each of the extents in use has bytes, and none in the head
placed_at : (es : List Extent) → AllByRecursion (λ e. IsPlaced (starts_at e, size_of e)) es → AllByRecursion IsPlaced (runs_at es)
placed_at [] all = tt
placed_at (e ∷ es) all = (all.0, placed_at es all.1)

pub all_placed : (rows : List Row) (es : List Extent) → IsPermutation (runs_of rows) (runs_at es) → AllByRecursion (λ e. IsPlaced (starts_at e, size_of e)) es → AllByRecursion IsPlaced (runs_of rows)
all_placed rows es same all = all-permutation IsPlaced (runs_at es) (runs_of rows) (IsPermutation-sym _ _ same) (placed_at es all)

-- ---- the rows name the pack, where they say its age or the next one

module _ {D : Type 0} {g : Ghosts D} (db : Database) (pack : Pack D g) where
  pub named_as_said : SaysAge db pack → Names pack (pack_rows db)
  named_as_said (inl it) = record { row = it.row; only = it.only; has_mark = it.has_mark; has_age = inl it.has_age }
  named_as_said (inr it) = record { row = it.row; only = it.only; has_mark = it.has_mark; has_age = inr it.has_age }

  pub said_as_named : Names pack (pack_rows db) → SaysAge db pack
  said_as_named it = by it.has_age
    where
      by : (column it.row 2 ≡ Int (pos (age_of pack))) ⊎ (column it.row 2 ≡ Int (pos (age_of pack + 1))) → SaysAge db pack
      by (inl age) = inl (record { row = it.row; only = it.only; has_mark = it.has_mark; has_age = age })
      by (inr age) = inr (record { row = it.row; only = it.only; has_mark = it.has_mark; has_age = age })
