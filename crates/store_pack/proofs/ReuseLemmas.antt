-- Space that no row names becomes free in a new age, and what rows name is not written over.
use Rattle.std.proofs.Common.{◌≡◌, ◌⊎◌, inl, inr, ◌∙◌, ℕ, ◌+◌, ◌≤◌, ◌<◌, List, [], ◌∷◌, Ok, Err, Result, OnOk, OnErr, refl, sym, ap, subst, arith}
use Rattle.std.specs.Prelude.{◌↔◌, ⊤}
use Rattle.std.proofs.lemmas.Bool.{cases_lt}
use Rattle.std.specs.List.{AllByRecursion}
use Rattle.std.specs.List.Sorted.{IsPermutation}
use Rattle.std.proofs.lemmas.List.Sorted.{IsPermutation-sym}
use Rattle.sqlite.specs.Order.{Row}
use Rattle.sqlite.specs.Effect.{Database}
use Rattle.sqlite_trees.proofs.ListLemmas.{all-permutation}
use Rattle.sqlite_disk.specs.declared.Disk.{Ghosts}
use Rattle.oci_types.specs.declared.fault.Fault.{Fault}
use Rattle.oci_types.specs.declared.fault.Fault.TheVariants.{Memory, Storage}
use Rattle.registry_pack.specs.declared.extent.Extent.{Extent}
use Rattle.registry_pack.specs.declared.head.Head.{Head}
use Rattle.registry_pack.specs.declared.head.HeadCopy.{HeadCopy}
use Rattle.registry_pack.specs.declared.head.HeadCopy.TheVariants.{First, Second}
use Rattle.registry_pack.specs.declared.pack.Pack.{Pack}
use Rattle.registry_pack.specs.Blocks.{IsInUse}
use Rattle.registry_pack.specs.Extents.{Covers}
use Rattle.registry_pack.specs.Heads.{head_bytes, offset_of}
use Rattle.registry_pack.specs.Holes.{IsFree}
use Rattle.registry_pack.specs.Pack.{IsRetired, IsWritable, KeepsRetired, KeepsSpace, KeepsWritable, age_of, end_of, file_of, head_of}
use Rattle.registry_pack.specs.Standing.{KeepsElsewhere, Lasts}
use Rattle.store_contents.specs.Layouts.{InPack}
use Rattle.store_contents.specs.Places.{place_rows, runs_of}
use Rattle.store_places.specs.Places.{runs_at}
use Rattle.store_bytes.specs.Keeping.{AllPlaces, KeepsBytes}
use Rattle.store_bytes.proofs.KeepingLemmas.{IsSameAt, keeps_bytes}
use Rattle.store_pack.specs.Contents.{AreApart, IsRemembered, IsSpared, Refuses}
use Rattle.store_pack.specs.Joint.{IsKept, IsRefused, Older}
use Rattle.store_pack.specs.Reuse.{IsOutside, OneStands}
use Rattle.store_pack.proofs.ContentsLemmas.{writable_same}
use Rattle.store_pack.proofs.OpeningLemmas.{in_blocks}
use Rattle.store_pack.proofs.JointLemmas.{run_lasting, run_still}

-- ---- the file behind the head

module _ {D : Type 0} (g : Ghosts D) (was is : D) (kept : KeepsElsewhere g 0 8192 was is) where
  pub kept_behind : (run : ℕ × ℕ) → IsKept g was run → 8192 ≤ run.0 → IsKept g is run
  kept_behind run it behind = record {
    within = omega (arith, it.within, kept.no_shorter);
    lasts = subst (Lasts g is run.0) (sym (run_still g was is 0 8192 kept run it (inl (omega (arith, behind))))) (run_lasting g was is 0 8192 kept run it (inl (omega (arith, behind))));
  }

module _ {D : Type 0} {g : Ghosts D} (old new : Pack D g) (kept : KeepsElsewhere g 0 8192 (file_of old) (file_of new)) where
  same_behind : (runs : List (ℕ × ℕ)) → AllByRecursion (IsRemembered old) runs → AllByRecursion (IsSameAt (g.seen (file_of old)) (g.seen (file_of new))) runs
  same_behind [] all = tt
  same_behind (r ∷ rs) all = (run_still g (file_of old) (file_of new) 0 8192 kept r all.0.kept (inl (omega (arith, all.0.placed.behind))), same_behind rs all.1)

  pub bytes_behind : (db : Database) → AllPlaces (IsRemembered old) (InPack (g.seen (file_of old))) db → KeepsBytes (InPack (g.seen (file_of old))) (InPack (g.seen (file_of new))) db
  bytes_behind db all = keeps_bytes (g.seen (file_of old)) (g.seen (file_of new)) db (same_behind (runs_of (place_rows db)) all)

-- ---- where nothing but the list of retired space changed, or not even that

module _ {D : Type 0} {g : Ghosts D} (old new : Pack D g) (writable : KeepsWritable old new) (file : file_of new ≡ file_of old) where
  pub remembered_same : (run : ℕ × ℕ) → IsRemembered old run → IsRemembered new run
  remembered_same run it = record {
    kept = subst (λ f. IsKept g f run) (sym file) it.kept;
    placed = it.placed;
    closed = λ p low high may. it.closed p low high (writable_same old new writable p may);
  }

  pub spared_same : KeepsRetired old new → (run : ℕ × ℕ) → IsSpared old run → IsSpared new run
  spared_same retired run it = record {
    remembered = remembered_same run it.remembered;
    closed = λ p low high may. it.closed p low high (subst (λ h. IsFree h p) retired may);
  }

-- ---- each run of the rows is in use

-- all its bytes behind the head are
abbrev Uses : List Extent → ℕ × ℕ → Type 0
Uses used run = (p : ℕ) → 8192 ≤ p → run.0 ≤ p → p < run.0 + run.1 → IsInUse used p

uses_at : (used es : List Extent) → ((p : ℕ) → IsInUse es p → IsInUse used p) → AllByRecursion (Uses used) (runs_at es)
uses_at used [] among = tt
uses_at used (e ∷ es) among = ((λ p behind low high. among p (inl (in_blocks e p behind low high))), uses_at used es (λ p k. among p (inr k)))

pub all_use : (rows : List Row) (used : List Extent) → IsPermutation (runs_of rows) (runs_at used) → AllByRecursion (Uses used) (runs_of rows)
all_use rows used same = all-permutation (Uses used) (runs_at used) (runs_of rows) (IsPermutation-sym _ _ same) (uses_at used used (λ p k. k))

outside_none : (es : List Extent) (p : ℕ) → IsOutside (runs_at es) p → IsInUse es p → ⊥
outside_none [] p all k = k
outside_none (e ∷ es) p all (inl k) = all.0 k.1 k.2
outside_none (e ∷ es) p all (inr k) = outside_none es p all.1 k

-- ---- whether a byte may be written is decided

covers_or : (e : Extent) (p : ℕ) → Covers e p ⊎ (Covers e p → ⊥)
covers_or e p =
    elim (cases_lt p e.at) [
      | inl low ↦ inr (λ k. omega (arith, low, k.0))
      | inr from ↦ elim (cases_lt p (e.at + e.size)) [ inl high ↦ inl (from, high) | inr past ↦ inr (λ k. omega (arith, past, k.1)) ]
    ]

free_or : (holes : List Extent) (p : ℕ) → IsFree holes p ⊎ (IsFree holes p → ⊥)
free_or [] p = inr (λ k. k)
free_or (e ∷ es) p =
    elim (covers_or e p) [
      | inl k ↦ inl (inl k)
      | inr out ↦ elim (free_or es p) [ inl k ↦ inl (inr k) | inr none ↦ inr (λ k. elim k [ inl c ↦ out c | inr f ↦ none f ]) ]
    ]

writable_or : {D : Type 0} {g : Ghosts D} (pack : Pack D g) (p : ℕ) → IsWritable pack p ⊎ ((p < end_of pack) × (IsWritable pack p → ⊥))
writable_or pack p =
    elim (cases_lt p (end_of pack)) [
      | inr past ↦ inl (inr past)
      | inl low ↦ elim (free_or pack.free.holes.items p) [
        | inl k ↦ inl (inl k)
        | inr none ↦ inr (low, λ k. elim k [ inl f ↦ none f | inr past ↦ omega (arith, low, past) ])
      ]
    ]

-- ---- space is reclaimed, and then a new age begins or does not

module _ {D : Type 0} {g : Ghosts D} (old mid new : Pack D g) (used : List Extent)
    (reclaimed : (p : ℕ) → IsRetired mid p ↔ ((8192 ≤ p) × (p < end_of mid) × (IsInUse used p → ⊥) × (IsWritable old p → ⊥)))
    (same : KeepsWritable old mid) (file : file_of mid ≡ file_of old)
    {E : Type 0} (r : Result ⊤ E) (opened : OnOk r ((p : ℕ) → IsWritable new p ↔ (IsWritable mid p ⊎ IsRetired mid p))) (none : OnOk r ((p : ℕ) → IsRetired new p → ⊥))
    (err : OnErr r (KeepsSpace mid new)) (kept : KeepsElsewhere g 0 8192 (file_of mid) (file_of new)) where
  not_used : (p : ℕ) → IsRetired mid p → IsInUse used p → ⊥
  not_used p retired k = let (low, high, unused, closed) = (reclaimed p).0 retired in unused k

  not_writable : (p : ℕ) → IsRetired mid p → IsWritable old p → ⊥
  not_writable p retired k = let (low, high, unused, closed) = (reclaimed p).0 retired in closed k

  pub elsewhere_old : KeepsElsewhere g 0 8192 (file_of old) (file_of new)
  elsewhere_old = subst (λ f. KeepsElsewhere g 0 8192 f (file_of new)) file kept

  remembered_one : (run : ℕ × ℕ) → Uses used run → IsRemembered old run → IsRemembered new run
  remembered_one run uses it = record {
    kept = kept_behind g (file_of old) (file_of new) elsewhere_old run it.kept it.placed.behind;
    placed = it.placed;
    closed = closed r opened err;
  }
    where
      closed : (x : Result ⊤ E) → OnOk x ((p : ℕ) → IsWritable new p ↔ (IsWritable mid p ⊎ IsRetired mid p)) → OnErr x (KeepsSpace mid new)
          → (p : ℕ) → run.0 ≤ p → p < run.0 + run.1 → IsWritable new p → ⊥
      closed (Ok v) so keeps p low high may =
          elim ((so p).0 may) [
            | inl w ↦ it.closed p low high (writable_same old mid same p w)
            | inr t ↦ not_used p t (uses p (omega (arith, it.placed.behind, low)) low high)
          ]
      closed (Err e) so keeps p low high may = it.closed p low high (writable_same old mid same p (writable_same mid new keeps.writable p may))

  spared_one : (run : ℕ × ℕ) → Uses used run → IsSpared old run → IsSpared new run
  spared_one run uses it = record { remembered = remembered_one run uses it.remembered; closed = closed r none err }
    where
      closed : (x : Result ⊤ E) → OnOk x ((p : ℕ) → IsRetired new p → ⊥) → OnErr x (KeepsSpace mid new) → (p : ℕ) → run.0 ≤ p → p < run.0 + run.1 → IsRetired new p → ⊥
      closed (Ok v) so keeps p low high may = so p may
      closed (Err e) so keeps p low high may = not_used p (subst (λ h. IsFree h p) keeps.retired may) (uses p (omega (arith, it.remembered.placed.behind, low)) low high)

  remembered_each : (runs : List (ℕ × ℕ)) → AllByRecursion (Uses used) runs → AllByRecursion (IsRemembered old) runs → AllByRecursion (IsRemembered new) runs
  remembered_each [] uses all = tt
  remembered_each (run ∷ runs) uses all = (remembered_one run uses.0 all.0, remembered_each runs uses.1 all.1)

  spared_each : (runs : List (ℕ × ℕ)) → AllByRecursion (Uses used) runs → AllByRecursion (IsSpared old) runs → AllByRecursion (IsSpared new) runs
  spared_each [] uses all = tt
  spared_each (run ∷ runs) uses all = (spared_one run uses.0 all.0, spared_each runs uses.1 all.1)

  pub remembered_rows : (rows : List Row) → IsPermutation (runs_of rows) (runs_at used) → AllByRecursion (IsRemembered old) (runs_of rows) → AllByRecursion (IsRemembered new) (runs_of rows)
  remembered_rows rows found all = remembered_each (runs_of rows) (all_use rows used found) all

  pub spared_rows : (rows : List Row) → IsPermutation (runs_of rows) (runs_at used) → AllByRecursion (IsSpared old) (runs_of rows) → AllByRecursion (IsSpared new) (runs_of rows)
  spared_rows rows found all = spared_each (runs_of rows) (all_use rows used found) all

  pub apart_still : AreApart new
  apart_still = by r opened none err
    where
      by : (x : Result ⊤ E) → OnOk x ((p : ℕ) → IsWritable new p ↔ (IsWritable mid p ⊎ IsRetired mid p)) → OnOk x ((p : ℕ) → IsRetired new p → ⊥) → OnErr x (KeepsSpace mid new) → AreApart new
      by (Ok v) so gone keeps p may retired = gone p retired
      by (Err e) so gone keeps p may retired =
          not_writable p (subst (λ h. IsFree h p) keeps.retired retired) (writable_same old mid same p (writable_same mid new keeps.writable p may))

  -- what no row names
  pub given_rows : (rows : List Row) → IsPermutation (runs_of rows) (runs_at used) → OnOk r ((p : ℕ) → 8192 ≤ p → IsOutside (runs_of rows) p → IsWritable new p)
  given_rows rows found = by r opened
    where
      back : (p : ℕ) → IsWritable old p → IsWritable mid p
      back p (inl f) = inl (subst (λ h. IsFree h p) (sym same.0) f)
      back p (inr past) = inr (omega (arith, past, same.1))

      outside : (p : ℕ) → IsOutside (runs_of rows) p → IsInUse used p → ⊥
      outside p all = outside_none used p (all-permutation _ (runs_of rows) (runs_at used) found all)

      by : (x : Result ⊤ E) → OnOk x ((p : ℕ) → IsWritable new p ↔ (IsWritable mid p ⊎ IsRetired mid p)) → OnOk x ((p : ℕ) → 8192 ≤ p → IsOutside (runs_of rows) p → IsWritable new p)
      by (Ok v) so = λ p behind all.
          elim (writable_or old p) [
            | inl w ↦ (so p).1 (inl (back p w))
            | inr closed ↦ (so p).1 (inr ((reclaimed p).1 (behind, omega (arith, closed.0, same.1), outside p all, closed.1)))
          ]
      by (Err e) so = tt

-- ---- older databases

module _ {D : Type 0} {g : Ghosts D} (old mid new : Pack D g) (head : head_of mid ≡ head_of old) (file : file_of mid ≡ file_of old) where
  pub refuses_after : (r : Result ⊤ Fault) (age : ℕ) → age ≤ age_of old → (it : Refuses old age) → (r ≡ Err Storage → it.copy ≡ Second)
      → OnOk r ((o : Older) → o.0 ≤ age_of mid → IsRefused g (file_of new) o) → (r ≡ Err Memory → file_of new ≡ file_of mid)
      → OneStands g (file_of mid) (file_of new) (age_of mid + 1) → Refuses new age
  refuses_after (Ok x) age low it second refused memory stands = refused (age, []) (omega (arith, low, ap (λ (h : Head). h.age) head))
  refuses_after (Err Memory) age low it second refused memory stands = subst (λ f. IsRefused g f (age, [])) (sym (memory refl ∙ file)) it
  refuses_after (Err Storage) age low it second refused memory stands =
      let stood : Lasts g (file_of mid) (offset_of Second) (head_bytes it.head) =
      subst (λ f. Lasts g f (offset_of Second) (head_bytes it.head)) (sym file) (subst (λ (c : HeadCopy). Lasts g (file_of old) (offset_of c) (head_bytes it.head)) (second refl) it.lasts) in
      elim (stands it.head stood) [
        | inl lasts ↦ record { copy = Second; head = it.head; lasts = lasts; higher = it.higher }
        | inr first ↦ record { copy = First; head = first.0; lasts = first.1.1; higher = omega (arith, low, first.1.0, ap (λ (h : Head). h.age) head) }
      ]
