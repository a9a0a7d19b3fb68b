-- Rows and bytes while a new age begins.
use Rattle.std.proofs.Common.{◌≡◌, inl, inr, ℕ, List, Ok, Err, Result, refl, sym, ap, subst, ◌∙◌, arith}
use Rattle.std.specs.Prelude.{IsOk, option_map, find, ⊤}
use Rattle.sqlite.specs.Order.{Row}
use Rattle.sqlite.specs.Tree.{Trees, has_rowid}
use Rattle.sqlite.specs.Effect.{Database}
use Rattle.sqlite.specs.State.{State}
use Rattle.sqlite_disk.specs.declared.Disk.{Ghosts}
use Rattle.oci_types.specs.declared.fault.Fault.{Fault}
use Rattle.oci_types.specs.declared.fault.Fault.TheVariants.{Memory, Storage}
use Rattle.registry_pack.specs.Standing.{KeepsElsewhere}
use Rattle.store_pack.specs.Commits.{IsSettled, Stays, Outcomes, with_trees}
use Rattle.store_pack.specs.Pack.{MayPutPack, PutsPack}
use Rattle.store_contents.specs.Places.{bytes_in, content_rows, joined, place_rows, places_of, runs_of}
use Rattle.store_pack.specs.Joint.{AreKept, IsJoint, IsSame, IsFree, CrashesInto}
use Rattle.store_pack.proofs.JointLemmas.{joint_written, same_world}

-- the bytes of a file depend on the rows of both tables alone
pub same_rows : (a b : Database) → content_rows a ≡ content_rows b → place_rows a ≡ place_rows b → (file : List ℕ) → IsSame (bytes_in a file) (bytes_in b file)
same_rows a b contents places file i =
    ap (λ (rows : List Row). option_map (λ _. joined file (places_of (place_rows a) i)) (find (has_rowid i) rows)) contents
    ∙ ap (λ (rows : List Row). option_map (λ _. joined file (places_of rows i)) (find (has_rowid i) (content_rows b))) places

pub elsewhere_itself : {D : Type 0} (g : Ghosts D) (at n : ℕ) (file : D) → KeepsElsewhere g at n file file
elsewhere_itself g at n file = record { stands = λ a bytes apart was. was; lasts = λ a bytes apart was. was; no_shorter = omega arith; clean = λ is. is }

module _ {D : Type 0} (g : Ghosts D) (old : State) (was is : D) (kept : KeepsElsewhere g 0 8192 was is) (joint : IsJoint old g was) (free : IsFree 0 8192 (runs_of (place_rows old.now))) where
  both : IsJoint old g is × IsSame (bytes_in old.now (g.seen is)) (bytes_in old.now (g.seen was))
  both = joint_written g was is 0 8192 kept old joint free

  pub crashes_aged : {A : Type 0} (new : State) (mark : List ℕ) (age : ℕ) → Outcomes (λ a b (v : A). PutsPack a b mark age) old new → CrashesInto old new g was is (λ w. IsSame w (bytes_in old.now (g.seen was)))
  crashes_aged new mark age outcomes db may c left =
      let here : IsSame (bytes_in old.now c) (bytes_in old.now (g.seen was)) = λ i. same_world g is (g.seen is) old.now c refl left both.0.kept i ∙ both.1 i in
      elim (outcomes db may) [
        | inl same ↦ inl (subst (λ (t : Trees). IsSame (bytes_in (with_trees old.now t) c) (bytes_in old.now (g.seen was))) (sym same) here)
        | inr put ↦ inr (λ i. same_rows (with_trees old.now db) old.now put.1.contents put.1.places c i ∙ here i)
      ]

  pub joint_aged : (new : State) (mark : List ℕ) (age : ℕ) → IsSettled new × PutsPack old.now new.now mark age → IsJoint new g is × IsSame (bytes_in new.now (g.seen is)) (bytes_in old.now (g.seen was))
  joint_aged new mark age put = (
    record { settled = put.0; kept = subst (λ rows. AreKept g is (runs_of rows)) (sym put.1.places) both.0.kept },
    λ i. same_rows new.now old.now put.1.contents put.1.places (g.seen is) i ∙ both.1 i,
  )

  pub joint_stayed : (new : State) → Stays old new → IsJoint new g is × IsSame (bytes_in new.now (g.seen is)) (bytes_in old.now (g.seen was))
  joint_stayed new stays = (
    record { settled = stays.0; kept = subst (λ (d : Database). AreKept g is (runs_of (place_rows d))) (sym stays.1) both.0.kept },
    λ i. ap (λ (d : Database). bytes_in d (g.seen is) i) stays.1 ∙ both.1 i,
  )

-- by the result of the rows' part
pub joint_by : {D : Type 0} (g : Ghosts D) (old new : State) (was is : D) → KeepsElsewhere g 0 8192 was is → IsJoint old g was → IsFree 0 8192 (runs_of (place_rows old.now)) → (r : Result ⊤ Fault) → (r ≡ Err Memory → Stays old new) → (r ≡ Err Storage → ⊥) → (IsOk r → ⊥)
    → IsJoint new g is × IsSame (bytes_in new.now (g.seen is)) (bytes_in old.now (g.seen was))
joint_by g old new was is kept joint free (Ok x) memory lives failed = absurd (failed refl)
joint_by g old new was is kept joint free (Err Memory) memory lives failed = joint_stayed g old was is kept joint free new (memory refl)
joint_by g old new was is kept joint free (Err Storage) memory lives failed = absurd (lives refl)

-- where it is no failure of the storage, memory was wanting
pub wanting : (fault : Fault) (P : Type 0) → (fault ≡ Memory → P) → (◌≡◌ {A = Result ⊤ Fault} (Err fault) (Err Storage) → ⊥) → P
wanting Memory P so lives = so refl
wanting Storage P so lives = absurd (lives refl)

-- ---- the rows say the age, which is this

pub raised_by : (old new : State) (mark : List ℕ) (age other : ℕ) → age ≡ other → IsSettled new × PutsPack old.now new.now mark age → IsSettled new × MayPutPack old.now new.now mark other
raised_by old new mark age other same put = (put.0, inr (subst (λ n. PutsPack old.now new.now mark n) same put.1))

pub outcomes_at : (old new : State) (mark : List ℕ) (age other : ℕ) → age ≡ other → Outcomes (λ a b (v : ⊤). PutsPack a b mark age) old new → Outcomes (λ a b (v : ⊤). PutsPack a b mark other) old new
outcomes_at old new mark age other same outcomes = subst (λ n. Outcomes (λ a b (v : ⊤). PutsPack a b mark n) old new) same outcomes
