-- What a transaction of one piece of work leaves.
use Rattle.std.proofs.Common.{◌≡◌, inl, inr, Ok, Err, Result, IfOk, OnOk, OnErr, true≢false, refl, sym, ap, subst, ◌∙◌}
use Rattle.std.specs.Prelude.{IsOk, IsTrue, false}
use Rattle.sqlite.specs.Schema.{Schema}
use Rattle.sqlite.specs.Tree.{Trees}
use Rattle.sqlite.specs.declared.error.Error.{Error}
use Rattle.sqlite.specs.Effect.{Database}
use Rattle.sqlite.specs.State.{State, HasCleanDisk, IsRolledBack, KeepsCommit, Shows, Survives}
use Rattle.sqlite.specs.Steps.{FailsToCommit}
use Rattle.sqlite.proofs.StateLemmas.{survives_weaker}
use Rattle.store_schema.proofs.Selects.{was_clean}
use Rattle.oci_types.specs.declared.fault.Fault.{Fault}
use Rattle.store_contents.specs.Places.{HoldsPlaces}
use Rattle.store_places.specs.Places.{IsInside}
use Rattle.store_pack.specs.Commits.{IsSettled, IsBack, Stays, Becomes, Outcomes, Ends, with_trees}

-- ---- its end

failed_undone : (mid new : State) (e : Error) → IsTrue mid.in_transaction → FailsToCommit mid new e → IsRolledBack mid new
failed_undone mid new e inside (inl fails) = fails.3
failed_undone mid new e inside (inr late) = absurd (true≢false (sym inside ∙ late.1))

was_done : {A E P : Type 0} (d : Result A E) (x : A) → d ≡ Ok x → OnOk d P → P
was_done {P = P} d x is h = subst (λ v. OnOk v P) is h

module _ {A : Type 0} (mid new : State) (done : Result A Fault) where
  tried : (x : A) → done ≡ Ok x → Survives mid new (λ db. db ≡ mid.now.trees) → Survives mid new (λ db. IsOk done × (db ≡ mid.now.trees))
  tried x is it = survives_weaker mid new (λ db. db ≡ mid.now.trees) (λ db. IsOk done × (db ≡ mid.now.trees)) (λ clean db e. (subst IsOk (sym is) refl, e)) it

  pub ends_committed : (x : A) → done ≡ Ok x → (HasCleanDisk new → Shows mid new mid.now mid.now false) → new.in_transaction ≡ false → Survives mid new (λ db. db ≡ mid.now.trees) → Ends mid new done (Ok x)
  ends_committed x is shows out survives = record { told = is; committed = shows; undone = λ clean inside. tt; autocommit = out; survives = tried x is survives }

  pub ends_refused : (x : A) (fault : Fault) (e : Error) → done ≡ Ok x → (HasCleanDisk new → FailsToCommit mid new e) → new.in_transaction ≡ false → Survives mid new (λ db. db ≡ mid.now.trees) → Ends mid new done (Err fault)
  ends_refused x fault e is fails out survives = record {
    told = tt;
    committed = λ clean. tt;
    undone = λ clean inside. failed_undone mid new e (was_done done x is inside) (fails clean);
    autocommit = out;
    survives = tried x is survives;
  }

  pub ends_given_up : (fault : Fault) → (HasCleanDisk new → IsRolledBack mid new) → new.in_transaction ≡ false → Survives mid new (λ _. ⊥) → Ends mid new done (Err fault)
  ends_given_up fault undone out survives = record {
    told = tt;
    committed = λ clean. tt;
    undone = λ clean inside. undone clean;
    autocommit = out;
    survives = survives_weaker mid new (λ _. ⊥) (λ db. IsOk done × (db ≡ mid.now.trees)) (λ clean db none. absurd none) survives;
  }

-- ---- the whole of it

-- `first` is the connection in the transaction that was begun, `mid` the one behind its work
module _ {A : Type 0} (P : Database → Database → A → Type 0) (keeps : (a b : Database) (v : A) → P a b v → b.schema ≡ a.schema) (old first mid new : State) (done result : Result A Fault)
    (begun : first.now ≡ old.now) (begun_committed : first.committed ≡ old.committed) (begun_inside : IsTrue first.in_transaction)
    (begun_leaves : (db : Trees) → first.may_leave db → old.may_leave db)
    (settled : (db : Trees) → IsTrue old.is_open → old.may_leave db → db ≡ old.committed.trees)
    (did : HasCleanDisk mid → IsInside first → IfOk done (λ v. P first.now mid.now v × IsInside mid))
    (kept : HasCleanDisk mid → IsInside first → KeepsCommit first mid)
    (worked : Survives first mid (λ _. ⊥)) (ends : Ends mid new done result) (clean : HasCleanDisk new) (is : IsSettled old) where
  inside : IsInside first
  inside = record { inside = begun_inside; holds = subst HoldsPlaces (sym begun) is.holds }

  late : HasCleanDisk mid
  late = was_clean ends.survives clean

  did_so : IfOk done (λ v. P old.now mid.now v × IsInside mid)
  did_so = subst (λ (d : Database). IfOk done (λ v. P d mid.now v × IsInside mid)) begun (did late inside)

  stayed_inside : (d : Result A Fault) → IfOk d (λ v. P old.now mid.now v × IsInside mid) → OnOk d (IsTrue mid.in_transaction)
  stayed_inside (Ok x) p = p.1.inside
  stayed_inside (Err e) p = tt

  pub becomes : IfOk result (λ v. Becomes P old new v)
  becomes = by result ends.told (ends.committed clean)
    where
      by : (r : Result A Fault) → IfOk r (λ v. done ≡ Ok v) → OnOk r (Shows mid new mid.now mid.now false) → IfOk r (λ v. Becomes P old new v)
      by (Err e) told shows = tt
      by (Ok v) told shows =
          let p : P old.now mid.now v × IsInside mid = subst (λ (d : Result A Fault). IfOk d (λ x. P old.now mid.now x × IsInside mid)) told did_so in (
            record { is_open = shows.is_open; autocommit = shows.mode; committed = shows.now_is ∙ sym shows.committed_is; holds = subst HoldsPlaces (sym shows.now_is) p.1.holds },
            subst (λ (db : Database). P old.now db v) (sym shows.now_is) p.0,
          )

  pub goes_back : OnErr result (IsBack old new)
  goes_back = by result (ends.undone clean (stayed_inside done did_so))
    where
      by : (r : Result A Fault) → OnErr r (IsRolledBack mid new) → OnErr r (IsBack old new)
      by (Ok x) h = tt
      by (Err e) h = record {
        same = λ opened.
            let here = (kept late inside).committed (h.was_open opened) in
            ((h.undone opened).0 ∙ here ∙ begun_committed ∙ sym is.committed, (h.undone opened).1 ∙ here ∙ begun_committed);
        autocommit = h.autocommit;
      }

  pub outcomes : Outcomes P old new
  outcomes db may = elim (ends.survives.crash clean db may) [
    | inl before ↦ elim (worked.crash late db before) [
      | inl first_may ↦ inl (settled db is.is_open (begun_leaves db first_may) ∙ ap (λ (d : Database). d.trees) (sym is.committed))
      | inr none ↦ absurd none
    ]
    | inr now ↦ inr (by done now.0 did_so now.1)
  ]
    where
      by : (d : Result A Fault) → IsOk d → IfOk d (λ v. P old.now mid.now v × IsInside mid) → db ≡ mid.now.trees → (v : A) × P old.now (with_trees old.now db) v
      by (Err e) some p e2 = absurd (let x = some in cc)
      by (Ok v) some p e2 =
          let same : mid.now ≡ with_trees old.now db = ap (λ (s : Schema). record { schema = s; trees = mid.now.trees }) (keeps old.now mid.now v p.0) ∙ ap (λ (t : Trees). with_trees old.now t) (sym e2) in
          (v, subst (λ (x : Database). P old.now x v) same p.0)

-- ---- want of memory is told of an open connection

pub stays_back : (old mid new : State) → IsSettled old → IsBack old mid → Shows mid new mid.now mid.now false → Stays old new
stays_back old mid new is back shows =
    let it = back.same shows.was_open in
    let now : new.now ≡ old.now = shows.now_is ∙ it.0 in (
      record { is_open = shows.is_open; autocommit = shows.mode; committed = shows.now_is ∙ sym shows.committed_is; holds = subst HoldsPlaces (sym now) is.holds },
      now,
    )

pub outcomes_then : {A : Type 0} (P : Database → Database → A → Type 0) (old mid new : State) → HasCleanDisk new → Survives mid new (λ _. ⊥) → Outcomes P old mid → Outcomes P old new
outcomes_then P old mid new clean s o db may = elim (s.crash clean db may) [ inl before ↦ o db before | inr none ↦ absurd none ]
