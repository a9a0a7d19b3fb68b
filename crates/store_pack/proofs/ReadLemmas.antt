-- What a read between transactions leaves and tells: a query, what is read of its rows, and a look at the connection where either failed.
use Rattle.std.proofs.Common.{◌≡◌, ◌⊎◌, ◌∙◌, ℕ, List, inl, inr, false, Ok, Err, Result, OnOk, IfOk, IfErr, sym, ap, subst, refl}
use Rattle.std.specs.Prelude.{IsErrAnd, IsOk, Vec}
use Rattle.std.specs.declared.alloc.Global.{Global}
use Rattle.sqlite_trees.specs.declared.store.Store.{Ghosts}
use Rattle.sqlite.specs.Effect.{Database}
use Rattle.sqlite.specs.Order.{Row}
use Rattle.sqlite.specs.Given.{IsPlain}
use Rattle.sqlite.specs.Listing.{understood}
use Rattle.sqlite.specs.State.{State, HasCleanDisk, IsUnchanged, Shown, Shows, FailsToQuery, Survives, CommitsShowing}
use Rattle.sqlite.specs.Held.{Held, state}
use Rattle.sqlite.proofs.Callers.{unchanged_then}
use Rattle.oci_types.specs.declared.fault.Fault.{Fault}
use Rattle.oci_types.specs.declared.fault.Fault.TheVariants.{Memory}
use Rattle.store_schema.proofs.Selects.{Answer, leaves_all, query_survives, survives_both, was_clean}
use Rattle.store_statements.specs.Held.{LeavesAsWas, IsBack, IsKept, is_storage}
use Rattle.store_statements.specs.Told.{IsRead, Checked}
use Rattle.store_statements.proofs.Crashes.{CrashLaw, none_more}
use Rattle.store_statements.proofs.ReadRows.{value_told}
use Rattle.store_statements.proofs.SelectedRows.{leaves_failed}
use Rattle.store_statements.proofs.SettledAfter.{is_memory}
use Rattle.store_statements.proofs.Transactions.{survives_all}
use Rattle.store_contents.specs.Places.{HoldsPlaces}
use Rattle.store_pack.specs.Commits.{IsSettled, Stays}
use Rattle.store_pack.specs.Reads.{Reads}

-- ---- a settled connection

stays_read : (old new : State) → IsSettled old → IsUnchanged old new → Stays old new
stays_read old new is u = (
  record {
    is_open = u.0.is_open;
    autocommit = u.0.mode ∙ is.autocommit;
    committed = u.0.now_is ∙ is.committed ∙ sym u.0.committed_is;
    holds = subst HoldsPlaces (sym u.0.now_is) is.holds;
  },
  u.0.now_is,
)

back_left : (old mid : State) → IsSettled old → LeavesAsWas old mid → IsBack old mid
back_left old mid is (inl u) is_open = (u.0.now_is, u.0.committed_is)
back_left old mid is (inr r) is_open = ((r.undone is_open).0 ∙ sym is.committed, (r.undone is_open).1)

back_behind : (old mid new : State) → IsSettled old → IsBack old mid → LeavesAsWas mid new → IsBack old new
back_behind old mid new is back (inl u) is_open =
    let was = back u.0.was_open in
    (u.0.now_is ∙ was.0, u.0.committed_is ∙ was.1)
back_behind old mid new is back (inr r) is_open =
    let was = back (r.was_open is_open) in
    ((r.undone is_open).0 ∙ was.1 ∙ sym is.committed, (r.undone is_open).1 ∙ was.1)

back_either : {S : Type 0} (g : Ghosts S) (old mid new : Held S) → IsSettled (state g old) → IsBack (state g old) (state g mid) → (new ≡ mid) ⊎ LeavesAsWas (state g mid) (state g new) → IsBack (state g old) (state g new)
back_either g old mid new is back (inl same) = subst (λ (h : Held _). IsBack (state g old) (state g h)) (sym same) back
back_either g old mid new is back (inr left) = back_behind (state g old) (state g mid) (state g new) is back left

-- a statement failed, and then the connection was seen to be open
stays_failed : (old mid new : State) → IsSettled old → LeavesAsWas old mid → Shows mid new mid.now mid.now false → Stays old new
stays_failed old mid new is left shows =
    let same : new.now ≡ old.now = shows.now_is ∙ (back_left old mid is left shows.was_open).0 in (
      record { is_open = shows.is_open; autocommit = shows.mode; committed = shows.now_is ∙ sym shows.committed_is; holds = subst HoldsPlaces (sym same) is.holds },
      same,
    )

-- ---- a query

left_as_was : (old mid : State) (rows : Answer) → OnOk rows (IsUnchanged old mid) → IfErr rows (λ _. LeavesAsWas old mid) → LeavesAsWas old mid
left_as_was old mid (Ok xs) same err = inl same
left_as_was old mid (Err e) same err = err

were_shown : {A P : Type 0} (rows : Answer) (read : Result A Fault) (v : A) → read ≡ Ok v → OnOk read (IsOk rows) → OnOk rows P → P
were_shown (Ok xs) read v is shown p = p
were_shown (Err e) (Ok w) v is shown p = absurd cc
were_shown (Err e) (Err f) v is shown p = absurd cc

module _ {S : Type 0} (g : Ghosts S) (law : CrashLaw g) (old mid new : Held S) (sql : List ℕ) (row : Row) (rows : Answer)
    (ok : HasCleanDisk (state g mid) → IfOk rows (λ xs. Shown sql row (state g old) (state g mid) xs.items))
    (err : HasCleanDisk (state g mid) → IfErr rows (FailsToQuery sql row (state g old) (state g mid)))
    (ran : Survives (state g old) (state g mid) (CommitsShowing sql row (state g old)))
    (plain : HoldsPlaces (state g old).now → IsPlain (understood (state g old).now.schema sql))
    {A : Type 0} (P : List Row → A → Type 0) (read r : Result A Fault) (it : IsRead rows read P) (checks : Checked g mid new read r) where
  late : HasCleanDisk (state g new) → HasCleanDisk (state g mid)
  late clean = was_clean checks.survives clean

  same_rows : HasCleanDisk (state g new) → HoldsPlaces (state g old).now → OnOk rows (IsUnchanged (state g old) (state g mid))
  same_rows clean is = leaves_all sql row (state g old) (state g mid) rows (plain is) (ok (late clean))

  left : HasCleanDisk (state g new) → HoldsPlaces (state g old).now → LeavesAsWas (state g old) (state g mid)
  left clean is = left_as_was (state g old) (state g mid) rows (same_rows clean is) (leaves_failed sql row (state g old) (state g mid) rows (plain is) (err (late clean)))

  same : HasCleanDisk (state g new) → HoldsPlaces (state g old).now → OnOk r (IsUnchanged (state g old) (state g new))
  same clean is = by r checks.told
    where
      by : (out : Result A Fault) → IfOk out (λ v. (read ≡ Ok v) × (new ≡ mid)) → OnOk out (IsUnchanged (state g old) (state g new))
      by (Err f) told = tt
      by (Ok v) told = subst (λ (h : Held S). IsUnchanged (state g old) (state g h)) (sym told.1) (were_shown rows read v told.0 it.shown (same_rows clean is))

  settled : HasCleanDisk (state g new) → IsSettled (state g old) → is_storage r ≡ false → Stays (state g old) (state g new)
  settled clean is unspent = by r (same clean is.holds) (λ e. (checks.memory clean e).1) unspent
    where
      by : (out : Result A Fault) → OnOk out (IsUnchanged (state g old) (state g new)) → (out ≡ Err Memory → Shows (state g mid) (state g new) (state g mid).now (state g mid).now false) → is_storage out ≡ false → Stays (state g old) (state g new)
      by (Ok v) same memory unspent = stays_read (state g old) (state g new) is same
      by (Err f) same memory unspent = stays_failed (state g old) (state g mid) (state g new) is (left clean is.holds) (memory (ap Err (is_memory A f unspent)))

  quiet : (HasCleanDisk (state g old) → HoldsPlaces (state g old).now) → Survives (state g old) (state g new) (λ _. ⊥)
  quiet is = survives_both (state g old) (state g mid) (state g new) (query_survives sql row (state g old) (state g mid) (λ early. plain (is early)) ran) checks.survives

  kept : HasCleanDisk (state g new) → IsSettled (state g old) → IsKept (state g old) (state g new)
  kept clean is = record {
    back = back_either g old mid new is (back_left (state g old) (state g mid) is (left clean is.holds)) (checks.left clean);
    crash = λ db may. law old.store db is.is_open (none_more ((quiet (λ early. is.holds)).crash clean db may)) ∙ ap (λ (d : Database). d.trees) (sym is.committed);
  }

  -- the value is this of the rows, since those that are shown are that of them
  pub reads : (params : Row) → row ≡ params → (T : Database → A → Type 0) (Q : Vec Row Global → Type 0)
      → (HoldsPlaces (state g old).now → IfOk rows (λ xs. Shown sql params (state g old) (state g mid) xs.items) → IfOk rows Q)
      → ((xs : Vec Row Global) (v : A) → Q xs → P xs.items v → T (state g old).now v) → Reads g old new r T
  reads params are T Q shows then = record {
    found = λ clean is.
        value_told (T (state g old).now) Q P then (λ _. new ≡ mid) rows read r it checks.told
        (shows is (subst (λ p. IfOk rows (λ xs. Shown sql p (state g old) (state g mid) xs.items)) are (ok (late clean))));
    same = same;
    settled = settled;
    kept = kept;
    survives = quiet;
    lasts = survives_all (state g old) (state g mid) (state g new) _ _ ran checks.survives;
  }

-- ---- a fault is handed on

pub same_fault : (A : Type 0) {B : Type 0} (x : Fault) (r : Result B Fault) → IsErrAnd r (λ y. y ≡ x) → is_storage r ≡ false → is_storage {A = A} (Err x) ≡ false
same_fault A x (Ok v) e h = absurd e
same_fault A x (Err y) e h = subst (λ f. is_storage {A = A} (Err f) ≡ false) e h

pub nothing_found : {A : Type 0} (T : A → Type 0) (Q : Fault → Type 0) (r : Result A Fault) → IsErrAnd r Q → IfOk r T
nothing_found T Q (Ok v) e = absurd e
nothing_found T Q (Err y) e = tt

pub not_done : {A : Type 0} (P : Type 0) (Q : Fault → Type 0) (r : Result A Fault) → IsErrAnd r Q → OnOk r P
not_done P Q (Ok v) e = absurd e
not_done P Q (Err y) e = tt

pub reads_failed : {S : Type 0} (g : Ghosts S) (old new : Held S) {A B : Type 0} (x : Fault) (r : Result B Fault) (P : Database → A → Type 0) (T : Database → B → Type 0) → Reads g old new (Err x) P → IsErrAnd r (λ y. y ≡ x) → Reads g old new r T
reads_failed g old new {A = A} x r P T it e = record {
  found = λ clean is. nothing_found _ _ r e;
  same = λ clean is. not_done _ _ r e;
  settled = λ clean is unspent. it.settled clean is (same_fault A x r e unspent);
  kept = it.kept;
  survives = it.survives;
  lasts = it.lasts;
}

-- ---- two reads

module _ {S : Type 0} (g : Ghosts S) (old mid new : Held S) {A B C : Type 0} (P : Database → A → Type 0) (Q : Database → B → Type 0) (T : Database → C → Type 0) (v : A)
    (second : Result B Fault) (r : Result C Fault) (one : Reads g old mid (Ok v) P) (two : Reads g mid new second Q) where
  early : HasCleanDisk (state g new) → HasCleanDisk (state g mid)
  early clean = was_clean two.lasts clean

  still : HasCleanDisk (state g mid) → HoldsPlaces (state g old).now → HoldsPlaces (state g mid).now
  still clean is = subst HoldsPlaces (sym (one.same clean is).0.now_is) is

  -- where the first found something, the whole is as the second
  pub reads_then : (OnOk r (IsOk second)) → (is_storage r ≡ false → is_storage second ≡ false) → (HoldsPlaces (state g old).now → P (state g old).now v → IfOk second (Q (state g old).now) → IfOk r (T (state g old).now)) → Reads g old new r T
  reads_then done unspent then = record {
    found = λ clean is.
        let before = early clean in
        then is (one.found before is) (subst (λ (d : Database). IfOk second (Q d)) (one.same before is).0.now_is (two.found clean (still before is)));
    same = λ clean is. let before = early clean in by r done (one.same before is) (two.same clean (still before is));
    settled = λ clean is e.
        let first = one.settled (early clean) is refl in
        let then = two.settled clean first.0 (unspent e) in
        (then.0, then.1 ∙ first.1);
    kept = λ clean is.
        let first = one.settled (early clean) is refl in
        let then = two.kept clean first.0 in
        record {
          back = λ is_open. let was = then.back is_open in (was.0 ∙ first.1, was.1 ∙ sym first.0.committed ∙ first.1 ∙ is.committed);
          crash = λ db may. then.crash db may ∙ ap (λ (d : Database). d.trees) first.1;
        };
    survives = λ is.
        let first = one.survives is in
        survives_both (state g old) (state g mid) (state g new) first (two.survives (λ clean. still clean (is (was_clean one.lasts clean))));
    lasts = survives_all (state g old) (state g mid) (state g new) _ _ one.lasts two.lasts;
  }
    where
      by : (out : Result C Fault) → OnOk out (IsOk second) → IsUnchanged (state g old) (state g mid) → OnOk second (IsUnchanged (state g mid) (state g new)) → OnOk out (IsUnchanged (state g old) (state g new))
      by (Err f) done first then = tt
      by (Ok c) done first then = unchanged_then (state g old) (state g mid) (state g new) first (shown second done then)
        where
          shown : (s : Result B Fault) → IsOk s → OnOk s (IsUnchanged (state g mid) (state g new)) → IsUnchanged (state g mid) (state g new)
          shown (Ok b) done u = u
          shown (Err e) done u = absurd cc
