-- What a settled connection is after a call.
use Rattle.std.proofs.Common.{◌≡◌, ◌∙◌, ℕ, List, [], inl, inr, false, Ok, Err, Result, IfOk, IfErr, sym, subst, refl}
use Rattle.std.specs.Prelude.{IsTrue}
use Rattle.sqlite.specs.Effect.{Database}
use Rattle.sqlite.specs.Order.{Row}
use Rattle.sqlite.specs.declared.error.Error.{Error}
use Rattle.sqlite.specs.State.{State, IsNotRun, IsUnchanged, Shows}
use Rattle.oci_types.specs.declared.fault.Fault.{Fault}
use Rattle.oci_types.specs.declared.fault.Fault.TheVariants.{Memory, Storage}
use Rattle.store_contents.specs.Layouts.{Layout}
use Rattle.store_statements.specs.Registry.{Agree}
use Rattle.store_statements.specs.Held.{IsSettled, StaysSettled, HoldsTables, LeavesAsWas, IsBack, tables_in, is_storage}

-- it was only read
pub stays_read : {l : Layout} → (old new : State) → IsSettled l old → IsUnchanged old new → StaysSettled l old new
stays_read {l} old new s u = (
  record {
    is_open = u.0.is_open;
    autocommit = u.0.mode ∙ s.autocommit;
    committed = u.0.now_is ∙ s.committed ∙ sym u.0.committed_is;
    holds = subst (HoldsTables l) (sym u.0.now_is) s.holds;
    agree = subst (λ (d : Database). Agree (tables_in l d)) (sym u.0.now_is) s.agree;
  },
  u.0.now_is,
)

same_rows : {l : Layout} → (old mid : State) → IsSettled l old → LeavesAsWas old mid → IsTrue mid.is_open → mid.now ≡ old.now
same_rows {l} old mid s (inl u) was = u.0.now_is
same_rows {l} old mid s (inr r) was = (r.undone was).0 ∙ sym s.committed

-- a statement failed, and then the connection was seen to be open
pub stays_failed : {l : Layout} → (old mid new : State) → IsSettled l old → LeavesAsWas old mid → Shows mid new mid.now mid.now false → StaysSettled l old new
stays_failed {l} old mid new s left shows =
    let same : new.now ≡ old.now = shows.now_is ∙ same_rows old mid s left shows.was_open in (
      record {
        is_open = shows.is_open;
        autocommit = shows.mode;
        committed = shows.now_is ∙ sym shows.committed_is;
        holds = subst (HoldsTables l) (sym same) s.holds;
        agree = subst (λ (d : Database). Agree (tables_in l d)) (sym same) s.agree;
      },
      same,
    )

pub stays_then : {l : Layout} → (a b c : State) → StaysSettled l a b → StaysSettled l b c → StaysSettled l a c
stays_then {l} a b c p q = (q.0, q.1 ∙ p.1)

pub is_memory : (X : Type 0) (f : Fault) → is_storage {A = X} (Err f) ≡ false → f ≡ Memory
is_memory X Memory e = refl
is_memory X Storage e = absurd cc

-- ---- where it is open, it is what it was

-- a statement failed
pub back_left : {l : Layout} → (old mid : State) → IsSettled l old → LeavesAsWas old mid → IsBack old mid
back_left {l} old mid s (inl u) is_open = (u.0.now_is, u.0.committed_is)
back_left {l} old mid s (inr r) is_open = ((r.undone is_open).0 ∙ sym s.committed, (r.undone is_open).1)

-- a statement was only asked for
pub left_by_prepare : {A : Type 0} (sql : List ℕ) (old new : State) (r : Result A Error) (P : A → Type 0) → IfOk r (λ s. P s × IsUnchanged old new) → IfErr r (λ e. (params : Row) → IsNotRun old new sql params e) → LeavesAsWas old new
unfolding IsNotRun
left_by_prepare sql old new (Ok s) P ok err = inl ok.1
left_by_prepare sql old new (Err e) P ok err = elim (err []) [ inl same ↦ inl same.1 | inr fails ↦ inr fails.3 ]

-- and one more behind it
pub back_behind : {l : Layout} → (old mid new : State) → IsSettled l old → IsBack old mid → LeavesAsWas mid new → IsBack old new
back_behind {l} old mid new s back (inl u) is_open =
    let was = back u.0.was_open in
    (u.0.now_is ∙ was.0, u.0.committed_is ∙ was.1)
back_behind {l} old mid new s back (inr r) is_open =
    let was = back (r.was_open is_open) in
    ((r.undone is_open).0 ∙ was.1 ∙ sym s.committed, (r.undone is_open).1 ∙ was.1)

-- it is what it was
pub back_stayed : {l : Layout} → (old new : State) → IsSettled l old → StaysSettled l old new → IsBack old new
back_stayed {l} old new s stays is_open = (stays.1, sym stays.0.committed ∙ stays.1 ∙ s.committed)
