-- What a transaction that does one piece of work leaves.
use Rattle.std.proofs.Common.{◌≡◌, ◌∙◌, inl, inr, false, true, true≢false, Ok, Err, Result, OnErr, sym, ap, subst, refl}
use Rattle.std.specs.Prelude.{IsTrue, ⊤}
use Rattle.sqlite.specs.declared.error.Error.{Error}
use Rattle.sqlite.specs.State.{State, IsRolledBack, KeepsCommit, Shows, Survives}
use Rattle.sqlite.specs.Steps.{FailsToCommit}
use Rattle.sqlite.specs.Tree.{Trees}
use Rattle.sqlite.proofs.StateLemmas.{survives_then}
use Rattle.sqlite.specs.Effect.{Database}
use Rattle.registry_model.specs.World.{World}
use Rattle.store_contents.specs.Layouts.{Layout}
use Rattle.store_statements.specs.Tables.{Tables}
use Rattle.store_statements.specs.Registry.{IsRegistry, Agree}
use Rattle.store_statements.specs.World.{world_of}
use Rattle.store_statements.specs.Held.{HoldsTables, IsReady, IsSettled, StaysSettled, Becomes, Commits, SettlesOn, IsBack, tables_in, held}

-- it was committed
pub commits : {l : Layout} → (mid end : State) (t : Tables) → Becomes l mid t → Shows mid end mid.now mid.now false → Commits l end t
commits {l} mid end t b shows = record {
  is_open = shows.is_open;
  autocommit = shows.mode;
  committed = shows.now_is ∙ sym shows.committed_is;
  holds = subst (HoldsTables l) (sym shows.now_is) b.0.holds;
  tables = ap (tables_in l) shows.now_is ∙ b.1;
}

-- it was rolled back
pub undone_back : (old first mid end : State) → old.now ≡ old.committed → first.committed ≡ old.committed → KeepsCommit first mid → IsRolledBack mid end → IsBack old end
undone_back old first mid end clean same kept undone is_open =
    let was = undone.was_open is_open in
    let here = kept.committed was in
    ((undone.undone is_open).0 ∙ here ∙ same ∙ sym clean, (undone.undone is_open).1 ∙ here ∙ same)

-- the commit failed
pub failed_back : (old first mid end : State) (e : Error) → old.now ≡ old.committed → first.committed ≡ old.committed → KeepsCommit first mid → IsTrue mid.in_transaction → FailsToCommit mid end e → IsBack old end
failed_back old first mid end e clean same kept inside (inl fails) = undone_back old first mid end clean same kept fails.3
failed_back old first mid end e clean same kept inside (inr late) = absurd (true≢false (inside_true ∙ late.1))
  where
    inside_true : true ≡ mid.in_transaction
    inside_true = go mid.in_transaction inside
      where
        go : (b : Rattle.std.specs.Prelude.Bool) → IsTrue b → true ≡ b
        go true h = refl
        go false h = sym h

-- the same of a store that was settled
pub back_dropped : {l : Layout} → (old first mid end : State) → IsSettled l old → first.committed ≡ old.committed → KeepsCommit first mid → IsRolledBack mid end → IsBack old end
back_dropped {l} old first mid end s same kept undone = undone_back old first mid end s.committed same kept undone

-- a store that survived all of it survives, whatever was committed
pub survives_all : (a b c : State) (P Q : Trees → Type 0) → Survives a b P → Survives b c Q → Survives a c (λ _. ⊤)
survives_all a b c P Q p q = survives_then a b c P Q (λ _. ⊤) (λ clean db x. tt) (λ clean db x. tt) p q

-- a transaction that begins
pub ready : {l : Layout} → (s : State) → IsSettled l s → IsReady l (record s { in_transaction = true })
ready {l} s settled = record { inside = refl; holds = settled.holds }

-- what the store's caller is told

pub registry : {l : Layout} → (s : State) → IsSettled l s → IsRegistry (held l s)
registry {l} s it = record { tables = it.holds.tables; agree = it.agree }

pub makes : {l : Layout} → (s : State) (t : Tables) (w : World) → Commits l s t → (world_of t ≡ w) × IsRegistry t → SettlesOn l s w
makes {l} s t w c it = (
  record {
    is_open = c.is_open;
    autocommit = c.autocommit;
    committed = c.committed;
    holds = c.holds;
    agree = subst Agree (sym c.tables) it.1.agree;
  },
  ap world_of c.tables ∙ it.0,
)

-- the transaction failed, and then the connection was seen to be open
pub stays_back : {l : Layout} → (old mid new : State) → IsSettled l old → IsBack old mid → Shows mid new mid.now mid.now false → StaysSettled l old new
stays_back {l} old mid new s back shows =
    let same : new.now ≡ old.now = shows.now_is ∙ (back shows.was_open).0 in (
      record {
        is_open = shows.is_open;
        autocommit = shows.mode;
        committed = shows.now_is ∙ sym shows.committed_is;
        holds = subst (HoldsTables l) (sym same) s.holds;
        agree = subst (λ (d : Database). Agree (tables_in l d)) (sym same) s.agree;
      },
      same,
    )

pub told_err : {A E P : Type 0} (r : Result A E) → P → OnErr r P
told_err (Ok x) p = tt
told_err (Err e) p = p
