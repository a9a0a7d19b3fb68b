-- What a call leaves of any database, whatever was committed.
use Rattle.std.proofs.Common.{◌≡◌, ℕ, List, Ok, Err, Result, OnErr}
use Rattle.std.specs.Prelude.{⊤}
use Rattle.sqlite.specs.Order.{Row}
use Rattle.sqlite.specs.Tree.{Trees}
use Rattle.sqlite.specs.declared.error.Error.{Error}
use Rattle.sqlite.specs.State.{State, Survives}
use Rattle.sqlite.specs.Held.{Held, state}
use Rattle.sqlite.specs.Given.{IsRefused}
use Rattle.sqlite.proofs.StateLemmas.{survives_weaker, survives_then}
use Rattle.sqlite_trees.specs.declared.store.Store.{Ghosts}

pub lasts : (old new : State) (P : Trees → Type 0) → Survives old new P → Survives old new (λ _. ⊤)
lasts old new P s = survives_weaker old new P (λ _. ⊤) (λ clean db x. tt) s

pub lasts_then : (a b c : State) (P Q : Trees → Type 0) → Survives a b P → Survives b c Q → Survives a c (λ _. ⊤)
lasts_then a b c P Q p q = survives_then a b c P Q (λ _. ⊤) (λ clean db x. tt) (λ clean db x. tt) p q

-- a query that does not begin
pub refused_lasts : {S X : Type 0} (g : Ghosts S) (sql : List ℕ) (params : Row) (old new : Held S) (r : Result X Error) (e : Error) → r ≡ Err e → OnErr r (IsRefused g sql params old r new)
    → Survives (state g old) (state g new) (λ _. ⊤)
refused_lasts g sql params old new (Ok x) e is h = absurd cc
refused_lasts g sql params old new (Err x) e is h = lasts (state g old) (state g new) _ h.survives
