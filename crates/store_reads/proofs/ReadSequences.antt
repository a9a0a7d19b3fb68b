-- What reads that follow one another leave, and a fault that is passed on.
use Rattle.std.proofs.Common.{◌≡◌, ◌∙◌, ◌<◌, ◌+◌, ℕ, List, [], ◌∷◌, ◌++◌, map, length, take, get_or, Ok, Err, Result, false, sym, ap, refl, append-nil}
use Rattle.std.specs.Prelude.{⊤, IsErrAnd}
use Rattle.std.specs.List.{concat}
use Rattle.std.proofs.lemmas.List.{map_more}
use Rattle.std.proofs.lemmas.List.Folds.{concat-append}
use Rattle.sqlite.specs.Effect.{Database}
use Rattle.sqlite.specs.State.{State, HasCleanDisk, Survives}
use Rattle.oci_types.specs.declared.fault.Fault.{Fault}
use Rattle.oci_types.specs.declared.fault.Fault.TheVariants.{Memory, Storage}
use Rattle.store_contents.specs.declared.content_id.ContentId.{ContentId}
use Rattle.store_contents.specs.Layouts.{Layout, contents_in}
use Rattle.store_statements.specs.World.{content_at}
use Rattle.store_statements.specs.Held.{IsSettled, StaysSettled, is_storage}
use Rattle.store_statements.proofs.CleanBefore.{was_clean}
use Rattle.store_statements.proofs.SettledAfter.{stays_then}

-- nothing was read yet
pub stays_here : {l : Layout} → (s : State) → IsSettled l s → StaysSettled l s s
stays_here {l} s settled = (settled, refl)

-- ---- a read behind another one

module _ {l : Layout} (a b c : State) (lasts : Survives b c (λ _. ⊤)) (first : HasCleanDisk b → IsSettled l a → StaysSettled l a b) where
  -- what is told where the one before left all as it was
  pub told_behind : {R : Type 0} → (HasCleanDisk b → StaysSettled l a b → R) → HasCleanDisk c → IsSettled l a → R
  told_behind {R} tell clean is = by (was_clean lasts clean)
    where
      by : HasCleanDisk b → R
      by early = tell early (first early is)

  pub stays_behind : (HasCleanDisk c → IsSettled l b → StaysSettled l b c) → HasCleanDisk c → IsSettled l a → StaysSettled l a c
  stays_behind next clean is = by (first (was_clean lasts clean) is)
    where
      by : StaysSettled l a b → StaysSettled l a c
      by s = stays_then a b c s (next clean s.0)

-- ---- a fault that is passed on

same_fault : (A B : Type 0) (f : Fault) → is_storage {A = A} (Err f) ≡ is_storage {A = B} (Err f)
same_fault A B Memory = refl
same_fault A B Storage = refl

pub passed_on : {A B : Type 0} (r : Result A Fault) (q : Result B Fault) (f : Fault) → q ≡ Err f → IsErrAnd r (λ y. y ≡ f) → is_storage r ≡ false → is_storage q ≡ false
passed_on (Ok v) q f was gives off = absurd gives
passed_on {A} {B} (Err y) q f was gives off = ap is_storage was ∙ ap (λ z. is_storage {A = B} (Err z)) (sym gives) ∙ same_fault B A y ∙ off

-- ---- texts one behind the other

joined_more : {X : Type 0} (g : X → List ℕ) (xs : List X) (i : ℕ) (d : X) (before after : List ℕ) → i < length xs → before ≡ concat (map g (take i xs)) → after ≡ before ++ g (get_or xs i d) → after ≡ concat (map g (take (i + 1) xs))
joined_more g xs i d before after low was is =
    is ∙ ap (λ t. t ++ g (get_or xs i d)) was ∙ ap (λ t. concat (map g (take i xs)) ++ t) (sym (append-nil (g (get_or xs i d))))
    ∙ sym (concat-append (map g (take i xs)) (g (get_or xs i d) ∷ [])) ∙ ap concat (sym (map_more g xs i d low))

-- of a database that stays
pub contents_more : (l : Layout) → (old mid : Database) (ids : List ContentId) (i : ℕ) (d : ContentId) (before after : List ℕ) → mid ≡ old → i < length ids
    → before ≡ concat (map (λ id. content_at (contents_in l old) id.id) (take i ids)) → after ≡ before ++ content_at (contents_in l mid) (get_or ids i d).id → after ≡ concat (map (λ id. content_at (contents_in l old) id.id) (take (i + 1) ids))
contents_more l old mid ids i d before after same low was is =
    joined_more (λ id. content_at (contents_in l old) id.id) ids i d before after low was (is ∙ ap (λ db. before ++ content_at (contents_in l db) (get_or ids i d).id) same)
