-- What a call says of a stage or a pin, by what was done to the maps.
use Rattle.std.proofs.Common.{◌≡◌, ◌∙◌, ℕ, None, Some, Ok, Err, refl, sym, ap, subst}
use Rattle.std.proofs.lemmas.Option.{same_Some}
use Rattle.std.specs.Prelude.{Option, Result, OnOk, OnErr}
use Rattle.std.specs.Result.{IsErr, IsErrAnd}
use Rattle.std.specs.declared.alloc.AllocError.{AllocError}
use Rattle.oci_types.specs.Text.{Text}
use Rattle.oci_types.specs.declared.fault.Fault.{Fault}
use Rattle.oci_types.specs.declared.fault.Fault.TheVariants.{Memory, Storage}
use Rattle.registry_model.specs.World.{World}
use Rattle.registry_model.specs.Keeping.{Kept, ReadsBy, Writes}
use Rattle.registry_holding.specs.Holding.{put_under, Stages, WritesStage, Pins}
use Rattle.registry_holding.specs.Shown.{or_memory}
use Rattle.registry_holding.proofs.ShownLemmas.{put_whatever, put_nothing}

abbrev with : (ℕ → Option Text) → (ℕ → Option Text) → Kept → Kept
with stages pins k = record k { held = record { stages = stages; pins = pins } }

-- a stage was changed, or memory was wanting
pub staged : (r : Result (Unit {0}) AllocError) (key : ℕ) (bytes : Option Text) (k : Kept) (f g p : ℕ → Option Text)
    → OnOk r (g ≡ put_under key bytes f) → OnErr r (g ≡ put_under key (g key) f) → Stages r key bytes (with f p k) (with g p k)
staged (Ok v) key bytes k f g p x y = ap (λ h. with h p k) x
staged (Err e) key bytes k f g p x y = ap (λ h. with h p k) y

pub as_it_was : (r : Result (Unit {0}) AllocError) (key : ℕ) (f g : ℕ → Option Text) → OnErr r (g ≡ f) → OnErr r (g ≡ put_under key (g key) f)
as_it_was (Ok v) key f g x = tt
as_it_was (Err e) key f g x = put_nothing f key g x

-- a stage was taken out, and the keeper stands as it did
pub taken_out : (key : ℕ) (k k' : Kept) (f g p : ℕ → Option Text) → g ≡ put_under key None f → k' ≡ k → with g p k' ≡ with (put_under key (g key) f) p k
taken_out key k k' f g p gone e = λ i. record { world = (e i).world; spent = (e i).spent; held = record { stages = put_whatever f key g None gone i; pins = p } }

-- what was staged was written, and the stage taken out
module _ (key : ℕ) (w : Text → World) (bytes : Text) (k k' : Kept) (f g p : ℕ → Option Text) (at : Some bytes ≡ f key) (gone : g ≡ put_under key None f) where
  pub written_staged : (r : Result (Unit {0}) Fault) (t : Text) → f key ≡ Some t → Writes r (w bytes) k k' → WritesStage r key (w t) (with f p k) (with g p k')
  written_staged (Ok v) t there x =
      let world : k'.world ≡ w t = ap (λ (y : Kept). y.world) x ∙ ap w (same_Some bytes t (at ∙ there)) in
      λ i. record { world = world i; spent = (x i).spent; held = record { stages = put_whatever f key g None gone i; pins = p } }
  written_staged (Err Memory) t there x = taken_out key k k' f g p gone x
  written_staged (Err Storage) t there x = tt

-- ---- pins

module _ {A : Type 0} (r : Result A Fault) (e : Fault) where
  -- what was to be pinned could not be read
  pub pin_failed : {B C : Type 0} (key : ℕ) (show : B → C) (found : C) (value : A) (bytes : Option Text) (k k' : Kept) (f p : ℕ → Option Text) → IsErr r × IsErrAnd r (λ x. x ≡ e)
      → ReadsBy {A = B} {B = C} show (Err e) found k k' → Pins r key value bytes (with f p k) (with f p k')
  pin_failed {B} {C} key show found value bytes k k' f p is h = by r is
    where
      by_fault : (x : Fault) → ReadsBy {A = B} {B = C} show (Err x) found k k' → Pins {A = A} (Err x) key value bytes (with f p k) (with f p k')
      by_fault Memory h = λ i. record { world = (h i).world; spent = (h i).spent; held = record { stages = f; pins = put_nothing p key p refl i } }
      by_fault Storage h = tt

      by : (r : Result A Fault) → IsErr r × IsErrAnd r (λ x. x ≡ e) → Pins r key value bytes (with f p k) (with f p k')
      by (Ok v) is = absurd is.1
      by (Err x) is = by_fault x (subst (λ (y : Fault). ReadsBy {A = B} {B = C} show (Err y) found k k') (sym is.1) h)

  -- there was no memory to pin it
  pub pin_wanting : (put : Result (Unit {0}) AllocError) (key : ℕ) (value : A) (bytes : Option Text) (k k' : Kept) (f p q : ℕ → Option Text) → IsErr r × IsErrAnd r (λ x. x ≡ e)
      → Err e ≡ or_memory put → k' ≡ k → OnErr put (q ≡ p) → Pins r key value bytes (with f p k) (with f q k')
  pin_wanting put key value bytes k k' f p q is told same kept = by r is put told kept
    where
      by : (r : Result A Fault) → IsErr r × IsErrAnd r (λ x. x ≡ e) → (put : Result (Unit {0}) AllocError) → Err e ≡ or_memory put → OnErr put (q ≡ p)
          → Pins r key value bytes (with f p k) (with f q k')
      by (Ok v) is put told kept = absurd is.1
      by (Err x) is (Ok v) told kept = cc
      by (Err x) is (Err y) told kept =
          let memory : e ≡ Memory = cc in
          subst (λ (y : Fault). Pins {A = A} (Err y) key value bytes (with f p k) (with f q k')) (sym (is.1 ∙ memory))
          (let it : Pins {A = A} (Err Memory) key value bytes (with f p k) (with f q k') =
          λ i. record { world = (same i).world; spent = (same i).spent; held = record { stages = f; pins = put_nothing p key q kept i } } in it)
