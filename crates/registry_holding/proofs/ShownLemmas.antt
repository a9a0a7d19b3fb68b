-- Maps of stages and of contents, as what they stand for.
use Rattle.std.proofs.Common.{◌≡◌, ◌∙◌, ℕ, Bool, true, false, cond, None, Some, Ok, Err, refl, sym, ap, eq-eqb, eqb-true}
use Rattle.std.specs.Prelude.{Option, option_map, ◌==◌, ◌++◌, Result, OnOk, OnErr}
use Rattle.std.specs.Map.{lookup}
use Rattle.std.specs.Ordering.{nat_cmp, is_eq}
use Rattle.std.specs.Cmp.{unsigned_tied}
use Rattle.std.specs.BTreeMap.{BTreeMap, Updates}
use Rattle.std.specs.BTreeMap as btree
use Rattle.std.specs.declared.alloc.AllocError.{AllocError}
use Rattle.oci_types.specs.Text.{Text}
use Rattle.registry_holding.specs.Holding.{put_under}
use Rattle.registry_holding.specs.Shown.{shown}

-- a map that was updated at a number
pub updated : {X : Type 0} (show : X → Text) (m n : BTreeMap ℕ X) (key : ℕ) (v : Option X) → Updates nat_cmp m n key v → shown show n ≡ put_under key (option_map show v) (shown show m)
updated {X} show m n key v h = λ i number. at number i
  where
    step : (number : ℕ) (b : Bool) → option_map show (cond b v (btree.get nat_cmp m number)) ≡ cond b (option_map show v) (shown show m number)
    step number true = refl
    step number false = refl

    at : (number : ℕ) → shown show n number ≡ cond (key == number) (option_map show v) (shown show m number)
    at number = ap (option_map show) (h.0 number ∙ ap (λ b. cond b v (btree.get nat_cmp m number)) (unsigned_tied key number)) ∙ step number (key == number)

-- entries that are the same show the same
pub same_shown : {X : Type 0} (show : X → Text) (m n : BTreeMap ℕ X) → n.entries ≡ m.entries → shown show n ≡ shown show m
same_shown show m n e = λ i number. option_map show (lookup (λ k. is_eq (nat_cmp number k)) (e i))

module _ (f : ℕ → Option Text) (key : ℕ) where
  -- what is there, put there once more
  pub put_there : put_under key (f key) f ≡ f
  put_there = λ i number. step number (key == number) refl i
    where
      step : (number : ℕ) (b : Bool) → (key == number) ≡ b → cond b (f key) (f number) ≡ f number
      step number true e = ap f (eqb-true key number e)
      step number false e = refl

  -- the last of two that are put there
  pub put_last : (first last : Option Text) → put_under key last (put_under key first f) ≡ put_under key last f
  put_last first last = λ i number. step number (key == number) i
    where
      step : (number : ℕ) (b : Bool) → cond b last (cond b first (f number)) ≡ cond b last (f number)
      step number true = refl
      step number false = refl

  pub at_key : (o : Option Text) → put_under key o f key ≡ o
  at_key o = ap (λ b. cond b o (f key)) (eq-eqb key key refl)

  -- whatever was put there is there
  pub put_whatever : (g : ℕ → Option Text) (o : Option Text) → g ≡ put_under key o f → g ≡ put_under key (g key) f
  put_whatever g o e = e ∙ ap (λ x. put_under key x f) (sym (ap (λ (h : ℕ → Option Text). h key) e ∙ at_key o))

  -- and so it is where nothing was put
  pub put_nothing : (g : ℕ → Option Text) → g ≡ f → g ≡ put_under key (g key) f
  put_nothing g e = put_whatever g (f key) (e ∙ sym put_there)

-- ---- bytes behind others

module _ (r : Result (Unit {0}) AllocError) (f g h : ℕ → Option Text) (key : ℕ) (gone : g ≡ put_under key None f) where
  pub extended : (there whole bytes : Text) → Some there ≡ f key → whole ≡ there ++ bytes → OnOk r (h ≡ put_under key (Some whole) g)
      → OnOk r (h ≡ put_under key (option_map (λ t. t ++ bytes) (f key)) f)
  extended there whole bytes at is put = by r put
    where
      by : (r : Result (Unit {0}) AllocError) → OnOk r (h ≡ put_under key (Some whole) g) → OnOk r (h ≡ put_under key (option_map (λ t. t ++ bytes) (f key)) f)
      by (Ok v) x =
          x ∙ ap (put_under key (Some whole)) gone ∙ put_last f key None (Some whole)
          ∙ ap (λ o. put_under key o f) (ap Some is ∙ ap (option_map (λ t. t ++ bytes)) at)
      by (Err e) x = tt

  pub not_extended : OnErr r (h ≡ g) → OnErr r (h ≡ put_under key (h key) f)
  not_extended kept = by r kept
    where
      by : (r : Result (Unit {0}) AllocError) → OnErr r (h ≡ g) → OnErr r (h ≡ put_under key (h key) f)
      by (Ok v) x = tt
      by (Err e) x = put_whatever f key h None (x ∙ gone)

pub on_err : {A E P : Type 0} (r : Result A E) → P → OnErr r P
on_err (Ok v) h = tt
on_err (Err e) h = h
