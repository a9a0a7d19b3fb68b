-- Texts in their order, as keys of finite maps.
use Rattle.std.proofs.Common.{◌≡◌, ◌∙◌, Bool, true, false, cond, None, Some, refl, sym, ap}
use Rattle.std.specs.Prelude.{T, List, Option, bytes_eq}
use Rattle.std.specs.declared.cmp.Ordering.TheVariants.{Equal}
use Rattle.std.specs.Ordering.{eq_by_cmp}
use Rattle.std.specs.Cmp.{IsTotalOrder, Equal-is}
use Rattle.std.specs.FinMap.{FinMap, entries, find, is_sorted, entries-from_sorted, get-from_sorted, get, insert, remove, retain_keys, get-insert, get-remove, get-retain_keys, same_map, IsAntisymmetric, slice_cmp-IsAntisymmetric, nat_cmp-IsAntisymmetric}
use Rattle.std.proofs.lemmas.Cmp.{nat_list_cmp_total}
use Rattle.std.proofs.lemmas.Map.Text.{is_eq-slice_cmp}
use Rattle.oci_types.specs.Text.{Text}
use Rattle.registry_model.specs.World.{text_cmp}

pub text_total : IsTotalOrder text_cmp
text_total = nat_list_cmp_total

pub exact_texts : IsAntisymmetric text_cmp
exact_texts = slice_cmp-IsAntisymmetric nat_cmp-IsAntisymmetric

-- equal bytes are one text
pub bytes_same : (a b : Text) → bytes_eq a b ≡ true → a ≡ b
bytes_same a b e = exact_texts a b ((Equal-is _).0 (is_eq-slice_cmp a b ∙ e))

pub same_key : (q name : Text) → eq_by_cmp text_cmp q name ≡ true → q ≡ name
same_key q name e = exact_texts q name ((Equal-is _).0 e)

-- a test of keys takes tied keys for one
pub tie : (p : Text → Bool) (q x : Text) → text_cmp q x ≡ Equal → p x ≡ p q
tie p q x e = ap p (sym (exact_texts q x e))

inner : {A : Type 0} (b c : Bool) (u v : Option A) → (b ≡ true → c ≡ true) → cond c (cond b u v) None ≡ cond b u (cond c v None)
inner true true u v h = refl
inner true false u v h = absurd (let k = h refl in cc)
inner false c u v h = refl

outer : {A : Type 0} (b c : Bool) (u v : Option A) → (b ≡ true → c ≡ false) → cond c (cond b u v) None ≡ cond c v None
outer true true u v h = absurd (let k = h refl in cc)
outer true false u v h = refl
outer false c u v h = refl

module _ {X : Type 0} (m : FinMap text_cmp X) where
  module _ (p : Text → Bool) (name : Text) where
    module _ (x : X) where
      left : (q : Text) → get (retain_keys (insert m name x) p) q ≡ cond (p q) (cond (eq_by_cmp text_cmp q name) (Some x) (get m q)) None
      left q = get-retain_keys (insert m name x) p q (tie p q) ∙ ap (λ v. cond (p q) v None) (get-insert text_total m name x q)

      pub retain_inside : p name ≡ true → retain_keys (insert m name x) p ≡ insert (retain_keys m p) name x
      retain_inside h = same_map text_total exact_texts _ _ (λ q.
          left q
          ∙ inner (eq_by_cmp text_cmp q name) (p q) (Some x) (get m q) (λ e. ap p (same_key q name e) ∙ h)
          ∙ ap (λ v. cond (eq_by_cmp text_cmp q name) (Some x) v) (sym (get-retain_keys m p q (tie p q)))
          ∙ sym (get-insert text_total (retain_keys m p) name x q))

      pub retain_outside : p name ≡ false → retain_keys (insert m name x) p ≡ retain_keys m p
      retain_outside h = same_map text_total exact_texts _ _ (λ q.
          left q
          ∙ outer (eq_by_cmp text_cmp q name) (p q) (Some x) (get m q) (λ e. ap p (same_key q name e) ∙ h)
          ∙ sym (get-retain_keys m p q (tie p q)))

    pub removed_outside : p name ≡ false → retain_keys (remove m name) p ≡ retain_keys m p
    removed_outside h = same_map text_total exact_texts _ _ (λ q.
        get-retain_keys (remove m name) p q (tie p q)
        ∙ ap (λ v. cond (p q) v None) (get-remove text_total m name q)
        ∙ outer (eq_by_cmp text_cmp q name) (p q) None (get m q) (λ e. ap p (same_key q name e) ∙ h)
        ∙ sym (get-retain_keys m p q (tie p q)))

  -- to remove what is not there changes nothing
  pub remove_absent : (k : Text) → get m k ≡ None → remove m k ≡ m
  remove_absent k none = same_map text_total exact_texts _ _ (λ q. get-remove text_total m k q ∙ step q (eq_by_cmp text_cmp q k) refl)
    where
      step : (q : Text) (b : Bool) → eq_by_cmp text_cmp q k ≡ b → cond b None (get m q) ≡ get m q
      step q true e = sym (ap (get m) (same_key q k e) ∙ none)
      step q false e = refl

-- two lists in order that answer alike are one
pub one_list : {X : Type 0} (es fs : List (Text × X)) → T (is_sorted text_cmp es) → T (is_sorted text_cmp fs)
    → ((q : Text) → find text_cmp q es ≡ find text_cmp q fs) → es ≡ fs
one_list es fs p q same =
    sym (entries-from_sorted text_cmp es p)
    ∙ ap entries (same_map text_total exact_texts _ _ (λ k. get-from_sorted text_cmp es k p ∙ same k ∙ sym (get-from_sorted text_cmp fs k q)))
    ∙ entries-from_sorted text_cmp fs q
