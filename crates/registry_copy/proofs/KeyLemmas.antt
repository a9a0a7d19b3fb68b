-- Keys of maps, and look-ups that agree with those of another map.
use Rattle.std.proofs.Common.{◌≡◌, ◌≢◌, ◌∙◌, ◌⊎◌, inl, inr, ℕ, zero, suc, ◌<◌, length, arith, List, [], ◌∷◌, map, Bool, true, false, cond, Option, Some, None, refl, sym, ap, subst}
use Rattle.std.specs.Prelude.{slice_index_or, T, ◌&&◌, ◌||◌, is_some}
use Rattle.std.specs.List.{AllByRecursion, list_any}
use Rattle.std.specs.declared.cmp.Ordering.{Ordering}
use Rattle.std.specs.declared.cmp.Ordering.TheVariants.{Less, Equal, Greater}
use Rattle.std.specs.Ordering.{is_lt, is_eq, eq_by_cmp}
use Rattle.std.specs.Cmp.{eq_by_cmp_equiv}
use Rattle.std.specs.FinMap.{FinMap, get, insert, entries, find, is_sorted, get-insert, get-entries, entries_sorted}
use Rattle.std.specs.FinMap.Entries.{below_all}
use Rattle.oci_types.specs.Text.{Text}
use Rattle.registry_model.specs.World.{text_cmp}
use Rattle.registry_model.proofs.TextOrder.{text_total, same_key}

pub no_value : {X : Type 0} (x : X) → None ≢ Some x
no_value x e = let bad : false ≡ true = ap is_some e in absurd (cc)

pub a_value : {X : Type 0} (o : Option X) → is_some o ≡ true → (x : X) × (o ≡ Some x)
a_value None e = absurd (cc)
a_value (Some x) e = (x, refl)

pub no_value_in : {X : Type 0} (o : Option X) → is_some o ≡ false → o ≡ None
no_value_in None e = refl
no_value_in (Some x) e = absurd (cc)

pub own_key : (k : Text) → eq_by_cmp text_cmp k k ≡ true
own_key k = (eq_by_cmp_equiv text_total).refl k

pub other_key : (q k : Text) → q ≢ k → eq_by_cmp text_cmp q k ≡ false
other_key q k ne = by (eq_by_cmp text_cmp q k) refl
  where
    by : (b : Bool) → eq_by_cmp text_cmp q k ≡ b → b ≡ false
    by true e = absurd (ne (same_key q k e))
    by false e = refl

pub apart : (q k : Text) → eq_by_cmp text_cmp q k ≡ false → q ≢ k
apart q k e is = let bad : true ≡ false = sym (own_key k) ∙ ap (λ x. eq_by_cmp text_cmp x k) (sym is) ∙ e in cc

module _ {X : Type 0} (m : FinMap text_cmp X) (k : Text) (v : X) where
  pub got_same : get (insert m k v) k ≡ Some v
  got_same = get-insert text_total m k v k ∙ ap (λ b. cond b (Some v) (get m k)) (own_key k)

  pub got_other : (q : Text) → q ≢ k → get (insert m k v) q ≡ get m q
  got_other q ne = get-insert text_total m k v q ∙ ap (λ b. cond b (Some v) (get m q)) (other_key q k ne)

-- ---- look-ups that agree with those of another map, or find nothing

abbrev pub Within : {X : Type 0} → (Text → Option X) → (Text → Option X) → Type 0
Within f n = (q : Text) → (f q ≡ None) ⊎ (f q ≡ n q)

-- a later look-up agrees wherever an earlier one did
pub record Gains {X : Type 0} (f f' n : Text → Option X) : Type 0 where
  pub within : Within f' n
  pub kept : (q : Text) → f q ≡ n q → f' q ≡ n q

pub no_gain : {X : Type 0} (f n : Text → Option X) → Within f n → Gains f f n
no_gain f n w = record { within = w; kept = λ q e. e }

pub gains_more : {X : Type 0} (f g h n : Text → Option X) → Gains f g n → Gains g h n → Gains f h n
gains_more f g h n one two = record { within = two.within; kept = λ q e. two.kept q (one.kept q e) }

-- one key has its value, and every other what it had
pub one_gain : {X : Type 0} (f f' n : Text → Option X) (k : Text) → f' k ≡ n k → ((q : Text) → q ≢ k → f' q ≡ f q) → Within f n → Gains f f' n
one_gain {X} f f' n k at others w = record {
  within = λ q. by q (eq_by_cmp text_cmp q k) refl;
  kept = λ q e. keep q e (eq_by_cmp text_cmp q k) refl;
}
  where
    by : (q : Text) (b : Bool) → eq_by_cmp text_cmp q k ≡ b → (f' q ≡ None) ⊎ (f' q ≡ n q)
    by q true e = inr (ap f' (same_key q k e) ∙ at ∙ ap n (sym (same_key q k e)))
    by q false e = let same : f' q ≡ f q = others q (apart q k e) in elim (w q) [ inl none ↦ inl (same ∙ none) | inr is ↦ inr (same ∙ is) ]

    keep : (q : Text) → f q ≡ n q → (b : Bool) → eq_by_cmp text_cmp q k ≡ b → f' q ≡ n q
    keep q is true e = ap f' (same_key q k e) ∙ at ∙ ap n (sym (same_key q k e))
    keep q is false e = others q (apart q k e) ∙ is

-- what holds of each key holds of one that is among them
pub among : (P : Text → Type 0) (ks : List Text) (q : Text) → list_any (eq_by_cmp text_cmp q) ks ≡ true → AllByRecursion P ks → P q
among P [] q there all = absurd (cc)
among P (k ∷ ks) q there all = by (λ t. among P ks q t all.1) (eq_by_cmp text_cmp q k) refl there
  where
    by : (list_any (eq_by_cmp text_cmp q) ks ≡ true → P q) → (b : Bool) → eq_by_cmp text_cmp q k ≡ b → (b || list_any (eq_by_cmp text_cmp q) ks) ≡ true → P q
    by later true e t = subst P (sym (same_key q k e)) all.0
    by later false e t = later t

-- look-ups that agree at each key of a map agree with it
pub covered : {X : Type 0} (f n : Text → Option X) (ks : List Text) → ((q : Text) → is_some (n q) ≡ list_any (eq_by_cmp text_cmp q) ks) → Within f n
    → AllByRecursion (λ k. f k ≡ n k) ks → (q : Text) → f q ≡ n q
covered {X} f n ks keys within all q = by (list_any (eq_by_cmp text_cmp q) ks) refl
  where
    by : (b : Bool) → list_any (eq_by_cmp text_cmp q) ks ≡ b → f q ≡ n q
    by true e = among (λ k. f k ≡ n k) ks q e all
    by false e =
        let none : n q ≡ None = no_value_in (n q) (keys q ∙ e) in
        elim (within q) [ inl nothing ↦ nothing ∙ sym none | inr is ↦ is ]

-- ---- entries in order

first : (a b : Bool) → T (a && b) → T a
first true b p = tt
first false b p = absurd p

second : (a b : Bool) → T (a && b) → T b
second true b p = p
second false b p = absurd p

less : (o : Ordering) → T (is_lt o) → is_eq o ≡ false
less Less p = refl
less Equal p = absurd p
less Greater p = absurd p

pub behind : {X : Type 0} (k : Text) (es : List (Text × X)) (q : Text) → T (below_all text_cmp k es) → list_any (eq_by_cmp text_cmp q) (map (λ e. e.0) es) ≡ true → q ≢ k
behind k [] q below there = absurd (cc)
behind {X} k (e ∷ es) q below there = by (λ h. behind k es q (second _ _ below) h) (eq_by_cmp text_cmp q e.0) refl there
  where
    by : (list_any (eq_by_cmp text_cmp q) (map (λ (d : Text × X). d.0) es) ≡ true → q ≢ k) → (b : Bool) → eq_by_cmp text_cmp q e.0 ≡ b
        → (b || list_any (eq_by_cmp text_cmp q) (map (λ (d : Text × X). d.0) es)) ≡ true → q ≢ k
    by later true t h is =
        let at : is_eq (text_cmp k e.0) ≡ false = less (text_cmp k e.0) (first _ _ below) in
        let bad : true ≡ false = sym t ∙ ap (λ x. eq_by_cmp text_cmp x e.0) is ∙ at in
        cc
    by later false t h is = later h is

pub rest_sorted : {X : Type 0} (e : Text × X) (es : List (Text × X)) → T (is_sorted text_cmp (e ∷ es)) → T (is_sorted text_cmp es)
rest_sorted e es h = second _ _ h

pub first_below : {X : Type 0} (e : Text × X) (es : List (Text × X)) → T (is_sorted text_cmp (e ∷ es)) → T (below_all text_cmp e.0 es)
first_below e es h = first _ _ h

passed_over : {X : Type 0} (e : Text × X) (es fs : List (Text × X)) → T (below_all text_cmp e.0 fs) → AllByRecursion (λ f. find text_cmp f.0 es ≡ Some f.1) fs
    → AllByRecursion (λ f. find text_cmp f.0 (e ∷ es) ≡ Some f.1) fs
passed_over e es [] below all = tt
passed_over {X} e es (f ∷ fs) below all = (
  ap (λ b. cond b (Some e.1) (find text_cmp f.0 es))
      ((eq_by_cmp_equiv text_total).symm f.0 e.0 ∙ less (text_cmp e.0 f.0) (first _ _ below))
      ∙ all.0,
  passed_over e es fs (second _ _ below) all.1,
)

-- each entry is found under its key
pub found_each : {X : Type 0} (es : List (Text × X)) → T (is_sorted text_cmp es) → AllByRecursion (λ e. find text_cmp e.0 es ≡ Some e.1) es
found_each [] h = tt
found_each (e ∷ es) h = (
  ap (λ b. cond b (Some e.1) (find text_cmp e.0 es)) (own_key e.0),
  passed_over e es es (first _ _ h) (found_each es (second _ _ h)),
)

pub all_mapped : {E : Type 0} (P Q : E → Type 0) (es : List E) → ((e : E) → P e → Q e) → AllByRecursion P es → AllByRecursion Q es
all_mapped P Q [] h all = tt
all_mapped P Q (e ∷ es) h all = (h e all.0, all_mapped P Q es h all.1)

pub all_of : {E : Type 0} (P : E → Type 0) (es : List E) → AllByRecursion P es → (k : ℕ) (d : E) → k < length es → P (slice_index_or es k d)
all_of P [] all k d lt = absurd (omega arith)
all_of P (e ∷ es) all zero d lt = all.0
all_of P (e ∷ es) all (suc k) d lt = all_of P es all.1 k d (omega arith)

pub all_keys : {X : Type 0} (P : Text → Type 0) (es : List (Text × X)) → AllByRecursion (λ e. P e.0) es → AllByRecursion P (map (λ e. e.0) es)
all_keys P [] all = tt
all_keys P (e ∷ es) all = (all.0, all_keys P es all.1)

-- each entry of a map is found in it
pub entries_found : {X : Type 0} (m : FinMap text_cmp X) → AllByRecursion (λ e. get m e.0 ≡ Some e.1) (entries m)
entries_found {X} m = all_mapped (λ (e : Text × X). find text_cmp e.0 (entries m) ≡ Some e.1) (λ e. get m e.0 ≡ Some e.1) (entries m)
    (λ e is. get-entries m e.0 ∙ is) (found_each (entries m) (entries_sorted m))
