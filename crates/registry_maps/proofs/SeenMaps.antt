-- Ordered maps, seen as finite maps.
use Rattle.std.proofs.Common.{◌≡◌, ◌∙◌, ℕ, suc, List, [], ◌∷◌, ◌++◌, append_assoc, map, length, Bool, true, false, cond, None, Some, refl, sym, ap, subst}
use Rattle.std.specs.Prelude.{Option, option_map, is_some, bytes_eq, filter, T, ◌&&◌, Result, Ok, Err, IfOk, IsOkAnd, Vec}
use Rattle.std.specs.declared.alloc.Global.{Global}
use Rattle.std.specs.declared.alloc.AllocError.{AllocError}
use Rattle.std.specs.declared.cmp.Ordering.{Ordering}
use Rattle.std.specs.declared.cmp.Ordering.TheVariants.{Less, Equal}
use Rattle.std.specs.Ordering.{is_eq, is_lt, eq_by_cmp, nat_cmp}
use Rattle.std.specs.Cmp.{IsTotalOrder, eq_by_cmp_equiv, Equal-is}
use Rattle.std.specs.List.{AllByRecursion}
use Rattle.std.specs.List.Sorted.{IsStrictlySortedBy}
use Rattle.std.specs.Borrow.{Bor}
use Rattle.std.specs.Option.{option_copied}
use Rattle.std.specs.Map.{lookup, keys_of}
use Rattle.std.specs.BTreeMap.{BTreeMap, Updates, IsOrdered, is_at}
use Rattle.std.specs.BTreeMap as btree
use Rattle.std.specs.FinMap as fin
use Rattle.std.specs.FinMap.Entries.{below_all}
use Rattle.std.specs.FinMap.{FinMap, get, insert, remove, retain_keys, empty, entries, len, find, is_sorted, from_entries, from_sorted, get-from_entries, get-from_sorted, entries-from_sorted, get-insert, get-remove, get-retain_keys, get-empty, get_tied, len-entries, same_map, IsAntisymmetric, nat_cmp-IsAntisymmetric}
use Rattle.std.proofs.lemmas.Cmp.{nat_cmp_total}
use Rattle.std.proofs.lemmas.List.{map_push}
use Rattle.std.proofs.lemmas.Map.Text.{is_eq-slice_cmp}
use Rattle.oci_types.specs.Text.{Text}
use Rattle.registry_model.specs.World.{text_cmp}
use Rattle.registry_maps.specs.Maps.{seen, Makes, Puts}
use Rattle.registry_model.proofs.TextOrder.{text_total}

pub number_total : IsTotalOrder nat_cmp
number_total = nat_cmp_total

pub exact_numbers : IsAntisymmetric nat_cmp
exact_numbers = nat_cmp-IsAntisymmetric

-- the order's test of two texts, as that of their bytes
pub by_bytes : (q bs : Text) → eq_by_cmp text_cmp q bs ≡ bytes_eq q bs
by_bytes q bs = is_eq-slice_cmp q bs

pub same_test : (q bs : Text) → bytes_eq q bs ≡ bytes_eq bs q
same_test q bs = sym (is_eq-slice_cmp q bs) ∙ (eq_by_cmp_equiv text_total).symm q bs ∙ is_eq-slice_cmp bs q

pub is_some-map : {A B : Type 0} (f : A → B) (o : Option A) → is_some (option_map f o) ≡ is_some o
is_some-map f None = refl
is_some-map f (Some x) = refl

pub map-same : {A : Type 0} (o : Option A) → option_map (λ (v : A). v) o ≡ o
map-same None = refl
map-same (Some x) = refl

pub both : (a b : Bool) → T a → T b → T (a && b)
both true b p q = q
both false b p q = p

pub less_tested : (r : Ordering) → r ≡ Less → T (is_lt r)
less_tested r e = subst (λ x. T (is_lt x)) (sym e) tt

-- a value that a map has, put again or shown as before
module _ {K Y : Type 0} {R : K → K → Ordering} (o : IsTotalOrder R) (exact : IsAntisymmetric R) where
  -- to put what is there changes nothing
  pub insert_same : (m : FinMap R Y) (k : K) (y : Y) → get m k ≡ Some y → insert m k y ≡ m
  insert_same m k y there = same_map o exact _ _ (λ q. get-insert o m k y q ∙ step q (eq_by_cmp R q k) refl)
    where
      step : (q : K) (b : Bool) → eq_by_cmp R q k ≡ b → cond b (Some y) (get m q) ≡ get m q
      step q true e = sym (ap (get m) (exact q k ((Equal-is _).0 e)) ∙ there)
      step q false e = refl

  -- to take what is not there changes nothing
  pub remove_none : (m : FinMap R Y) (k : K) → get m k ≡ None → remove m k ≡ m
  remove_none m k none = same_map o exact _ _ (λ q. get-remove o m k q ∙ step q (eq_by_cmp R q k) refl)
    where
      step : (q : K) (b : Bool) → eq_by_cmp R q k ≡ b → cond b None (get m q) ≡ get m q
      step q true e = sym (ap (get m) (exact q k ((Equal-is _).0 e)) ∙ none)
      step q false e = refl

  -- what was new, taken again
  pub insert_undone : (m : FinMap R Y) (k : K) (y : Y) → get m k ≡ None → remove (insert m k y) k ≡ m
  insert_undone m k y none = same_map o exact _ _ (λ q.
      get-remove o (insert m k y) k q ∙ ap (cond (eq_by_cmp R q k) None) (get-insert o m k y q) ∙ step q (eq_by_cmp R q k) refl)
    where
      step : (q : K) (b : Bool) → eq_by_cmp R q k ≡ b → cond b None (cond b (Some y) (get m q)) ≡ get m q
      step q true e = sym (ap (get m) (exact q k ((Equal-is _).0 e)) ∙ none)
      step q false e = refl

  pub remove_empty : (k : K) → remove empty k ≡ empty {X = Y} {R = R}
  remove_empty k = remove_none empty k (get-empty R k)

module _ {K X Y : Type 0} {R : K → K → Ordering} (o : IsTotalOrder R) (exact : IsAntisymmetric R) (show : X → Y) where
  found : (q : K) (es : List (K × X)) → find R q (map (λ e. (e.0, show e.1)) es) ≡ option_map show (lookup (is_at (R q)) es)
  found q [] = refl
  found q (e ∷ es) = step (is_eq (R q e.0)) (found q es)
    where
      step : {left : Option Y} (t : Bool) → left ≡ option_map show (lookup (is_at (R q)) es)
          → cond t (Some (show e.1)) left ≡ option_map show (cond t (Some e.1) (lookup (is_at (R q)) es))
      step true h = refl
      step false h = h

  -- what the finite map has at a key is what the ordered map has
  pub get_seen : (m : BTreeMap K X) (q : K) → get (seen R show m.entries) q ≡ option_map show (btree.get R m q)
  get_seen m q = get-from_entries o (map (λ e. (e.0, show e.1)) m.entries) q ∙ found q m.entries

  pub has_seen : (m : BTreeMap K X) (q : K) → is_some (get (seen R show m.entries) q) ≡ is_some (btree.get R m q)
  has_seen m q = ap is_some (get_seen m q) ∙ is_some-map show (btree.get R m q)

  updated : (k : K) (m n : BTreeMap K X) (w : Option X) → Updates R m n k w → (q : K)
      → get (seen R show n.entries) q ≡ cond (eq_by_cmp R q k) (option_map show w) (get (seen R show m.entries) q)
  updated k m n w h q = get_seen n q ∙ ap (option_map show) (h.0 q ∙ ap (λ t. cond t w (btree.get R m q)) ((eq_by_cmp_equiv o).symm k q)) ∙ step (eq_by_cmp R q k)
    where
      step : (t : Bool) → option_map show (cond t w (btree.get R m q)) ≡ cond t (option_map show w) (get (seen R show m.entries) q)
      step true = refl
      step false = sym (get_seen m q)

  -- an update is the finite map's insert
  pub seen_put : (k : K) (m n : BTreeMap K X) (v : X) → Updates R m n k (Some v) → seen R show n.entries ≡ insert (seen R show m.entries) k (show v)
  seen_put k m n v h = same_map o exact _ _ (λ q. updated k m n (Some v) h q ∙ sym (get-insert o (seen R show m.entries) k (show v) q))

  -- and a removal its remove
  pub seen_removed : (k : K) (m n : BTreeMap K X) → Updates R m n k None → seen R show n.entries ≡ remove (seen R show m.entries) k
  seen_removed k m n h = same_map o exact _ _ (λ q. updated k m n None h q ∙ sym (get-remove o (seen R show m.entries) k q))

  -- an update that shows as what was there
  pub seen_stays : (k : K) (m n : BTreeMap K X) (u v : X) → Updates R m n k (Some v) → btree.get R m k ≡ Some u → show v ≡ show u
      → seen R show n.entries ≡ seen R show m.entries
  seen_stays k m n u v h there same = seen_put k m n v h
      ∙ insert_same o exact (seen R show m.entries) k (show v) (get_seen m k ∙ ap (option_map show) there ∙ ap Some (sym same))

  -- a value was put, or nothing changed, in what is made of the map
  pub makes_put : {B : Type 0} (k : K) (v : X) (m n : BTreeMap K X) (r : Result (Unit {0}) AllocError) (whole : FinMap R Y → B) (made : B)
      → Puts R r k v m n → whole (insert (seen R show m.entries) k (show v)) ≡ made → Makes r made (whole (seen R show m.entries)) (whole (seen R show n.entries))
  makes_put k v m n (Ok x) whole made h e = ap whole (seen_put k m n v h) ∙ e
  makes_put k v m n (Err x) whole made h e = ap (λ es. whole (seen R show es)) h

  below : (x : K) (es : List (K × X)) → AllByRecursion (λ y. R x y ≡ Less) (keys_of es) → T (below_all R x (map (λ e. (e.0, show e.1)) es))
  below x [] h = tt
  below x (e ∷ es) h = both _ _ (less_tested _ h.0) (below x es h.1)

  sorted : (es : List (K × X)) → IsStrictlySortedBy R (keys_of es) → T (is_sorted R (map (λ e. (e.0, show e.1)) es))
  unfolding IsStrictlySortedBy
  sorted [] h = tt
  sorted (e ∷ es) h = both _ _ (below e.0 es h.0) (sorted es h.1)

  -- the entries of a map in order, each value as it is shown
  pub entries_seen : (m : BTreeMap K X) → IsOrdered R m → entries (seen R show m.entries) ≡ map (λ e. (e.0, show e.1)) m.entries
  entries_seen m h = let s = sorted m.entries h in
      ap entries (same_map o exact (seen R show m.entries) (from_sorted (map (λ e. (e.0, show e.1)) m.entries)) (λ q.
      get-from_entries o (map (λ e. (e.0, show e.1)) m.entries) q ∙ sym (get-from_sorted R (map (λ e. (e.0, show e.1)) m.entries) q s)))
      ∙ entries-from_sorted R (map (λ e. (e.0, show e.1)) m.entries) s

  pub len_seen : (m : BTreeMap K X) → IsOrdered R m → len (seen R show m.entries) ≡ length m.entries
  len_seen m h = len-entries (seen R show m.entries) ∙ ap length (entries_seen m h) ∙ as_many m.entries
    where
      as_many : (es : List (K × X)) → length {A = K × Y} (map (λ (e : K × X). (e.0, show e.1)) es) ≡ length es
      as_many [] = refl
      as_many (e ∷ es) = ap suc (as_many es)

  pub values_seen : (m : BTreeMap K X) → IsOrdered R m → fin.values (seen R show m.entries) ≡ map show (btree.values m)
  values_seen m h = ap (map (λ e. e.1)) (entries_seen m h) ∙ seconds m.entries
    where
      seconds : (es : List (K × X)) → map (λ (e : K × Y). e.1) (map (λ (e : K × X). (e.0, show e.1)) es) ≡ map show (map (λ e. e.1) es)
      seconds [] = refl
      seconds (e ∷ es) = ap (λ xs. show e.1 ∷ xs) (seconds es)

  pub keys_seen : (m : BTreeMap K X) → IsOrdered R m → fin.keys (seen R show m.entries) ≡ btree.keys m
  keys_seen m h = ap (map (λ e. e.0)) (entries_seen m h) ∙ firsts m.entries
    where
      firsts : (es : List (K × X)) → map (λ (e : K × Y). e.0) (map (λ (e : K × X). (e.0, show e.1)) es) ≡ map (λ e. e.0) es
      firsts [] = refl
      firsts (e ∷ es) = ap (λ xs. e.0 ∷ xs) (firsts es)

  -- copies of the keys are copies of the keys as they are seen
  pub keys_copied : {E : Type 0} (m : BTreeMap K X) (r : Result (Vec K Global) E) → IsOrdered R m
      → IfOk r (λ v. v.items ≡ btree.keys m) → IfOk r (λ v. v.items ≡ fin.keys (seen R show m.entries))
  keys_copied m (Ok v) h is = is ∙ sym (keys_seen m h)
  keys_copied m (Err e) h is = tt

  -- what a look-up found
  pub at_some : (m : BTreeMap K X) (q : K) (given : Option (Bor X)) (b : Bor X) → given ≡ Some b → option_copied given ≡ btree.get R m q → get (seen R show m.entries) q ≡ Some (show b.now)
  at_some m q given b is e = get_seen m q ∙ ap (option_map show) (sym e ∙ ap option_copied is)

  pub at_none : (m : BTreeMap K X) (q : K) (given : Option (Bor X)) → given ≡ None → option_copied given ≡ btree.get R m q → get (seen R show m.entries) q ≡ None
  at_none m q given is e = get_seen m q ∙ ap (option_map show) (sym e ∙ ap option_copied is)

-- entries without those whose value fails a test
module _ {K Y : Type 0} {R : K → K → Ordering} (o : IsTotalOrder R) (exact : IsAntisymmetric R) (p : Y → Bool) where
  abbrev pub passes : Option Y → Bool
  passes None = true
  passes (Some y) = p y

  -- of a key below all others
  apart : (q x : K) (es : List (K × Y)) → R q x ≡ Equal → AllByRecursion (λ y. R x y ≡ Less) (keys_of es) → find R q (filter (λ e. p e.1) es) ≡ None
  apart q x [] t h = refl
  apart q x (e ∷ es) t h = step (p e.1) (apart q x es t h.1)
    where
      step : (b : Bool) → find R q (filter (λ (e : K × Y). p e.1) es) ≡ None → find R q (cond b (e ∷ filter (λ (e : K × Y). p e.1) es) (filter (λ (e : K × Y). p e.1) es)) ≡ None
      step true r = ap (λ s. cond (is_eq s) (Some e.1) (find R q (filter (λ (e : K × Y). p e.1) es))) (o.congr q x e.0 t ∙ h.0) ∙ r
      step false r = r

  kept_found : (q : K) (es : List (K × Y)) → IsStrictlySortedBy R (keys_of es) → find R q (filter (λ e. p e.1) es) ≡ cond (passes (find R q es)) (find R q es) None
  unfolding IsStrictlySortedBy
  kept_found q [] h = refl
  kept_found q (e ∷ es) h = step (p e.1) refl (eq_by_cmp R q e.0) refl (kept_found q es h.1)
    where
      left : List (K × Y)
      left = filter (λ (e : K × Y). p e.1) es

      step : (b : Bool) → p e.1 ≡ b → (t : Bool) → eq_by_cmp R q e.0 ≡ t → find R q left ≡ cond (passes (find R q es)) (find R q es) None
          → find R q (cond b (e ∷ left) left) ≡ cond (passes (cond t (Some e.1) (find R q es))) (cond t (Some e.1) (find R q es)) None
      step true pe true te r = ap (λ t. cond t (Some e.1) (find R q left)) te ∙ sym (ap (λ b. cond b (Some e.1) None) pe)
      step true pe false te r = ap (λ t. cond t (Some e.1) (find R q left)) te ∙ r
      step false pe true te r = apart q e.0 es ((Equal-is _).0 te) h.0 ∙ sym (ap (λ b. cond b (Some e.1) None) pe)
      step false pe false te r = r

  -- to keep the entries whose value passes is to keep their keys
  pub kept_seen : (m : BTreeMap K Y) (es : List (K × Y)) → IsOrdered R m → es ≡ filter (λ e. p e.1) m.entries
      → from_entries es ≡ retain_keys (from_entries {R = R} m.entries) (λ k. passes (get (from_entries {R = R} m.entries) k))
  kept_seen m es h e = same_map o exact _ _ (λ q.
      get-from_entries o es q ∙ ap (find R q) e ∙ kept_found q m.entries h
      ∙ sym (get-retain_keys (from_entries m.entries) (λ k. passes (get (from_entries m.entries) k)) q (λ x t. ap passes (get_tied o (from_entries m.entries) q x t))
      ∙ ap (λ v. cond (passes v) v None) (get-from_entries o m.entries q)))

-- entries that show each value as it is
pub plain : {K Y : Type 0} (R : K → K → Ordering) (es : List (K × Y)) → seen R (λ y. y) es ≡ from_entries es
plain R [] = refl
plain R (e ∷ es) = ap (λ m. insert m e.0 e.1) (plain R es)

-- what a look-up shows, by the reference that it gave
pub copied : {X Y : Type 0} (show : X → Y) (given : Option (Bor X)) → option_map show (option_copied given) ≡ option_map (λ b. show b.now) given
copied show None = refl
copied show (Some b) = refl

-- entries, taken apart and put together
pub same_pairs : {A B : Type 0} (es : List (A × B)) → map (λ (e : A × B). (e.0, e.1)) es ≡ es
same_pairs [] = refl
same_pairs (e ∷ es) = ap (λ xs. e ∷ xs) (same_pairs es)

-- what is shown of what is shown
pub shown_again : {K X Y Z : Type 0} (show : X → Y) (again : Y → Z) (es : List (K × X))
    → map {B = K × Z} (λ (e : K × Y). (e.0, again e.1)) (map {B = K × Y} (λ (e : K × X). (e.0, show e.1)) es) ≡ map {B = K × Z} (λ (e : K × X). (e.0, again (show e.1))) es
shown_again show again [] = refl
shown_again show again (e ∷ es) = ap (λ xs. (e.0, again (show e.1)) ∷ xs) (shown_again show again es)

-- one more behind those so far, of what is left
pub one_behind : {X : Type 0} (all more : List X) (x y : X) (left rest whole : List X) → more ≡ all ++ (y ∷ []) → y ≡ x → left ≡ x ∷ rest → all ++ left ≡ whole → more ++ rest ≡ whole
one_behind all more x y left rest whole new same steps so =
    let apart : (all ++ (y ∷ [])) ++ rest ≡ all ++ (y ∷ rest) = rw append_assoc refl in
    ap (λ l. l ++ rest) new ∙ apart ∙ ap (λ z. all ++ (z ∷ rest)) same ∙ ap (λ l. all ++ l) (sym steps) ∙ so

-- what was put behind them
pub pushed : {X : Type 0} (copy : Result X AllocError) (x : X) (all more : List X) → IfOk copy (λ v. v ≡ x) → IsOkAnd copy (λ v. more ≡ all ++ (v ∷ [])) → more ≡ all ++ (x ∷ [])
pushed (Ok v) x all more same new = new ∙ ap (λ z. all ++ (z ∷ [])) same
pushed (Err e) x all more same new = absurd new

pub pushed_pair : {X Y : Type 0} (first : Result X AllocError) (second : Result Y AllocError) (x : X) (y : Y) (all more : List (X × Y)) → IfOk first (λ v. v ≡ x) → IfOk second (λ v. v ≡ y)
    → IsOkAnd first (λ a. IsOkAnd second (λ b. more ≡ all ++ ((a, b) ∷ []))) → more ≡ all ++ ((x, y) ∷ [])
pushed_pair (Ok v) (Ok z) x y all more same also new = new ∙ (λ i. all ++ ((same i, also i) ∷ []))
pushed_pair (Ok v) (Err e) x y all more same also new = absurd new
pushed_pair (Err e) second x y all more same also new = absurd new

-- of a name and bytes, as they are shown
pub pushed_entry : (first : Result Text AllocError) (second : Result (Vec ℕ Global) AllocError) (name bytes : Text) (all more : List (Text × Vec ℕ Global))
    → IfOk first (λ v. v ≡ name) → IfOk second (λ v. v.items ≡ bytes) → IsOkAnd first (λ a. IsOkAnd second (λ b. more ≡ all ++ ((a, b) ∷ [])))
    → map {B = Text × Text} (λ p. (p.0, p.1.items)) more ≡ map {B = Text × Text} (λ p. (p.0, p.1.items)) all ++ ((name, bytes) ∷ [])
pushed_entry (Ok v) (Ok z) name bytes all more same also new =
    ap (λ (ps : List (Text × Vec ℕ Global)). map {B = Text × Text} (λ p. (p.0, p.1.items)) ps) new ∙ map_push (λ (p : Text × Vec ℕ Global). (p.0, p.1.items)) all (v, z)
    ∙ (λ i. map {B = Text × Text} (λ p. (p.0, p.1.items)) all ++ ((same i, also i) ∷ []))
pushed_entry (Ok v) (Err e) name bytes all more same also new = absurd new
pushed_entry (Err e) second name bytes all more same also new = absurd new

-- none of what is left is behind them
pub none_behind : {X : Type 0} (all more left rest whole : List X) → more ≡ all → left ≡ rest → all ++ left ≡ whole → more ++ rest ≡ whole
none_behind all more left rest whole same steps so = ap (λ l. l ++ rest) same ∙ ap (λ l. all ++ l) (sym steps) ∙ so

-- a filter takes or leaves the first of what is left
module _ {X : Type 0} (p : X → Bool) (x : X) (left rest : List X) (steps : left ≡ x ∷ rest) where
  pub first_taken : p x ≡ true → filter p left ≡ x ∷ filter p rest
  first_taken t = ap (filter p) steps ∙ ap (λ b. cond b (x ∷ filter p rest) (filter p rest)) t

  pub first_left : p x ≡ false → filter p left ≡ filter p rest
  first_left t = ap (filter p) steps ∙ ap (λ b. cond b (x ∷ filter p rest) (filter p rest)) t
