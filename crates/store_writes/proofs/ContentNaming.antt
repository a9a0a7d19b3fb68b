-- Sets of contents, and which of them the tables name.
use Rattle.std.proofs.Common.{◌≡◌, ◌∙◌, ◌<◌, ◌+◌, inl, inr, ℕ, ℤ, List, [], ◌∷◌, map, length, take, get_or, Bool, true, false, Ordering, Less, Equal, Greater, Ok, Err, Result, OnOk, refl, sym, ap}
use Rattle.std.specs.Prelude.{◌||◌, IfOk, IsOkAnd, Vec}
use Rattle.std.specs.declared.alloc.Global.{Global}
use Rattle.std.specs.List.Sorted.{IsPermutation}
use Rattle.std.specs.Ordering.{int_eq, match_ordering}
use Rattle.std.specs.BTreeSet.{insert_key}
use Rattle.std.proofs.lemmas.List.Sorted.{list_any-IsPermutation}
use Rattle.std.proofs.lemmas.List.Folds.{list_any_more}
use Rattle.sqlite.specs.Order.{Row}
use Rattle.sqlite_rules.specs.Lists.{Has}
use Rattle.store_schema.specs.Rows.{integer_at}
use Rattle.store_schema.proofs.Ids.{int_eq_itself}
use Rattle.store_contents.specs.declared.content_id.ContentId.{ContentId}
use Rattle.store_statements.specs.Tables.{Tables}
use Rattle.store_statements.specs.Shown.{content_named}
use Rattle.store_writes.specs.Naming.{is_among, is_in_column, is_named}

-- ---- of two tests, the one or the other

pub or_none : (a : Bool) → (a || false) ≡ a
or_none true = refl
or_none false = refl

pub or_turned : (a b : Bool) → (a || b) ≡ (b || a)
or_turned true true = refl
or_turned true false = refl
or_turned false true = refl
or_turned false false = refl

pub or_grouped : (a b c : Bool) → ((a || b) || c) ≡ (a || (b || c))
or_grouped true b c = refl
or_grouped false b c = refl

or_twice : (a b c : Bool) → c ≡ a → (a || b) ≡ ((a || b) || c)
or_twice true b c e = refl
or_twice false true c e = refl
or_twice false false c e = sym e

-- ---- a set of ids

-- one id more
pub inserted : (cmp : ContentId → ContentId → Ordering) → ((a b : ContentId) → cmp a b ≡ Equal → a.id ≡ b.id) → (ks : List ContentId) (k : ContentId) (i : ℤ) → is_among (insert_key cmp ks k) i ≡ (is_among ks i || int_eq i k.id)
inserted cmp exact [] k i = or_none (int_eq i k.id)
inserted cmp exact (x ∷ xs) k i = go (inserted cmp exact xs k i) (cmp k x) refl
  where
    go : is_among (insert_key cmp xs k) i ≡ (is_among xs i || int_eq i k.id) → (o : Ordering) → cmp k x ≡ o → is_among (match_ordering o (k ∷ x ∷ xs) (x ∷ xs) (x ∷ insert_key cmp xs k)) i ≡ ((int_eq i x.id || is_among xs i) || int_eq i k.id)
    go more Less e = or_turned (int_eq i k.id) (int_eq i x.id || is_among xs i)
    go more Equal e = or_twice (int_eq i x.id) (is_among xs i) (int_eq i k.id) (ap (int_eq i) (exact k x e))
    go more Greater e = ap (λ b. int_eq i x.id || b) more ∙ sym (or_grouped (int_eq i x.id) (is_among xs i) (int_eq i k.id))

pub inserted_more : (first olds news ids : List ContentId) (at : ℕ) (d : ContentId) → at < length ids → ((i : ℤ) → is_among olds i ≡ (is_among first i || is_among (take at ids) i))
    → ((i : ℤ) → is_among news i ≡ (is_among olds i || int_eq i (get_or ids at d).id)) → (i : ℤ) → is_among news i ≡ (is_among first i || is_among (take (at + 1) ids) i)
inserted_more first olds news ids at d low before now i =
    now i ∙ ap (λ b. b || int_eq i (get_or ids at d).id) (before i) ∙ or_grouped (is_among first i) (is_among (take at ids) i) (int_eq i (get_or ids at d).id)
    ∙ ap (λ b. is_among first i || b) (sym (list_any_more (λ (other : ContentId). int_eq i other.id) ids at d low))

-- ---- ids in a column

pub among_column : (at : ℕ) (rows : List Row) (i : ℤ) → is_among (map (content_named at) rows) i ≡ is_in_column at rows i
among_column at [] i = refl
among_column at (r ∷ rs) i = ap (λ b. int_eq i (integer_at r at) || b) (among_column at rs i)

pub has_in_column : (at : ℕ) (rows : List Row) (r : Row) → Has rows r → is_in_column at rows (integer_at r at) ≡ true
has_in_column at [] r h = absurd h
has_in_column at (x ∷ xs) r (inl e) = ap (λ b. b || is_in_column at xs (integer_at r at)) (ap (λ (y : Row). int_eq (integer_at r at) (integer_at y at)) (sym e) ∙ int_eq_itself (integer_at r at))
has_in_column at (x ∷ xs) r (inr h) = ap (λ b. int_eq (integer_at r at) (integer_at x at) || b) (has_in_column at xs r h) ∙ or_turned (int_eq (integer_at r at) (integer_at x at)) true

-- all the ids that were found in a column were put into a set
pub column_inserted : {E : Type 0} (found : Result (Vec ContentId Global) E) (olds news : List ContentId) (at : ℕ) (rows : List Row) → IfOk found (λ ids. IsPermutation (map (content_named at) rows) ids.items)
    → IsOkAnd found (λ ids. (i : ℤ) → is_among news i ≡ (is_among olds i || is_among ids.items i)) → (i : ℤ) → is_among news i ≡ (is_among olds i || is_in_column at rows i)
column_inserted (Ok ids) olds news at rows same h i = h i ∙ ap (λ b. is_among olds i || b) (sym (list_any-IsPermutation (λ (other : ContentId). int_eq i other.id) _ ids.items same) ∙ among_column at rows i)
column_inserted (Err e) olds news at rows same h i = absurd h

-- those of all three columns, into an empty one
pub all_inserted : (t : Tables) (none some more all : List ContentId) → none ≡ [] → ((i : ℤ) → is_among some i ≡ (is_among none i || is_in_column 4 t.blobs i))
    → ((i : ℤ) → is_among more i ≡ (is_among some i || is_in_column 6 t.manifests i)) → ((i : ℤ) → is_among all i ≡ (is_among more i || is_in_column 5 t.pieces i)) → (i : ℤ) → is_among all i ≡ is_named t i
all_inserted t none some more all empty blobs manifests pieces i =
    pieces i ∙ ap (λ b. b || is_in_column 5 t.pieces i) (manifests i ∙ ap (λ b. b || is_in_column 6 t.manifests i) (blobs i ∙ ap (λ (ks : List ContentId). is_among ks i || is_in_column 4 t.blobs i) empty))
    ∙ or_grouped (is_in_column 4 t.blobs i) (is_in_column 6 t.manifests i) (is_in_column 5 t.pieces i)

-- they were found
pub was_read : {E P : Type 0} (found : Result (Vec ContentId Global) E) (olds news : List ContentId) → IsOkAnd found (λ ids. (i : ℤ) → is_among news i ≡ (is_among olds i || is_among ids.items i)) → OnOk found P → P
was_read (Ok ids) olds news h p = p
was_read (Err e) olds news h p = absurd h
