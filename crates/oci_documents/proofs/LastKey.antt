-- A key that is above those of a map goes last.
use Rattle.std.proofs.Common.{◌≡◌, List, [], ◌∷◌, ◌++◌, map, Less, Greater, nat_cmp, string_cmp, string_bytes, String, Global, refl, ap, ◌∙◌}
use Rattle.std.proofs.lemmas.Cmp.{nat_list_cmp_total}
use Rattle.std.specs.Cmp.Lexicographic.{slice_cmp}
use Rattle.std.specs.BTreeMap.{insert_entry}
use Rattle.std.specs.List.{AllByRecursion}
use Rattle.std.specs.List.Sorted.{IsStrictlySortedBy}
use Rattle.std.specs.Map.{keys_of}
use Rattle.std.specs.Ordering.{ordering_reverse}
use Rattle.oci_types.specs.Text.{Text}

-- the texts of the keys
abbrev pub names : {X : Type 0} → List (String Global × X) → List Text
names es = map (λ e. string_bytes e.0) es

-- the text is above each of these
abbrev pub IsAbove : Text → List Text → Type 0
IsAbove k [] = Unit {0}
IsAbove k (n ∷ ns) = (slice_cmp nat_cmp k n ≡ Greater) × IsAbove k ns

pub goes_last : {X : Type 0} (es : List (String Global × X)) (k : String Global) (v : X) → IsAbove (string_bytes k) (names es) → insert_entry string_cmp es k v ≡ es ++ (k, v) ∷ []
goes_last [] k v h = refl
goes_last {X} (x ∷ es) k v h =
    let here : string_cmp k x.0 ≡ Greater = h.0 in
    rw here (ap (λ (rest : List (String Global × X)). x ∷ rest) (goes_last es k v h.1))

below : {X : Type 0} (first : String Global × X) (es : List (String Global × X)) (e : String Global × X) (more : List (String Global × X)) → AllByRecursion (λ y. string_cmp first.0 y ≡ Less) (keys_of (es ++ e ∷ more)) → string_cmp first.0 e.0 ≡ Less
below first [] e more h = h.0
below first (x ∷ es) e more h = below first es e more h.1

-- a key of a map is above those that stand before it
pub above_front : {X : Type 0} (done : List (String Global × X)) (e : String Global × X) (more : List (String Global × X)) → IsStrictlySortedBy string_cmp (keys_of (done ++ e ∷ more)) → IsAbove (string_bytes e.0) (names done)
unfolding IsStrictlySortedBy
above_front [] e more h = tt
above_front (x ∷ done) e more h = (nat_list_cmp_total.antisymm (string_bytes e.0) (string_bytes x.0) ∙ ap ordering_reverse (below x done e more h.0), above_front done e more h.1)

pub names-append_one : {X : Type 0} (es : List (String Global × X)) (e : String Global × X) → names (es ++ e ∷ []) ≡ names es ++ string_bytes e.0 ∷ []
names-append_one [] e = refl
names-append_one (x ∷ es) e = ap (λ (ns : List Text). string_bytes x.0 ∷ ns) (names-append_one es e)
