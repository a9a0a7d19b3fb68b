-- How sizes add up in 64 bits.
use Rattle.std.proofs.Common.{◌≡◌, ◌<◌, ◌+◌, ◌-◌, ◌^◌, ℕ, List, ◌∷◌, [], ◌++◌, length, take, get_or, map, filter, min, Ok, Err, Result, IfOk, IsOkAnd, refl, sym, ap, ◌∙◌, arith}
use Rattle.std.specs.Prelude.{Vec, sum_by}
use Rattle.std.specs.declared.alloc.Global.{Global}
use Rattle.std.specs.List.Sorted.{IsPermutation}
use Rattle.std.proofs.lemmas.Bool.Decides.{nat_tests}
use Rattle.std.proofs.lemmas.List.{take_more, length-map}
use Rattle.std.proofs.lemmas.List.Sums.{sum_by_push, sum_by-cons}
use Rattle.std.proofs.lemmas.List.Sorted.{sum_by-IsPermutation, length_permutation}
use Rattle.sqlite.specs.Order.{Row}
use Rattle.sqlite.specs.State.{State}
use Rattle.oci_types.specs.Text.{Text}
use Rattle.oci_types.specs.declared.fault.Fault.{Fault}
use Rattle.registry_model.specs.Usage.{in_64_bits}
use Rattle.store_schema.specs.Rows.{natural_at}
use Rattle.store_contents.specs.Layouts.{Layout}
use Rattle.store_statements.specs.Keys.{of_first}
use Rattle.store_reads.specs.declared.tallies.Tally.{Tally}
use Rattle.store_reads.specs.declared.tallies.Holdings.{Holdings}
use Rattle.store_statements.specs.Held.{held, tables_in}
use Rattle.store_reads.specs.Tallies.{tally_of, tally_in, holdings_in}

pub as_min : (n : ℕ) → in_64_bits n ≡ min n 18446744073709551615
as_min n = grind (arith, nat_tests)

-- one more, over what was added up so far
one_more : (t n s : ℕ) → t ≡ in_64_bits s → min (t + n) (2 ^ 64 - 1) ≡ in_64_bits (s + n)
one_more t n s e =
    let was : t ≡ min s 18446744073709551615 = e ∙ as_min s in
    ap (λ x. min (x + n) 18446744073709551615) was ∙ least s n ∙ sym (as_min (s + n))
  where
    least : (s n : ℕ) → min (min s 18446744073709551615 + n) 18446744073709551615 ≡ min (s + n) 18446744073709551615
    least s n = omega arith

pub more_bytes : (sizes : List ℕ) (at t size : ℕ) → at < length sizes → size ≡ get_or sizes at 0 → t ≡ in_64_bits (sum_by (λ n. n) (take at sizes)) → min (t + size) (2 ^ 64 - 1) ≡ in_64_bits (sum_by (λ n. n) (take (at + 1) sizes))
more_bytes sizes at t size low is so_far =
    one_more t size (sum_by (λ n. n) (take at sizes)) so_far
    ∙ ap in_64_bits (sym (sum_by_push (λ n. n) (take at sizes) size) ∙ ap (λ x. sum_by (λ n. n) (take at sizes ++ x ∷ [])) is ∙ ap (sum_by (λ n. n)) (sym (take_more sizes at 0 low)))

summed : {X : Type 0} (f : X → ℕ) (xs : List X) → sum_by (λ n. n) (map f xs) ≡ sum_by f xs
summed f [] = refl
summed f (x ∷ xs) = sum_by-cons (λ n. n) (f x) (map f xs) ∙ ap (λ n. f x + n) (summed f xs) ∙ sym (sum_by-cons f x xs)

-- the sizes of a repository's rows come to the same in any order
tally_shown : (rows : List Row) (name : Text) (sizes : List ℕ) (t : Tally) → IsPermutation (map (λ r. natural_at r 3) (filter (of_first name) rows)) sizes → t ≡ tally_of sizes → t ≡ tally_in rows name
tally_shown rows name sizes t same is =
    let of = filter (of_first name) rows in
    let f = λ (r : Row). natural_at r 3 in
    let long : length sizes ≡ length of = length_permutation (map f of) sizes same ∙ length-map of f in
    let sums : sum_by (λ n. n) sizes ≡ sum_by f of = sum_by-IsPermutation (λ n. n) (map f of) sizes same ∙ summed f of in
    is ∙ (λ i. record { number = long i; bytes = in_64_bits (sums i) })

pub tallied : (rows : List Row) (name : Text) (found : Result (Vec ℕ Global) Fault) (t : Tally) → IfOk found (λ sizes. IsPermutation (map (λ r. natural_at r 3) (filter (of_first name) rows)) sizes.items) → IsOkAnd found (λ sizes. t ≡ tally_of sizes.items) → t ≡ tally_in rows name
tallied rows name (Ok sizes) t same is = tally_shown rows name sizes.items t same is
tallied rows name (Err f) t same is = absurd is

-- one after the other, of a database that stays
pub held_together : (l : Layout) → (old mid late : State) (name : Text) (blobs manifests sessions : Tally) → mid.now ≡ old.now → late.now ≡ old.now
    → blobs ≡ tally_in (held l old).blobs name → manifests ≡ tally_in (held l mid).manifests name → sessions ≡ tally_in (held l late).uploads name
    → ◌≡◌ {A = Holdings} (record { blobs = blobs; manifests = manifests; sessions = sessions }) (holdings_in (held l old) name)
held_together l old mid late name blobs manifests sessions same again b m s =
    λ i. record {
      blobs = b i;
      manifests = (m ∙ ap (λ db. tally_in (tables_in l db).manifests name) same) i;
      sessions = (s ∙ ap (λ db. tally_in (tables_in l db).uploads name) again) i;
    }

pub three_totals : (a b c : ℕ) → in_64_bits (in_64_bits a + in_64_bits b + in_64_bits c) ≡ in_64_bits (a + b + c)
three_totals a b c =
    (λ i. in_64_bits (as_min a i + as_min b i + as_min c i)) ∙ as_min _ ∙ least a b c ∙ sym (as_min (a + b + c))
  where
    least : (a b c : ℕ) → min (min a 18446744073709551615 + min b 18446744073709551615 + min c 18446744073709551615) 18446744073709551615 ≡ min (a + b + c) 18446744073709551615
    least a b c = omega arith
