-- Numbers that fit a column.
use Rattle.std.proofs.Common.{◌≡◌, ◌∙◌, ◌<◌, ◌≤◌, ◌+◌, ◌^◌, ℕ, Bool, true, Fits, w64, sym, arith}
use Rattle.std.specs.Prelude.{nat_lt}
use Rattle.registry_model.specs.Limits.{largest_blob, largest_manifest}
use borrow.Author.Tests.{ltb-true}

pub not_above : (n : ℕ) → n ≤ 9223372036854775807 → n < 2 ^ 63
not_above n h = omega (arith, h)

pub blob_fits : (n : ℕ) → n ≤ largest_blob → n < 2 ^ 63
blob_fits n h = omega (arith, h)

-- there was room
pub has_room_is : (n : ℕ) (room : Bool) → room ≡ nat_lt n (2 ^ 63) → room ≡ true → n < 2 ^ 63
has_room_is n room is so = ltb-true n (2 ^ 63) (sym is ∙ so)

-- of a sum
pub first_fits : (n more : ℕ) → n + more < 2 ^ 63 → n < 2 ^ 63
first_fits n more h = omega (arith, h)

pub second_fits : (n more : ℕ) → n + more < 2 ^ 63 → more < 2 ^ 63
second_fits n more h = omega (arith, h)

-- of the number behind one
pub next_fits : (n : ℕ) → n < 9223372036854775807 → n + 1 < 2 ^ 63
next_fits n h = omega (arith, h)

pub next_is_number : (n : ℕ) → n < 9223372036854775807 → Fits w64 (n + 1)
next_is_number n h = record { fits = omega (arith, h) }

-- there are some
pub some_more : (n m : ℕ) → n ≡ m → (m ≡ 0 → ⊥) → 0 < n
some_more n m same some = omega (arith, same, some)

pub manifest_fits : (n : ℕ) → n ≤ largest_manifest → n < 2 ^ 63
manifest_fits n h = omega (arith, h)
