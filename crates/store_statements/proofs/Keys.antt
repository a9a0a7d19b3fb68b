-- Keys of two texts.
use Rattle.std.proofs.Common.{◌≡◌, ◌∙◌, ℕ, List, Bool, true, false, sym, ap, refl}
use Rattle.std.specs.Prelude.{bytes_eq, ◌&&◌}
use Rattle.sqlite.specs.Order.{Row}
use Rattle.store_schema.specs.Rows.{bytes_at}
use Rattle.store_schema.proofs.Lists.{bytes_eq-sym, bytes_eq_true}
use Rattle.store_statements.specs.Keys.{has_key, same_key}

pub key_turned : (a b : Row) → same_key a b ≡ same_key b a
key_turned a b = ap (λ x. x && bytes_eq (bytes_at b 2) (bytes_at a 2)) (bytes_eq-sym (bytes_at b 1) (bytes_at a 1)) ∙ ap (λ x. bytes_eq (bytes_at a 1) (bytes_at b 1) && x) (bytes_eq-sym (bytes_at b 2) (bytes_at a 2))

pub both_true : (p q : Bool) → p && q ≡ true → (p ≡ true) × (q ≡ true)
both_true true true e = (refl, refl)
both_true true false e = absurd cc
both_true false q e = absurd cc

-- a key that one row has no row apart from it has
pub key_parts : (a b : List ℕ) (x y : Row) → same_key x y ≡ false → has_key a b x ≡ true → has_key a b y ≡ false
key_parts a b x y apart e =
    let both = both_true _ _ e in
    let same : same_key x y ≡ has_key a b y = ap (λ t. bytes_eq (bytes_at y 1) t && bytes_eq (bytes_at y 2) (bytes_at x 2)) (bytes_eq_true _ _ both.0) ∙ ap (λ t. bytes_eq (bytes_at y 1) a && bytes_eq (bytes_at y 2) t) (bytes_eq_true _ _ both.1) in
    sym same ∙ apart
