-- Pieces that lie one behind the other, and what their bytes are.
use Rattle.std.proofs.Common.{◌≡◌, ◌<◌, ◌≤◌, ◌+◌, ℕ, ℤ, List, [], ◌∷◌, ◌++◌, length, Option, Some, sym, ap, ◌∙◌, arith}
use Rattle.std.specs.List.{AllByRecursion}
use Rattle.std.specs.Prelude.{unwrap_or}
use Rattle.std.proofs.lemmas.List.{append-nil, append_assoc, length-append}
use Rattle.sqlite.specs.Order.{Row}
use Rattle.oci_types.specs.Text.{Text}
use Rattle.store_schema.specs.Rows.{natural_at, integer_at}
use Rattle.store_statements.specs.World.{content_at, piece_bytes, joined}
use Rattle.store_statements.specs.Registry.{PieceAgrees, Reach}

-- ---- where pieces begin and end

pub reach_on : (from end : ℕ) (ps : List Row) → Reach from ps end → from ≤ end
reach_on from end [] h = omega (arith, h)
reach_on from end (p ∷ ps) h = omega (arith, reach_on (from + natural_at p 4) end ps h.1)

-- pieces that are not empty begin below the end
pub reach_below : (from end : ℕ) (ps : List Row) → AllByRecursion (λ p. 0 < natural_at p 4) ps → Reach from ps end → AllByRecursion (λ p. natural_at p 3 < end) ps
reach_below from end [] more h = tt
reach_below from end (p ∷ ps) more h = (omega (arith, h.0, more.0, reach_on (from + natural_at p 4) end ps h.1), reach_below (from + natural_at p 4) end ps more.1 h.1)

-- one more piece begins where the last one ends
pub reach_more : (from end : ℕ) (ps : List Row) (q : Row) → Reach from ps end → natural_at q 3 ≡ end → Reach from (ps ++ q ∷ []) (end + natural_at q 4)
reach_more from end [] q h e = (e ∙ sym h, ap (λ n. n + natural_at q 4) h)
reach_more from end (p ∷ ps) q h e = (h.0, reach_more (from + natural_at p 4) end ps q h.1 e)

-- ---- their bytes

pub content_found : (contents : ℤ → Option Text) (id : ℤ) (bytes : Text) → contents id ≡ Some bytes → content_at contents id ≡ bytes
content_found contents id bytes e = ap (λ o. unwrap_or o []) e

pub joined_more : (contents : ℤ → Option Text) (ps : List Row) (q : Row) → joined contents (ps ++ q ∷ []) ≡ joined contents ps ++ piece_bytes contents q
joined_more contents [] q = append-nil (piece_bytes contents q)
joined_more contents (p ∷ ps) q = ap (λ l. piece_bytes contents p ++ l) (joined_more contents ps q) ∙ sym (append_assoc (piece_bytes contents p) (joined contents ps) (piece_bytes contents q))

-- the bytes are as many as the pieces reach
pub reach_length : (contents : ℤ → Option Text) (from end : ℕ) (ps : List Row) → AllByRecursion (PieceAgrees contents) ps → Reach from ps end → from + length (joined contents ps) ≡ end
reach_length contents from end [] all h = omega (arith, h)
reach_length contents from end (p ∷ ps) all h =
    let here : length (piece_bytes contents p) ≡ natural_at p 4 = ap length (content_found contents (integer_at p 5) all.0.bytes all.0.there) ∙ sym all.0.size in
    let more = reach_length contents (from + natural_at p 4) end ps all.1 h.1 in
    omega (arith, here, more, length-append (piece_bytes contents p) (joined contents ps))
