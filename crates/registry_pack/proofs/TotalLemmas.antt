-- How many bytes holes have together.
use Rattle.std.proofs.Common.{◌≡◌, ◌+◌, ◌≤◌, ◌<◌, ◌^◌, ℕ, List, [], ◌∷◌, length, get_or, drop, sym, ◌∙◌, ap, arith}
use Rattle.std.proofs.lemmas.List.{drop_more, drop_all}
use Rattle.registry_pack.specs.declared.extent.Extent.{Extent}
use Rattle.registry_pack.specs.Extents.{total_of}
use Rattle.registry_pack.proofs.ExtentLemmas.{total_of-none, total_of-more}
use Rattle.registry_pack.specs.Holes.{AreHolesFrom, AreHoles}

total_within : (low : ℕ) (es : List Extent) → AreHolesFrom low es → low ≤ 2 ^ 63 → low + total_of es ≤ 2 ^ 63
total_within low [] h le = omega (arith, total_of-none)
total_within low (e ∷ es) h le =
    let fits : e.at + e.size < 2 ^ 63 = e.fits in
    omega (arith, total_of-more e es, total_within (e.at + e.size + 1) es h.1 (omega arith), h.0.0)

pub total_fits : (es : List Extent) → AreHoles es → total_of es < 2 ^ 63
total_fits [] h = omega (arith, total_of-none)
total_fits (e ∷ es) h =
    let fits : e.at + e.size < 2 ^ 63 = e.fits in
    omega (arith, total_of-more e es, total_within (e.at + e.size + 1) es h.1 (omega arith))

-- the sum so far, and what is left
pub total_of-next : (es : List Extent) (i sum : ℕ) → sum + total_of (drop i es) ≡ total_of es → i < length es → (e : Extent) → e ≡ get_or es i e
    → sum + e.size + total_of (drop (i + 1) es) ≡ total_of es
total_of-next es i sum so_far lt e is =
    let later = drop_more es i e lt ∙ ap (λ (x : Extent). x ∷ drop (i + 1) es) (sym is) in
    omega (arith, so_far, ap total_of later, total_of-more e (drop (i + 1) es))

pub total_of-all : (es : List Extent) (i sum : ℕ) → sum + total_of (drop i es) ≡ total_of es → length es ≤ i → sum ≡ total_of es
total_of-all es i sum so_far le = omega (arith, so_far, ap total_of (drop_all i es le), total_of-none)
