-- The bytes of a file at the extents that were read.
use Rattle.std.proofs.Common.{◌≡◌, ◌∙◌, ◌+◌, ◌++◌, ℕ, ℤ, List, [], ◌∷◌, slice_range, None, Some, sym, ap, subst, refl}
use Rattle.std.specs.Prelude.{Option, find, is_some, option_map, IsTrue}
use Rattle.std.proofs.lemmas.List.{map-append}
use Rattle.sqlite.specs.Order.{Row}
use Rattle.sqlite.specs.Tree.{has_rowid}
use Rattle.sqlite.specs.Effect.{Database}
use Rattle.store_schema.specs.Rows.{natural_at}
use Rattle.registry_pack.specs.declared.extent.Extent.{Extent}
use Rattle.registry_pack.specs.Extents.{AreWithin, bytes_at}
use Rattle.store_contents.specs.Places.{bytes_in, bytes_of, content_rows, joined, place_rows, places_of, runs_of}
use Rattle.store_places.specs.Places.{has_content, runs_at}
use Rattle.store_pack.specs.Opening.{AreThere}

pub runs_more : (es : List Extent) (e : Extent) → runs_at (es ++ e ∷ []) ≡ runs_at es ++ (e.at, e.size) ∷ []
runs_more es e = map-append (λ (x : Extent). (x.at, x.size)) es (e ∷ [])

-- over any file they have the bytes of the places
pub extents_joined : (file : List ℕ) (es : List Extent) (rows : List Row) → runs_at es ≡ runs_of rows → bytes_at file es ≡ joined file rows
extents_joined file [] [] e = refl
extents_joined file [] (r ∷ rs) e = absurd (let x = e in cc)
extents_joined file (x ∷ xs) [] e = absurd (let y = e in cc)
extents_joined file (x ∷ xs) (r ∷ rs) e =
    let head : (x.at, x.size) ≡ (natural_at r 4, natural_at r 3) = cc in
    let tail : runs_at xs ≡ runs_of rs = cc in
    ap (λ (run : ℕ × ℕ). slice_range file run.0 (run.0 + run.1) ++ bytes_at file xs) head ∙ ap (λ l. bytes_of file r ++ l) (extents_joined file xs rs tail)

-- THE BYTES of a content are those at its extents
pub extents_have : (db : Database) (file : List ℕ) (id : ℤ) (es : List Extent) → has_content db id → runs_at es ≡ runs_of (places_of (place_rows db) id) → bytes_in db file id ≡ Some (bytes_at file es)
extents_have db file id es there e = by (find (has_rowid id) (content_rows db)) there ∙ ap Some (sym (extents_joined file es (places_of (place_rows db) id) e))
  where
    by : (o : Option Row) → IsTrue (is_some o) → option_map (λ _. joined file (places_of (place_rows db) id)) o ≡ Some (joined file (places_of (place_rows db) id))
    by None there = absurd (let x = there in cc)
    by (Some r) there = refl

-- extents that are places of a file that is as long as these say
pub extents_there : (file : List ℕ) (es : List Extent) (runs : List (ℕ × ℕ)) → runs_at es ≡ runs → AreThere file runs → AreWithin file es
extents_there file es runs is there = within es (subst (AreThere file) (sym is) there)
  where
    within : (xs : List Extent) → AreThere file (runs_at xs) → AreWithin file xs
    within [] all = tt
    within (x ∷ xs) all = (all.0, within xs all.1)
