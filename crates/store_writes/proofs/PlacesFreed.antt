-- Contents that nothing names go with their places.
use Rattle.std.proofs.Common.{◌≡◌, ◌∙◌, ◌<◌, ◌+◌, ℕ, ℤ, List, [], ◌∷◌, length, take, get_or, Bool, true, false, not, cond, None, Ok, Err, Result, OnOk, refl, sym, ap, subst}
use Rattle.std.specs.Prelude.{◌||◌, ◌&&◌, find, filter, is_some, Option, IsTrue}
use Rattle.std.specs.List.{AllByRecursion}
use Rattle.std.specs.Ordering.{int_eq}
use Rattle.std.proofs.lemmas.List.Folds.{list_any_more}
use Rattle.sqlite.specs.Order.{Row}
use Rattle.sqlite.specs.State.{State, IsUnchanged}
use Rattle.sqlite.specs.Tree.{rowid, has_rowid}
use Rattle.sqlite_trees.specs.View.{is_int}
use Rattle.sqlite_trees.proofs.ListLemmas.{all_weaker, filter_same}
use Rattle.oci_types.specs.Text.{Text}
use Rattle.store_schema.specs.Rows.{integer_at}
use Rattle.store_schema.proofs.Ids.{int_eq-sym}
use Rattle.store_contents.specs.declared.content_id.ContentId.{ContentId}
use Rattle.store_contents.specs.Layouts.{InPack, contents_in}
use Rattle.store_contents.specs.Places.{content_rows, place_rows}
use Rattle.store_places.specs.Places.{IsInside, Removes}
use Rattle.store_places.proofs.SourceLemmas.{removed_holds}
use Rattle.store_statements.specs.Known.{KnowsRegistry}
use Rattle.store_statements.specs.Tables.{AreTables, Tables}
use Rattle.store_statements.specs.Held.{IsReady, held, tables_in}
use Rattle.store_statements.proofs.OtherTables.{only_around}
use Rattle.store_writes.specs.Naming.{AreUnnamed, is_among, is_in_column, is_named, Cleared, FreesPlaces, PlacedGone}
use Rattle.store_writes.proofs.ContentNaming.{or_none}
use Rattle.store_writes.proofs.ContentsFreed.{cleared, gone_more, none_gone, not_there, still_held}

-- ---- one content

same_rows : (t : Tables) (contents : ℤ → Option Text) (rows : List Row) → AreTables t → AreTables (record t { contents = contents; places = rows })
same_rows t contents rows are = record { repos = are.repos; grants = are.grants; tags = are.tags; blobs = are.blobs; manifests = are.manifests; uploads = are.uploads; pieces = are.pieces }

placed_gone : (file : List ℕ) (old new : State) (id : ContentId) → IsReady (InPack file) old → Removes old.now new.now id.id → IsInside new
    → IsReady (InPack file) new × PlacedGone (held (InPack file) old) (held (InPack file) new) (id ∷ [])
placed_gone file old new id is gone inside =
    let others = only_around file old.now new.now is.holds.known gone.others in (
      record {
        inside = inside.inside;
        holds = record {
          known = subst (KnowsRegistry (InPack file)) (sym gone.others.schema) is.holds.known;
          contents = removed_holds file old.now new.now id.id gone is.holds.contents inside.holds;
          tables = subst AreTables (sym others) (same_rows (tables_in (InPack file) old.now) (contents_in (InPack file) new.now) (place_rows new.now) is.holds.tables);
        };
      },
      record {
        gone = record {
          contents = λ i. gone.bytes file i ∙ ap (λ b. cond b None (contents_in (InPack file) old.now i)) (int_eq-sym id.id i ∙ sym (or_none (int_eq i id.id)));
          others = others;
        };
        places = gone.places ∙ (λ i. filter (λ (r : Row). not (sym (or_none (int_eq (integer_at r 1) id.id)) i)) (place_rows old.now));
      },
    )

-- the same of a call's result
pub placed_gone_if : {A E : Type 0} (file : List ℕ) (old new : State) (id : ContentId) (r : Result A E) → IsReady (InPack file) old → OnOk r (Removes old.now new.now id.id × IsInside new)
    → OnOk r (IsReady (InPack file) new × PlacedGone (held (InPack file) old) (held (InPack file) new) (id ∷ []))
placed_gone_if file old new id (Ok x) is gone = placed_gone file old new id is gone.0 gone.1
placed_gone_if file old new id (Err e) is gone = tt

-- ---- one after another

filtered_both : (p q : Row → Bool) (rows : List Row) → filter p (filter q rows) ≡ filter (λ x. q x && p x) rows
filtered_both p q [] = refl
filtered_both p q (x ∷ xs) =
    elim (q x) as (λ b. filter p (cond b (x ∷ filter q xs) (filter q xs)) ≡ cond (b && p x) (x ∷ filter (λ y. q y && p y) xs) (filter (λ y. q y && p y) xs))
    [ true ↦ ap (λ l. cond (p x) (x ∷ l) l) (filtered_both p q xs) | false ↦ filtered_both p q xs ]

neither : (a b : Bool) → (not a && not b) ≡ not (a || b)
neither true b = refl
neither false b = refl

all_kept : (rows : List Row) → filter (λ r. true) rows ≡ rows
all_kept [] = refl
all_kept (r ∷ rs) = ap (λ l. r ∷ l) (all_kept rs)

pub none_placed_gone : (t : Tables) → PlacedGone t t []
none_placed_gone t = record { gone = none_gone t; places = sym (all_kept t.places) }

pub placed_more : (old mid new : Tables) (ids : List ContentId) (at : ℕ) (d : ContentId) → at < length ids → PlacedGone old mid (take at ids) → PlacedGone mid new (get_or ids at d ∷ []) → PlacedGone old new (take (at + 1) ids)
placed_more old mid new ids at d low before now = record {
  gone = gone_more old mid new ids at d low before.gone now.gone;
  places =
      now.places ∙ ap (filter (λ r. not (is_among (get_or ids at d ∷ []) (integer_at r 1)))) before.places
      ∙ filtered_both (λ r. not (is_among (get_or ids at d ∷ []) (integer_at r 1))) (λ r. not (is_among (take at ids) (integer_at r 1))) old.places
      ∙ (λ i. filter (λ (r : Row). together (integer_at r 1) i) old.places);
}
  where
    together : (k : ℤ) → (not (is_among (take at ids) k) && not (is_among (get_or ids at d ∷ []) k)) ≡ not (is_among (take (at + 1) ids) k)
    together k =
        neither (is_among (take at ids) k) (is_among (get_or ids at d ∷ []) k)
        ∙ ap (λ b. not (is_among (take at ids) k || b)) (or_none (int_eq k (get_or ids at d).id))
        ∙ ap not (sym (list_any_more (λ (other : ContentId). int_eq k other.id) ids at d low))

-- ---- those that nothing names

-- the content of a place is there, so it is among these where nothing names it
named_left : (rows : List Row) (k : ℤ) (named among : Bool) → AllByRecursion (λ r. IsTrue (is_int (rowid r))) rows → among ≡ (not named && is_in_column 0 rows k) → IsTrue (is_some (find (has_rowid k) rows)) → not among ≡ named
named_left rows k named among ints is there = go (is_in_column 0 rows k) refl
  where
    turned : (b : Bool) → not (not b && true) ≡ b
    turned true = refl
    turned false = refl

    go : (b : Bool) → is_in_column 0 rows k ≡ b → not among ≡ named
    go true e = ap not is ∙ ap (λ b. not (not named && b)) e ∙ turned named
    go false e = absurd (let x = subst (λ (o : Option Row). IsTrue (is_some o)) (not_there rows k ints e) there in cc)

pub places_freed : (file : List ℕ) (s : State) (new : Tables) (ids : List ContentId) → IsReady (InPack file) s → AreUnnamed (InPack file) s ids → PlacedGone (held (InPack file) s) new ids → FreesPlaces (held (InPack file) s) new
places_freed file s new ids is unnamed gone = record {
  places =
      gone.places
      ∙ filter_same (λ r. not (is_among ids (integer_at r 1))) (λ r. is_named (held (InPack file) s) (integer_at r 1)) (place_rows s.now)
      (all_weaker (λ r. IsTrue (is_some (find (has_rowid (integer_at r 1)) (content_rows s.now)))) (λ r. not (is_among ids (integer_at r 1)) ≡ is_named (held (InPack file) s) (integer_at r 1))
      (λ r owned. named_left (content_rows s.now) (integer_at r 1) (is_named (held (InPack file) s) (integer_at r 1)) (is_among ids (integer_at r 1)) is.holds.contents.rows.content_ids.1 (unnamed (integer_at r 1)) owned)
      (place_rows s.now) is.holds.contents.rows.owned);
  packs = ap (λ (t : Tables). t.packs) gone.gone.others;
}

-- the steps of a transaction
pub placed_cleared_if : {A E : Type 0} (file : List ℕ) (old mid new : State) (ids : List ContentId) (r : Result A E) → IsReady (InPack file) old → IsUnchanged old mid → AreUnnamed (InPack file) old ids
    → OnOk r (IsReady (InPack file) new × PlacedGone (held (InPack file) mid) (held (InPack file) new) ids)
    → OnOk r (IsReady (InPack file) new × (Cleared (held (InPack file) old) (held (InPack file) new) × FreesPlaces (held (InPack file) old) (held (InPack file) new)))
placed_cleared_if file old mid new ids (Ok x) is u unnamed gone =
    let after = held (InPack file) new in
    let it = subst (λ (t : Tables). PlacedGone t after ids) (still_held (InPack file) old mid u) gone.1 in
    (gone.0, (cleared (InPack file) old after ids is unnamed it.gone, places_freed file old after ids is unnamed it))
placed_cleared_if file old mid new ids (Err e) is u unnamed gone = tt
