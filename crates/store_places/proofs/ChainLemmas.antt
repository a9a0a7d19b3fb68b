-- The rows of several places, put in one behind the other.
use Rattle.std.proofs.Common.{◌≡◌, ◌<◌, ◌≤◌, ◌+◌, ℕ, zero, suc, ℤ, List, [], ◌∷◌, ◌++◌, length, take, get_or, inl, refl, sym, ap, subst, ◌∙◌, arith}
use Rattle.std.proofs.lemmas.List.{take_more}
use Rattle.sqlite_trees.specs.declared.store.Store.{Ghosts}
use Rattle.std.specs.Prelude.{filter, find, is_some, IsTrue}
use Rattle.sqlite.specs.Tree.{has_rowid}
use Rattle.sqlite.specs.Effect.{Database}
use Rattle.sqlite.specs.State.{State, HasCleanDisk, KeepsCommit, Survives}
use Rattle.sqlite.specs.Held.{Held, state}
use Rattle.store_schema.proofs.Selects.{commit_then, survives_both, was_clean}
use Rattle.registry_pack.specs.declared.extent.Extent.{Extent}
use Rattle.registry_pack.specs.Extents.{total_of}
use Rattle.store_contents.specs.Places.{of_content, place_rows}
use Rattle.store_places.specs.Places.{IsInside, AreBefore, PutsPlace, PutsPlaces, has_content}
use Rattle.store_places.proofs.WorldLemmas.{AreSome, before_put, rows_kept}

survives_here : (s : State) → Survives s s (λ _. ⊥)
survives_here s = record { clean = omega arith; shield = λ h. h; counts = omega arith; limit = refl; closes = λ clean h. inl h; crash = λ clean db h. inl h }

total_more : (es : List Extent) (e : Extent) → total_of (es ++ e ∷ []) ≡ total_of es + e.size
total_more [] e = omega arith
total_more (x ∷ xs) e = omega (arith, total_more xs e)

pub total_within : (es : List Extent) (i : ℕ) → total_of (take i es) ≤ total_of es
total_within [] zero = omega arith
total_within [] (suc i) = omega arith
total_within (x ∷ xs) zero = omega arith
total_within (x ∷ xs) (suc i) = omega (arith, total_within xs i)

pub total_next : (es : List Extent) (i : ℕ) (e : Extent) → i < length es → e ≡ get_or es i e → total_of (take (i + 1) es) ≡ total_of (take i es) + e.size
total_next es i e low is = ap total_of (take_more es i e low ∙ ap (λ x. take i es ++ x ∷ []) (sym is)) ∙ total_more (take i es) e

chain_more : (old mid new : Database) (id : ℤ) (start : ℕ) (es : List Extent) (e : Extent) → PutsPlaces old mid id start es → PutsPlace mid new id (start + total_of es) e.at e.size → PutsPlaces old new id start (es ++ e ∷ [])
chain_more old mid new id start [] e puts put =
    let at_start : start + 0 ≡ start = omega arith in
    (new, subst (λ n. PutsPlace old new id n e.at e.size) at_start (subst (λ (d : Database). PutsPlace d new id (start + 0) e.at e.size) puts put), refl)
chain_more old mid new id start (x ∷ xs) e puts put =
    let further : start + (x.size + total_of xs) ≡ start + x.size + total_of xs = omega arith in
    (puts.0, puts.1, chain_more puts.0 mid new id (start + x.size) xs e puts.2 (subst (λ n. PutsPlace mid new id n e.at e.size) further put))

-- the content has no places
abbrev pub HasNone : Database → ℤ → Type 0
HasNone db id = filter (of_content id) (place_rows db) ≡ []

some_taken : (i : ℕ) (es : List Extent) → AreSome es → AreSome (take i es)
some_taken zero [] some = tt
some_taken zero (e ∷ es) some = tt
some_taken (suc i) [] some = tt
some_taken (suc i) (e ∷ es) some = (some.0, some_taken i es some.1)

-- those so far are in
pub record SoFar {S : Type 0} (g : Ghosts S) (id : ℤ) (es : List Extent) (start : ℕ) (old now : Held S) : Type 0 where
  pub begins : start ≡ total_of es
  pub put : HasCleanDisk (state g now) → IsInside (state g old) → has_content (state g old).now id → HasNone (state g old).now id → PutsPlaces (state g old).now (state g now).now id 0 es × IsInside (state g now)
  pub kept : HasCleanDisk (state g now) → IsInside (state g old) → has_content (state g old).now id → HasNone (state g old).now id → KeepsCommit (state g old) (state g now)
  pub survives : Survives (state g old) (state g now) (λ _. ⊥)

module _ {S : Type 0} (g : Ghosts S) (id : ℤ) where
  pub so_far_none : (start : Held S) → SoFar g id [] 0 start start
  so_far_none start = record {
    begins = refl;
    put = λ clean is there none. (refl, is);
    kept = λ clean is there none. record { was_open = λ e. e; committed = λ e. refl };
    survives = survives_here (state g start);
  }

  module _ (es : List Extent) (i start : ℕ) (old mid new : Held S) (so_far : SoFar g id (take i es) start old mid) (lasts : Survives (state g mid) (state g new) (λ _. ⊥)) where
    -- the content is there still
    there_still : HasCleanDisk (state g new) → IsInside (state g old) → has_content (state g old).now id → HasNone (state g old).now id → has_content (state g mid).now id
    there_still clean is there none =
        let so = so_far.put (was_clean lasts clean) is there none in
        subst (λ rows. IsTrue (is_some (find (has_rowid id) rows)))
        (sym (rows_kept (state g old).now (state g mid).now id 0 (take i es) so.0)) there

    -- its places so far begin before the next
    pub before_next : HasCleanDisk (state g new) → IsInside (state g old) → has_content (state g old).now id → HasNone (state g old).now id → AreSome es → AreBefore start (filter (of_content id) (place_rows (state g mid).now))
    before_next clean is there none some =
        let so = so_far.put (was_clean lasts clean) is there none in
        let from_none : 0 + total_of (take i es) ≡ start = omega (arith, so_far.begins) in
        subst (λ n. AreBefore n (filter (of_content id) (place_rows (state g mid).now))) from_none
        (before_put (state g old).now (state g mid).now id 0 (take i es) so.0 (some_taken i es some) (subst (AreBefore 0) (sym none) tt))

    pub start_fits : start ≤ total_of es
    start_fits = omega (arith, so_far.begins, total_within es i)

    pub kept_more : (HasCleanDisk (state g new) → IsInside (state g mid) → KeepsCommit (state g mid) (state g new)) → HasCleanDisk (state g new) → IsInside (state g old) → has_content (state g old).now id → HasNone (state g old).now id → KeepsCommit (state g old) (state g new)
    kept_more kept clean is there none =
        let early = was_clean lasts clean in
        commit_then (state g old) (state g mid) (state g new) (so_far.kept early is there none) (kept clean (so_far.put early is there none).1)

    pub survives_more : Survives (state g old) (state g new) (λ _. ⊥)
    survives_more = survives_both (state g old) (state g mid) (state g new) so_far.survives lasts

    module _ (e : Extent) (low : i < length es) (is_e : e ≡ get_or es i e) where
      pub next_is : take (i + 1) es ≡ take i es ++ e ∷ []
      next_is = take_more es i e low ∙ ap (λ x. take i es ++ x ∷ []) (sym is_e)

      pub next_fits : start + e.size ≤ total_of es
      next_fits = omega (arith, so_far.begins, total_within es (i + 1), ap total_of next_is, total_more (take i es) e)

      pub so_far_more : AreSome es → (HasCleanDisk (state g new) → IsInside (state g mid) → has_content (state g mid).now id → AreBefore start (filter (of_content id) (place_rows (state g mid).now)) → PutsPlace (state g mid).now (state g new).now id start e.at e.size × IsInside (state g new))
          → (HasCleanDisk (state g new) → IsInside (state g mid) → KeepsCommit (state g mid) (state g new)) → SoFar g id (take (i + 1) es) (start + e.size) old new
      so_far_more some put kept =
          subst (λ l. SoFar g id l (start + e.size) old new) (sym next_is)
          (record {
            begins = omega (arith, so_far.begins, total_more (take i es) e);
            put = λ clean is there none.
                let from_none : start ≡ 0 + total_of (take i es) = omega (arith, so_far.begins) in
                let so = so_far.put (was_clean lasts clean) is there none in
                let one = put clean so.1 (there_still clean is there none) (before_next clean is there none some) in (
                  chain_more (state g old).now (state g mid).now (state g new).now id 0 (take i es) e so.0
                      (subst (λ n. PutsPlace (state g mid).now (state g new).now id n e.at e.size) from_none one.0),
                  one.1,
                );
            kept = kept_more kept;
            survives = survives_more;
          })
