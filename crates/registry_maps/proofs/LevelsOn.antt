-- The levels on one repository, token by token, as the list of them.
use Rattle.std.proofs.Common.{◌≡◌, ◌∙◌, List, [], ◌∷◌, Bool, true, false, cond, None, Some, refl, sym, ap}
use Rattle.std.specs.Prelude.{Option, T}
use Rattle.std.specs.Option.{option_and_then}
use Rattle.std.specs.declared.cmp.Ordering.TheVariants.{Less, Equal}
use Rattle.std.specs.Ordering.{is_eq, eq_by_cmp}
use Rattle.std.specs.List.{AllByRecursion}
use Rattle.std.specs.List.Sorted.{IsStrictlySortedBy}
use Rattle.std.specs.Map.{lookup, keys_of}
use Rattle.std.specs.BTreeMap.{IsOrdered, is_at}
use Rattle.std.specs.BTreeMap as btree
use Rattle.std.specs.Cmp.{Equal-is}
use Rattle.std.specs.FinMap.Entries.{below_all}
use Rattle.std.specs.FinMap.{get, find, is_sorted, get-empty}
use Rattle.oci_types.specs.Text.{Text}
use Rattle.registry_model.specs.declared.level.Level.{Level}
use Rattle.registry_model.specs.World.{text_cmp, level_at}
use Rattle.registry_model.specs.Lookups.{AreLevelsOn}
use Rattle.registry_maps.specs.Maps.{world_of}
use Rattle.registry_model.proofs.TextOrder.{text_total, exact_texts}
use Rattle.registry_maps.proofs.SeenMaps.{get_seen, map-same, both, less_tested}
use Rattle.registry_maps.proofs.SeenWorlds.{Repos, Levels, Granted, granted, ungranted}

-- a token's level before the others, where it has one
abbrev pub with_level : Text → Option Level → List (Text × Level) → List (Text × Level)
with_level token None rest = rest
with_level token (Some level) rest = (token, level) ∷ rest

abbrev pub levels_of : Text → List (Text × Levels) → List (Text × Level)
levels_of name [] = []
levels_of name (e ∷ es) = with_level e.0 (btree.get text_cmp e.1 name) (levels_of name es)

-- of what is left the first token has a level, or none
module _ (name token : Text) (levels : Levels) (left rest : List (Text × Levels)) (steps : left ≡ (token, levels) ∷ rest) where
  pub level_first : (level : Level) → Some level ≡ btree.get text_cmp levels name → levels_of name left ≡ (token, level) ∷ levels_of name rest
  level_first level there = ap (levels_of name) steps ∙ ap (λ o. with_level token o (levels_of name rest)) (sym there)

  pub no_level_first : None ≡ btree.get text_cmp levels name → levels_of name left ≡ levels_of name rest
  no_level_first none = ap (levels_of name) steps ∙ ap (λ o. with_level token o (levels_of name rest)) (sym none)

module _ (name : Text) where
  below : (x : Text) (es : List (Text × Levels)) → AllByRecursion (λ y. text_cmp x y ≡ Less) (keys_of es) → T (below_all text_cmp x (levels_of name es))
  below x [] h = tt
  below x (e ∷ es) h = step (btree.get text_cmp e.1 name) (below x es h.1)
    where
      step : (o : Option Level) → T (below_all text_cmp x (levels_of name es)) → T (below_all text_cmp x (with_level e.0 o (levels_of name es)))
      step None r = r
      step (Some l) r = both _ _ (less_tested _ h.0) r

  rises : (es : List (Text × Levels)) → IsStrictlySortedBy text_cmp (keys_of es) → T (is_sorted text_cmp (levels_of name es))
  unfolding IsStrictlySortedBy
  rises [] h = tt
  rises (e ∷ es) h = step (btree.get text_cmp e.1 name) (rises es h.1)
    where
      step : (o : Option Level) → T (is_sorted text_cmp (levels_of name es)) → T (is_sorted text_cmp (with_level e.0 o (levels_of name es)))
      step None r = r
      step (Some l) r = both _ _ (below e.0 es h.0) r

  -- a key below all others is not among them
  apart : (q x : Text) (es : List (Text × Levels)) → text_cmp q x ≡ Equal → AllByRecursion (λ y. text_cmp x y ≡ Less) (keys_of es) → find text_cmp q (levels_of name es) ≡ None
  apart q x [] t h = refl
  apart q x (e ∷ es) t h = step (btree.get text_cmp e.1 name) (apart q x es t h.1)
    where
      step : (o : Option Level) → find text_cmp q (levels_of name es) ≡ None → find text_cmp q (with_level e.0 o (levels_of name es)) ≡ None
      step None r = r
      step (Some l) r = ap (λ s. cond (is_eq s) (Some l) (find text_cmp q (levels_of name es))) (text_total.congr q x e.0 t ∙ h.0) ∙ r

  found : (q : Text) (es : List (Text × Levels)) → IsStrictlySortedBy text_cmp (keys_of es)
      → find text_cmp q (levels_of name es) ≡ option_and_then (λ (l : Levels). btree.get text_cmp l name) (lookup (is_at (text_cmp q)) es)
  unfolding IsStrictlySortedBy
  found q [] h = refl
  found q (e ∷ es) h = step (btree.get text_cmp e.1 name) refl (eq_by_cmp text_cmp q e.0) refl (found q es h.1)
    where
      left : List (Text × Level)
      left = levels_of name es

      step : (o : Option Level) → btree.get text_cmp e.1 name ≡ o → (t : Bool) → eq_by_cmp text_cmp q e.0 ≡ t
          → find text_cmp q left ≡ option_and_then (λ (l : Levels). btree.get text_cmp l name) (lookup (is_at (text_cmp q)) es)
          → find text_cmp q (with_level e.0 o left) ≡ option_and_then (λ (l : Levels). btree.get text_cmp l name) (cond t (Some e.1) (lookup (is_at (text_cmp q)) es))
      step None oe true te r = apart q e.0 es ((Equal-is _).0 te) h.0 ∙ sym oe
      step None oe false te r = r
      step (Some l) oe true te r = ap (λ t. cond t (Some l) (find text_cmp q left)) te ∙ sym oe
      step (Some l) oe false te r = ap (λ t. cond t (Some l) (find text_cmp q left)) te ∙ r

module _ (m : Repos) (g : Granted) (name : Text) where
  level_seen : (token : Text) (o : Option Levels) → o ≡ btree.get text_cmp g token → option_and_then (λ (l : Levels). btree.get text_cmp l name) o ≡ level_at (world_of m g) token name
  level_seen token None e = sym (ap (λ x. get x name) (ungranted g token e) ∙ get-empty text_cmp name)
  level_seen token (Some l) e = sym (ap (λ x. get x name) (granted g token l e) ∙ get_seen text_total exact_texts (λ (x : Level). x) l name ∙ map-same (btree.get text_cmp l name))

  pub are_levels : IsOrdered text_cmp g → AreLevelsOn (world_of m g) name (levels_of name g.entries)
  are_levels h = record {
    rise = rises name g.entries h;
    each = λ token. found name token g.entries h ∙ level_seen token (btree.get text_cmp g token) refl;
  }
