-- The schema that a registry over a pack makes in an empty database is one that the store knows.
use Rattle.std.proofs.Common.{◌≡◌, ◌≢◌, ◌∙◌, inl, inr, ℕ, Bool, true, false, List, [], ◌∷◌, Some, length, refl, sym, subst}
use Rattle.std.specs.Prelude.{◌==◌}
use Rattle.std.specs.List.{AllByRecursion, filter_map, flat_map}
use Rattle.sqlite.specs.Order.{Row}
use Rattle.sqlite.specs.Table.{Table}
use Rattle.sqlite_rules.specs.Action.{deed_for, pairs, work_by}
use Rattle.sqlite_rules.specs.Lists.{Has}
use Rattle.sqlite_schema.specs.declared.schema.Keys.TheVariants.{Enforced}
use Rattle.sqlite_schema.specs.declared.schema.Reference.{Reference}
use Rattle.sqlite_schema.specs.Names.{same_name}
use Rattle.sqlite_value.specs.Keys.{joined}
use Rattle.sqlite_tied.specs.Compute.{everything}
use Rattle.sqlite_schema.specs.Rules.{parent_key}
use Rattle.store_schema.specs.Schema.{to_repos}
use Rattle.store_schema.specs.PackSchema.{pack_schema}
use Rattle.store_schema.specs.PlaceTables.{contents_table, pack_table, places_table}
use Rattle.store_schema.specs.Layout.{tree_of}
use Rattle.store_schema.proofs.PackFresh.{contents_stand, places_stand, pack_stands, contents_tree, places_tree, pack_tree, contents_alone, places_alone, version_stands, repos_stand, grants_stand, tags_stand, blob_links_stand, manifest_links_stand, uploads_stand, pieces_stand, grants_alone, tags_alone, blob_links_alone, manifest_links_alone, uploads_alone, pieces_alone}
use Rattle.store_contents.specs.PlaceTexts.{IsAlone, KnowsPlaces}
use Rattle.store_contents.specs.Layouts.{InPack, IsNone, further_trees}
use Rattle.store_statements.specs.Known.{KnowsRegistry, KnowsChildren, NamesRepo, repo_key, IsStill, AreApart, IsFurther, is_beside, trees_of}
use Rattle.pack_opening.proofs.PackTexts.{content_texts, place_texts, pack_texts, repo_texts, grant_texts, tag_texts, blob_texts, manifest_texts, upload_texts, piece_texts, version_texts}

numbers : trees_of pack_schema ≡ 0 ∷ 1 ∷ 3 ∷ 5 ∷ 8 ∷ 11 ∷ 13 ∷ 15 ∷ 17 ∷ []
unfolding same_name
numbers = refl

are_apart : AreApart (0 ∷ 1 ∷ 3 ∷ 5 ∷ 8 ∷ 11 ∷ 13 ∷ 15 ∷ 17 ∷ [])
are_apart = (
  (
    (λ e. absurd cc),
    ((λ e. absurd cc), ((λ e. absurd cc), ((λ e. absurd cc), ((λ e. absurd cc), ((λ e. absurd cc), ((λ e. absurd cc), ((λ e. absurd cc), tt))))))),
  ),
  (
    ((λ e. absurd cc), ((λ e. absurd cc), ((λ e. absurd cc), ((λ e. absurd cc), ((λ e. absurd cc), ((λ e. absurd cc), ((λ e. absurd cc), tt))))))),
    (
      ((λ e. absurd cc), ((λ e. absurd cc), ((λ e. absurd cc), ((λ e. absurd cc), ((λ e. absurd cc), ((λ e. absurd cc), tt)))))),
      (
        ((λ e. absurd cc), ((λ e. absurd cc), ((λ e. absurd cc), ((λ e. absurd cc), ((λ e. absurd cc), tt))))),
        (
          ((λ e. absurd cc), ((λ e. absurd cc), ((λ e. absurd cc), ((λ e. absurd cc), tt)))),
          (((λ e. absurd cc), ((λ e. absurd cc), ((λ e. absurd cc), tt))), (((λ e. absurd cc), ((λ e. absurd cc), tt)), (((λ e. absurd cc), tt), (tt, tt)))),
        ),
      ),
    ),
  ),
)

apart : AreApart (trees_of pack_schema)
apart = subst AreApart (sym numbers) are_apart

to_first : parent_key pack_schema.tables (to_repos 1) ≡ Some (repo_key pack_schema)
unfolding joined everything same_name
to_first = refl

to_second : parent_key pack_schema.tables (to_repos 2) ≡ Some (repo_key pack_schema)
unfolding joined everything same_name
to_second = refl

-- each table's references
children : KnowsChildren pack_schema
unfolding same_name
children child h ref r = inl (cases h)
  where
    Known : Table → Reference → Type 0
    Known c f = NamesRepo pack_schema c f.columns × (parent_key pack_schema.tables f ≡ Some (repo_key pack_schema))

    At : Table → Type 0
    At c = Has c.references ref → Known c ref

    at : (c : Table) → child ≡ c → At c → Known child ref
    at c e f = subst At (sym e) f r

    by : (c : Table) (place : ℕ) → child ≡ c → (Has c.references ref → Has (to_repos place ∷ []) ref) → NamesRepo pack_schema c (place ∷ [])
        → parent_key pack_schema.tables (to_repos place) ≡ Some (repo_key pack_schema) → Known child ref
    by c place e only names key = at c e (λ x. one (only x))
      where
        one : Has (to_repos place ∷ []) ref → Known c ref
        one (inl same) = subst (Known c) (sym same) (names, key)
        one (inr x) = absurd x

    cases : Has pack_schema.tables child → Known child ref
    cases (inl e) = at _ e (λ x. absurd x)
    cases (inr (inl e)) = at _ e (λ x. absurd x)
    cases (inr (inr (inl e))) = by _ 2 e (λ x. x) (inl (refl, refl)) to_second
    cases (inr (inr (inr (inl e)))) = by _ 1 e (λ x. x) (inr (inl refl, refl)) to_first
    cases (inr (inr (inr (inr (inl e))))) = at _ e (λ x. absurd x)
    cases (inr (inr (inr (inr (inr (inl e)))))) = at _ e (λ x. absurd x)
    cases (inr (inr (inr (inr (inr (inr (inl e))))))) = at _ e (λ x. absurd x)
    cases (inr (inr (inr (inr (inr (inr (inr (inl e)))))))) = by _ 1 e (λ x. x) (inr (inr (inl refl), refl)) to_first
    cases (inr (inr (inr (inr (inr (inr (inr (inr (inl e))))))))) = by _ 1 e (λ x. x) (inr (inr (inr (inl refl)), refl)) to_first
    cases (inr (inr (inr (inr (inr (inr (inr (inr (inr (inl e)))))))))) = by _ 1 e (λ x. x) (inr (inr (inr (inr (inl refl))), refl)) to_first
    cases (inr (inr (inr (inr (inr (inr (inr (inr (inr (inr (inl e))))))))))) = by _ 1 e (λ x. x) (inr (inr (inr (inr (inr refl))), refl)) to_first
    cases (inr (inr (inr (inr (inr (inr (inr (inr (inr (inr (inr (h)))))))))))) = absurd h

still : IsStill pack_schema
unfolding joined everything same_name
still tree x y = refl

-- ---- the tables of contents

places_apart : tree_of pack_schema places_table ≢ tree_of pack_schema contents_table
places_apart e = absurd (let x = sym places_tree ∙ e ∙ contents_tree in cc)

pack_apart : (tree_of pack_schema pack_table ≢ tree_of pack_schema contents_table) × (tree_of pack_schema pack_table ≢ tree_of pack_schema places_table)
pack_apart = ((λ e. absurd (let x = sym pack_tree ∙ e ∙ contents_tree in cc)), (λ e. absurd (let x = sym pack_tree ∙ e ∙ places_tree in cc)))

-- whether rows go or change: none goes with them
no_work : (moves : List (Row × Row)) (deletes : Bool)
    → flat_map (λ (child : Table). filter_map
    (λ (ref : Reference). work_by 0 (tree_of pack_schema pack_table) moves child ref (deed_for Enforced deletes ref)
    (parent_key pack_schema.tables ref)) child.references) pack_schema.tables ≡ []
unfolding joined everything same_name
no_work moves true = refl
no_work moves false = refl

pack_alone : IsAlone pack_schema pack_table
pack_alone olds news = no_work (pairs olds news) (length news == 0)

pub knows_places : KnowsPlaces pack_schema
knows_places = record {
  contents = contents_stand;
  places = places_stand;
  pack = pack_stands;
  apart = places_apart;
  pack_apart = pack_apart;
  contents_alone = contents_alone;
  places_alone = places_alone;
  pack_alone = pack_alone;
  content_texts = content_texts;
  place_texts = place_texts;
  pack_texts = pack_texts;
}

-- ---- none of the nine is a further table of the layout, and no other is beside them

abbrev nine : List ℕ
nine = 0 ∷ 1 ∷ 3 ∷ 5 ∷ 8 ∷ 11 ∷ 13 ∷ 15 ∷ 17 ∷ []

places_apart_from : IsNone 9 nine
places_apart_from = (
  (λ e. absurd cc),
  (
    (λ e. absurd cc),
    ((λ e. absurd cc), ((λ e. absurd cc), ((λ e. absurd cc), ((λ e. absurd cc), ((λ e. absurd cc), ((λ e. absurd cc), ((λ e. absurd cc), tt))))))),
  ),
)

pack_apart_from : IsNone 7 nine
pack_apart_from = (
  (λ e. absurd cc),
  (
    (λ e. absurd cc),
    ((λ e. absurd cc), ((λ e. absurd cc), ((λ e. absurd cc), ((λ e. absurd cc), ((λ e. absurd cc), ((λ e. absurd cc), ((λ e. absurd cc), tt))))))),
  ),
)

none_beside : (tree : ℕ) → AllByRecursion (λ (table : Table). is_beside (trees_of pack_schema) table ≡ true → table.tree ≢ tree) pack_schema.tables
unfolding same_name
none_beside tree = (
  (λ is. absurd (let x = is in cc)),
  (
    (λ is. absurd (let x = is in cc)),
    (
      (λ is. absurd (let x = is in cc)),
      (
        (λ is. absurd (let x = is in cc)),
        (
          (λ is. absurd (let x = is in cc)),
          (
            (λ is. absurd (let x = is in cc)),
            (
              (λ is. absurd (let x = is in cc)),
              (
                (λ is. absurd (let x = is in cc)),
                ((λ is. absurd (let x = is in cc)), ((λ is. absurd (let x = is in cc)), ((λ is. absurd (let x = is in cc)), tt))),
              ),
            ),
          ),
        ),
      ),
    ),
  ),
)

is_further : (tree : ℕ) → IsNone tree nine → IsFurther pack_schema tree
is_further tree none = (subst (IsNone tree) (sym numbers) none, none_beside tree)

further : (file : List ℕ) → AllByRecursion (IsFurther pack_schema) (further_trees (InPack file) pack_schema)
further file = (
  subst (IsFurther pack_schema) (sym places_tree) (is_further 9 places_apart_from),
  (
    subst (IsFurther pack_schema) (sym pack_tree) (is_further 7 pack_apart_from),
    tt,
  ),
)

pub knows_registry : (file : List ℕ) → KnowsRegistry (InPack file) pack_schema
knows_registry file = record {
  contents = knows_places;
  further = further file;
  repos = repos_stand;
  grants = grants_stand;
  tags = tags_stand;
  blobs = blob_links_stand;
  manifests = manifest_links_stand;
  uploads = uploads_stand;
  pieces = pieces_stand;
  version = version_stands;
  grants_alone = grants_alone;
  tags_alone = tags_alone;
  blobs_alone = blob_links_alone;
  manifests_alone = manifest_links_alone;
  uploads_alone = uploads_alone;
  pieces_alone = pieces_alone;
  apart = apart;
  children = children;
  still = still;
  repo_texts = repo_texts;
  grant_texts = grant_texts;
  tag_texts = tag_texts;
  blob_texts = blob_texts;
  manifest_texts = manifest_texts;
  upload_texts = upload_texts;
  piece_texts = piece_texts;
  version_texts = version_texts;
}
