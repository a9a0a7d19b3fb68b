-- The schema that a registry makes in an empty database is one that the store knows.
use Rattle.std.proofs.Common.{◌≡◌, inl, inr, ℕ, [], ◌∷◌, Some, refl, sym, subst}
use Rattle.sqlite.specs.Table.{Table}
use Rattle.sqlite_rules.specs.Lists.{Has}
use Rattle.sqlite_schema.specs.declared.schema.Reference.{Reference}
use Rattle.sqlite_schema.specs.Names.{same_name}
use Rattle.sqlite_value.specs.Keys.{joined}
use Rattle.sqlite_tied.specs.Compute.{everything}
use Rattle.sqlite_schema.specs.Rules.{parent_key}
use Rattle.store_schema.specs.Schema.{fresh_schema, to_repos}
use Rattle.store_schema.proofs.Fresh.{version_stands, repos_stand, grants_stand, tags_stand, blob_links_stand, manifest_links_stand, uploads_stand, pieces_stand, grants_alone, tags_alone, blob_links_alone, manifest_links_alone, uploads_alone, pieces_alone}
use Rattle.store_contents.proofs.Fresh.{knows_contents}
use Rattle.store_contents.specs.Layouts.{InTables}
use Rattle.store_statements.specs.Known.{KnowsRegistry, KnowsChildren, NamesRepo, repo_key, IsStill, AreApart, trees_of}
use Rattle.store_opening.proofs.FreshTexts.{repo_texts, grant_texts, tag_texts, blob_texts, manifest_texts, upload_texts, piece_texts, version_texts}

numbers : trees_of fresh_schema ≡ 0 ∷ 1 ∷ 3 ∷ 5 ∷ 7 ∷ 8 ∷ 10 ∷ 12 ∷ 14 ∷ []
unfolding same_name
numbers = refl

are_apart : AreApart (0 ∷ 1 ∷ 3 ∷ 5 ∷ 7 ∷ 8 ∷ 10 ∷ 12 ∷ 14 ∷ [])
are_apart = (((λ e. absurd cc), ((λ e. absurd cc), ((λ e. absurd cc), ((λ e. absurd cc), ((λ e. absurd cc), ((λ e. absurd cc), ((λ e. absurd cc), ((λ e. absurd cc), tt)))))))), (((λ e. absurd cc), ((λ e. absurd cc), ((λ e. absurd cc), ((λ e. absurd cc), ((λ e. absurd cc), ((λ e. absurd cc), ((λ e. absurd cc), tt))))))), (((λ e. absurd cc), ((λ e. absurd cc), ((λ e. absurd cc), ((λ e. absurd cc), ((λ e. absurd cc), ((λ e. absurd cc), tt)))))), (((λ e. absurd cc), ((λ e. absurd cc), ((λ e. absurd cc), ((λ e. absurd cc), ((λ e. absurd cc), tt))))), (((λ e. absurd cc), ((λ e. absurd cc), ((λ e. absurd cc), ((λ e. absurd cc), tt)))), (((λ e. absurd cc), ((λ e. absurd cc), ((λ e. absurd cc), tt))), (((λ e. absurd cc), ((λ e. absurd cc), tt)), (((λ e. absurd cc), tt), (tt, tt)))))))))

apart : AreApart (trees_of fresh_schema)
apart = subst AreApart (sym numbers) are_apart

to_first : parent_key fresh_schema.tables (to_repos 1) ≡ Some (repo_key fresh_schema)
unfolding joined everything same_name
to_first = refl

to_second : parent_key fresh_schema.tables (to_repos 2) ≡ Some (repo_key fresh_schema)
unfolding joined everything same_name
to_second = refl

-- each table's references
children : KnowsChildren fresh_schema
unfolding same_name
children child h ref r = inl (cases h)
  where
    Known : Table → Reference → Type 0
    Known c f = NamesRepo fresh_schema c f.columns × (parent_key fresh_schema.tables f ≡ Some (repo_key fresh_schema))

    At : Table → Type 0
    At c = Has c.references ref → Known c ref

    at : (c : Table) → child ≡ c → At c → Known child ref
    at c e f = subst At (sym e) f r

    by : (c : Table) (place : ℕ) → child ≡ c → (Has c.references ref → Has (to_repos place ∷ []) ref) → NamesRepo fresh_schema c (place ∷ []) → parent_key fresh_schema.tables (to_repos place) ≡ Some (repo_key fresh_schema) → Known child ref
    by c place e only names key = at c e (λ x. one (only x))
      where
        one : Has (to_repos place ∷ []) ref → Known c ref
        one (inl same) = subst (Known c) (sym same) (names, key)
        one (inr x) = absurd x

    cases : Has fresh_schema.tables child → Known child ref
    cases (inl e) = at _ e (λ x. absurd x)
    cases (inr (inl e)) = at _ e (λ x. absurd x)
    cases (inr (inr (inl e))) = by _ 2 e (λ x. x) (inl (refl, refl)) to_second
    cases (inr (inr (inr (inl e)))) = by _ 1 e (λ x. x) (inr (inl refl, refl)) to_first
    cases (inr (inr (inr (inr (inl e))))) = at _ e (λ x. absurd x)
    cases (inr (inr (inr (inr (inr (inl e)))))) = by _ 1 e (λ x. x) (inr (inr (inl refl), refl)) to_first
    cases (inr (inr (inr (inr (inr (inr (inl e))))))) = by _ 1 e (λ x. x) (inr (inr (inr (inl refl)), refl)) to_first
    cases (inr (inr (inr (inr (inr (inr (inr (inl e)))))))) = by _ 1 e (λ x. x) (inr (inr (inr (inr (inl refl))), refl)) to_first
    cases (inr (inr (inr (inr (inr (inr (inr (inr (inl e))))))))) = by _ 1 e (λ x. x) (inr (inr (inr (inr (inr refl))), refl)) to_first
    cases (inr (inr (inr (inr (inr (inr (inr (inr (inr h))))))))) = absurd h

still : IsStill fresh_schema
unfolding joined everything same_name
still tree x y = refl

pub knows_registry : KnowsRegistry InTables fresh_schema
knows_registry = record {
  contents = knows_contents;
  further = tt;
  repos = repos_stand;
  grants = grants_stand;
  tags = tags_stand;
  blobs = blob_links_stand;
  manifests = manifest_links_stand;
  uploads = uploads_stand;
  pieces = pieces_stand;
  version = version_stands;
  grants_alone = grants_alone;
  tags_alone = tags_alone;
  blobs_alone = blob_links_alone;
  manifests_alone = manifest_links_alone;
  uploads_alone = uploads_alone;
  pieces_alone = pieces_alone;
  apart = apart;
  children = children;
  still = still;
  repo_texts = repo_texts;
  grant_texts = grant_texts;
  tag_texts = tag_texts;
  blob_texts = blob_texts;
  manifest_texts = manifest_texts;
  upload_texts = upload_texts;
  piece_texts = piece_texts;
  version_texts = version_texts;
}
