-- The schema of both is one that the store knows, and that a migration knows.
use Rattle.std.proofs.Common.{◌≡◌, inl, inr, ℕ, [], ◌∷◌, ◌++◌, true, Some, refl, sym, subst}
use Rattle.std.specs.Prelude.{◌⊎◌}
use Rattle.sqlite.specs.Table.{Table}
use Rattle.sqlite.specs.Tree.{Trees}
use Rattle.sqlite_rules.specs.Lists.{Has}
use Rattle.sqlite_schema.specs.declared.schema.Reference.{Reference}
use Rattle.sqlite_schema.specs.Names.{same_name}
use Rattle.sqlite_value.specs.Keys.{joined}
use Rattle.sqlite_tied.specs.Compute.{everything}
use Rattle.sqlite_schema.specs.Rules.{parent_key}
use Rattle.store_schema.specs.Schema.{to_repos}
use Rattle.store_schema.specs.OldSchema.{both_schema, old_blobs_table, old_manifests_table, old_sessions_table}
use Rattle.store_schema.specs.Layout.{tree_of}
use Rattle.store_contents.specs.Contents.{KnowsContents}
use Rattle.store_contents.specs.Layouts.{InTables}
use Rattle.store_statements.specs.Known.{KnowsRegistry, KnowsChildren, NamesRepo, repo_key, IsStill, AreApart, trees_of, is_beside, rows_beside}
use Rattle.store_migration.specs.Olds.{KnowsOld, old_trees}
use Rattle.store_migration.proofs.Both as both
use Rattle.store_migration.proofs.BothTexts as texts

numbers : old_trees both_schema ++ trees_of both_schema ≡ 7 ∷ 9 ∷ 11 ∷ 0 ∷ 1 ∷ 3 ∷ 5 ∷ 14 ∷ 15 ∷ 17 ∷ 19 ∷ 21 ∷ []
unfolding same_name
numbers = refl

are_apart : AreApart (7 ∷ 9 ∷ 11 ∷ 0 ∷ 1 ∷ 3 ∷ 5 ∷ 14 ∷ 15 ∷ 17 ∷ 19 ∷ 21 ∷ [])
are_apart = (((λ e. absurd cc), ((λ e. absurd cc), ((λ e. absurd cc), ((λ e. absurd cc), ((λ e. absurd cc), ((λ e. absurd cc), ((λ e. absurd cc), ((λ e. absurd cc), ((λ e. absurd cc), ((λ e. absurd cc), ((λ e. absurd cc), tt))))))))))), (((λ e. absurd cc), ((λ e. absurd cc), ((λ e. absurd cc), ((λ e. absurd cc), ((λ e. absurd cc), ((λ e. absurd cc), ((λ e. absurd cc), ((λ e. absurd cc), ((λ e. absurd cc), ((λ e. absurd cc), tt)))))))))), (((λ e. absurd cc), ((λ e. absurd cc), ((λ e. absurd cc), ((λ e. absurd cc), ((λ e. absurd cc), ((λ e. absurd cc), ((λ e. absurd cc), ((λ e. absurd cc), ((λ e. absurd cc), tt))))))))), (((λ e. absurd cc), ((λ e. absurd cc), ((λ e. absurd cc), ((λ e. absurd cc), ((λ e. absurd cc), ((λ e. absurd cc), ((λ e. absurd cc), ((λ e. absurd cc), tt)))))))), (((λ e. absurd cc), ((λ e. absurd cc), ((λ e. absurd cc), ((λ e. absurd cc), ((λ e. absurd cc), ((λ e. absurd cc), ((λ e. absurd cc), tt))))))), (((λ e. absurd cc), ((λ e. absurd cc), ((λ e. absurd cc), ((λ e. absurd cc), ((λ e. absurd cc), ((λ e. absurd cc), tt)))))), (((λ e. absurd cc), ((λ e. absurd cc), ((λ e. absurd cc), ((λ e. absurd cc), ((λ e. absurd cc), tt))))), (((λ e. absurd cc), ((λ e. absurd cc), ((λ e. absurd cc), ((λ e. absurd cc), tt)))), (((λ e. absurd cc), ((λ e. absurd cc), ((λ e. absurd cc), tt))), (((λ e. absurd cc), ((λ e. absurd cc), tt)), (((λ e. absurd cc), tt), (tt, tt))))))))))))

apart : AreApart (old_trees both_schema ++ trees_of both_schema)
apart = subst AreApart (sym numbers) are_apart

to_first : parent_key both_schema.tables (to_repos 1) ≡ Some (repo_key both_schema)
unfolding joined everything same_name
to_first = refl

to_second : parent_key both_schema.tables (to_repos 2) ≡ Some (repo_key both_schema)
unfolding joined everything same_name
to_second = refl

-- each table's references
children : KnowsChildren both_schema
unfolding same_name
children child h ref r = cases h
  where
    Known : Table → Reference → Type 0
    Known c f = (NamesRepo both_schema c f.columns × (parent_key both_schema.tables f ≡ Some (repo_key both_schema))) ⊎ (is_beside (trees_of both_schema) c ≡ true)

    At : Table → Type 0
    At c = Has c.references ref → Known c ref

    at : (c : Table) → child ≡ c → At c → Known child ref
    at c e f = subst At (sym e) f r

    by : (c : Table) (place : ℕ) → child ≡ c → (Has c.references ref → Has (to_repos place ∷ []) ref) → NamesRepo both_schema c (place ∷ []) → parent_key both_schema.tables (to_repos place) ≡ Some (repo_key both_schema) → Known child ref
    by c place e only names key = at c e (λ x. one (only x))
      where
        one : Has (to_repos place ∷ []) ref → Known c ref
        one (inl same) = subst (Known c) (sym same) (inl (names, key))
        one (inr x) = absurd x

    further : (c : Table) → child ≡ c → is_beside (trees_of both_schema) c ≡ true → Known child ref
    further c e is = at c e (λ x. inr is)

    cases : Has both_schema.tables child → Known child ref
    cases (inl e) = at _ e (λ x. absurd x)
    cases (inr (inl e)) = at _ e (λ x. absurd x)
    cases (inr (inr (inl e))) = by _ 2 e (λ x. x) (inl (refl, refl)) to_second
    cases (inr (inr (inr (inl e)))) = by _ 1 e (λ x. x) (inr (inl refl, refl)) to_first
    cases (inr (inr (inr (inr (inl e))))) = further _ e refl
    cases (inr (inr (inr (inr (inr (inl e)))))) = further _ e refl
    cases (inr (inr (inr (inr (inr (inr (inl e))))))) = further _ e refl
    cases (inr (inr (inr (inr (inr (inr (inr (inl e)))))))) = at _ e (λ x. absurd x)
    cases (inr (inr (inr (inr (inr (inr (inr (inr (inl e))))))))) = by _ 1 e (λ x. x) (inr (inr (inl refl), refl)) to_first
    cases (inr (inr (inr (inr (inr (inr (inr (inr (inr (inl e)))))))))) = by _ 1 e (λ x. x) (inr (inr (inr (inl refl)), refl)) to_first
    cases (inr (inr (inr (inr (inr (inr (inr (inr (inr (inr (inl e))))))))))) = by _ 1 e (λ x. x) (inr (inr (inr (inr (inl refl))), refl)) to_first
    cases (inr (inr (inr (inr (inr (inr (inr (inr (inr (inr (inr (inl e)))))))))))) = by _ 1 e (λ x. x) (inr (inr (inr (inr (inr refl))), refl)) to_first
    cases (inr (inr (inr (inr (inr (inr (inr (inr (inr (inr (inr (inr h)))))))))))) = absurd h

still : IsStill both_schema
unfolding joined everything same_name
still tree x y = refl

knows_contents : KnowsContents both_schema
knows_contents = record { stands = both.contents_stand; alone = both.contents_alone; texts = texts.content_texts }

pub knows_registry : KnowsRegistry InTables both_schema
knows_registry = record {
  contents = knows_contents;
  further = tt;
  repos = both.repos_stand;
  grants = both.grants_stand;
  tags = both.tags_stand;
  blobs = both.blob_links_stand;
  manifests = both.manifest_links_stand;
  uploads = both.uploads_stand;
  pieces = both.pieces_stand;
  version = both.version_stands;
  grants_alone = both.grants_alone;
  tags_alone = both.tags_alone;
  blobs_alone = both.blob_links_alone;
  manifests_alone = both.manifest_links_alone;
  uploads_alone = both.uploads_alone;
  pieces_alone = both.pieces_alone;
  apart = apart.1.1.1;
  children = children;
  still = still;
  repo_texts = texts.repo_texts;
  grant_texts = texts.grant_texts;
  tag_texts = texts.tag_texts;
  blob_texts = texts.blob_texts;
  manifest_texts = texts.manifest_texts;
  upload_texts = texts.upload_texts;
  piece_texts = texts.piece_texts;
  version_texts = texts.version_texts;
}

beside : (trees : Trees) → rows_beside trees (trees_of both_schema) both_schema.tables
    ≡ trees (tree_of both_schema old_blobs_table) ∷ trees (tree_of both_schema old_manifests_table) ∷ trees (tree_of both_schema old_sessions_table) ∷ []
unfolding same_name
beside trees = refl

pub knows_old : KnowsOld both_schema
knows_old = record {
  version = both.version_stands;
  blobs = both.old_blobs_stand;
  manifests = both.old_manifests_stand;
  sessions = both.old_sessions_stand;
  blobs_alone = both.old_blobs_alone;
  manifests_alone = both.old_manifests_alone;
  sessions_alone = both.old_sessions_alone;
  apart = apart;
  beside = beside;
  blob_texts = texts.old_blob_texts;
  manifest_texts = texts.old_manifest_texts;
  session_texts = texts.old_session_texts;
  raise = texts.raise_text;
}
