-- The world of both schemas is told by what each repository has, name by name; and it stays where contents come.
use Rattle.std.proofs.Common.{◌≡◌, ℤ, List, [], ◌∷◌, map, Option, refl, sym, ◌∙◌}
use Rattle.std.specs.Prelude.{pos}
use Rattle.std.specs.FinMap.{from_entries}
use Rattle.std.proofs.lemmas.Cmp.{nat_cmp_total, nat_list_cmp_total}
use Rattle.std.proofs.lemmas.Map.Lookups.{exact_bytes, exact_unsigned}
use Rattle.sqlite.specs.Order.{Row}
use Rattle.sqlite.specs.declared.types.Value.TheVariants.{Null, Int}
use Rattle.sqlite_trees.proofs.ListLemmas.{all_weaker}
use Rattle.oci_types.specs.Text.{Text}
use Rattle.store_schema.specs.Rows.{bytes_at, natural_at, integer_at}
use Rattle.store_statements.specs.Tables.{Tables, Beside, nothing_beside}
use Rattle.store_statements.specs.World.{tags_of, grants_of}
use Rattle.store_statements.specs.Registry.{BlobAgrees, ManifestAgrees, PieceAgrees, Agree, IsRegistry}
use Rattle.store_statements.specs.Changes.{Grow}
use Rattle.store_statements.proofs.ContentWorlds.{Same, blobs_kept, manifests_kept, sessions_kept, contents_grown}
use Rattle.store_migration.specs.OldTables.{OldTables}
use Rattle.store_migration.specs.OldWorld.{old_blobs, old_manifests, old_sessions}
use Rattle.store_migration.specs.Both.{both_blobs, both_manifests, both_sessions, both_repo_in, world_of_both, IsRegistryOnceTwo, AreBoth}
use Rattle.store_migration.proofs.Merged.{both_stay}

-- ---- name by name

-- the tables with these rows in the place of those that only schema 2 has
abbrev pub with_news : Tables → (ℤ → Option Text) → List Row → List Row → List Row → List Row → Tables
with_news t contents blobs manifests uploads pieces = record t { contents = contents; blobs = blobs; manifests = manifests; uploads = uploads; pieces = pieces }

module _ (olds news : OldTables) (t : Tables) (contents : ℤ → Option Text) (blobs manifests uploads pieces : List Row) where
  abbrev after : Tables
  after = with_news t contents blobs manifests uploads pieces

  pub worlds_agree : ((name : Text) → both_blobs news after name ≡ both_blobs olds t name) → ((name : Text) → both_manifests news after name ≡ both_manifests olds t name)
      → ((name : Text) → both_sessions news after name ≡ both_sessions olds t name) → world_of_both news after ≡ world_of_both olds t
  worlds_agree b m s = λ i. record { repos = from_entries (map (λ r. (bytes_at r 1, same r i)) t.repos); grants = grants_of t.grants }
    where
      same : (r : Row) → both_repo_in news after r ≡ both_repo_in olds t r
      same r = λ i. record {
        blobs = b (bytes_at r 1) i;
        manifests = m (bytes_at r 1) i;
        tags = tags_of t.tags (bytes_at r 1);
        sessions = s (bytes_at r 1) i;
        last = natural_at r 3;
        quota = natural_at r 2;
      }

-- ---- rows beside the tables of schema 2

-- they say nothing
pub beside_free : (old : OldTables) (t : Tables) (rows : Beside) → AreBoth old t → AreBoth old (record t { beside = rows })
beside_free old t rows both = record { version = both.version; olds = both.olds; news = both.news; blobs = both.blobs; manifests = both.manifests; sessions = both.sessions }

-- ---- contents come

-- the registry that the tables are once their version is written
pub once_two : (t : Tables) → IsRegistryOnceTwo t → IsRegistry (record t { version = (Null ∷ Int (pos 2) ∷ []) ∷ []; beside = nothing_beside })
once_two t are = are ((Null ∷ Int (pos 2) ∷ []) ∷ []) nothing_beside refl tt

abbrev pub grown : Tables → (ℤ → Option Text) → Tables
grown t contents = record t { contents = contents }

module _ (old : OldTables) (t : Tables) (contents : ℤ → Option Text) (both : AreBoth old t) (grow : Grow t.contents contents) where
  agree : Agree (record t { version = (Null ∷ Int (pos 2) ∷ []) ∷ []; beside = nothing_beside })
  agree = (once_two t both.news).agree

  blobs_same : Same t.contents contents 4 t.blobs
  blobs_same = all_weaker (BlobAgrees t.contents) (λ r. contents (integer_at r 4) ≡ t.contents (integer_at r 4)) (λ r h. grow (integer_at r 4) h.bytes h.there ∙ sym h.there) t.blobs agree.blobs

  manifests_same : Same t.contents contents 6 t.manifests
  manifests_same = all_weaker (ManifestAgrees t.contents) (λ r. contents (integer_at r 6) ≡ t.contents (integer_at r 6)) (λ r h. grow (integer_at r 6) h.bytes h.there ∙ sym h.there) t.manifests agree.manifests

  pieces_same : Same t.contents contents 5 t.pieces
  pieces_same = all_weaker (PieceAgrees t.contents) (λ r. contents (integer_at r 5) ≡ t.contents (integer_at r 5)) (λ r h. grow (integer_at r 5) h.bytes h.there ∙ sym h.there) t.pieces agree.pieces

  pub world_grown : world_of_both old (grown t contents) ≡ world_of_both old t
  world_grown = worlds_agree old old t contents t.blobs t.manifests t.uploads t.pieces
      (λ name. both_stay nat_list_cmp_total exact_bytes (old_blobs old name) _ (old_blobs old name) _ refl (blobs_kept t.contents contents t.blobs name blobs_same))
      (λ name. both_stay nat_list_cmp_total exact_bytes (old_manifests old name) _ (old_manifests old name) _ refl (manifests_kept t.contents contents t.manifests name manifests_same))
      (λ name. both_stay nat_cmp_total exact_unsigned (old_sessions old name) _ (old_sessions old name) _ refl (sessions_kept t.contents contents t.pieces t.uploads name pieces_same))

  pub both_grown : AreBoth old (grown t contents)
  both_grown = record {
    version = both.version;
    olds = both.olds;
    news = λ version beside two none. (contents_grown (record t { version = version; beside = beside }) contents t.places (both.news version beside two none) grow).1;
    blobs = both.blobs;
    manifests = both.manifests;
    sessions = both.sessions;
  }
