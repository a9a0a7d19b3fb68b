-- A manifest is moved: the world of both schemas stays, and what is kept true is kept.
use Rattle.std.proofs.Common.{◌≡◌, ℤ, List, [], map, length, Bool, true, false, None, Some, refl, sym, ap, subst, ◌∙◌}
use Rattle.std.specs.Prelude.{bytes_eq, filter, find, option_map, unwrap_or}
use Rattle.std.specs.FinMap.{insert, from_entries}
use Rattle.std.proofs.lemmas.Cmp.{nat_list_cmp_total}
use Rattle.std.proofs.lemmas.Map.Lookups.{exact_bytes}
use Rattle.sqlite.specs.Order.{Row}
use Rattle.oci_types.specs.Text.{Text}
use Rattle.oci_types.specs.Manifest.{manifest_in}
use Rattle.registry_model.specs.Manifests.{kind_in}
use Rattle.registry_model.specs.Referrers.{subject_or_none}
use Rattle.store_schema.specs.Rows.{bytes_at, integer_at}
use Rattle.store_schema.proofs.Lists.{bytes_eq_true}
use Rattle.store_statements.specs.Keys.{of_first, has_key, same_key}
use Rattle.store_statements.specs.Tables.{Tables}
use Rattle.store_statements.specs.World.{content_at, manifest_entry}
use Rattle.store_statements.specs.Registry.{is_repo}
use Rattle.store_statements.specs.Changes.{without, manifest_columns, Comes}
use Rattle.store_statements.proofs.Others.{within_key, others_without, others_came}
use Rattle.store_statements.proofs.Kept.{all_without, rows_without}
use Rattle.store_statements.proofs.Children.{repo_of_found}
use Rattle.store_statements.proofs.Named.{named_came, named_without}
use Rattle.store_statements.proofs.ManifestWorlds.{manifest_added}
use Rattle.store_migration.specs.OldTables.{OldTables, IsOldManifestRow}
use Rattle.store_migration.specs.OldWorld.{old_manifest_entry, old_manifests}
use Rattle.store_migration.specs.Both.{both_manifests, world_of_both, AreBoth}
use Rattle.store_migration.specs.Moves.{ManifestMoved}
use Rattle.store_migration.proofs.Merged.{both_stay, both_moved}
use Rattle.store_migration.proofs.BothWorlds.{grown, worlds_agree, world_grown, both_grown, beside_free}
use Rattle.store_migration.proofs.Unmoved.{row_of, unmoved_left}
use Rattle.store_migration.proofs.BlobMoves.{key_free, key_turned, in_rows}

-- the link that comes
abbrev pub link_columns : Text → Text → Text → ℤ → Row
link_columns name digest bytes id = manifest_columns name digest (length bytes) (kind_in bytes) (subject_or_none (manifest_in bytes)) id

-- ---- one manifest, whose content is there

module _ (old : OldTables) (t : Tables) (name digest bytes : Text) (id : ℤ) (rows : List Row) (both : AreBoth old t) (held : t.contents id ≡ Some bytes) (row : Row) (found : find (has_key name digest) old.manifests ≡ Some row) (is : bytes_at row 6 ≡ bytes)
    (c : Comes t.manifests rows (link_columns name digest bytes id)) where
  abbrev left : OldTables
  left = record old { manifests = without (has_key name digest) old.manifests }

  abbrev after : Tables
  after = record t { manifests = rows }

  fresh : find (has_key name digest) t.manifests ≡ None
  fresh = key_free name digest old.manifests t.manifests row both.manifests found

  repo : is_repo t.repos name ≡ true
  repo = repo_of_found t.repos old.manifests name (has_key name digest) row (within_key name digest) both.olds.manifests_repo found

  abbrev new_entries : List Row → Text → List (Text × Text)
  new_entries rs other = map (manifest_entry t.contents) (filter (of_first other) rs)

  -- of the repository itself
  mine : both_manifests left after name ≡ both_manifests old t name
  mine = both_moved nat_list_cmp_total exact_bytes digest bytes (old_manifests old name) (new_entries t.manifests name) (old_manifests left name) (new_entries rows name)
      (in_rows (λ r. bytes_at r 6) old.manifests name digest ∙ ap (option_map (λ r. bytes_at r 6)) found ∙ ap Some is)
      (named_without (λ r. bytes_at r 6) old.manifests name digest)
      (named_came (λ r. content_at t.contents (integer_at r 6)) t.manifests rows name digest (link_columns name digest bytes id) c (λ i. refl) (λ i. refl) fresh
      ∙ ap (λ o. insert (from_entries (new_entries t.manifests name)) digest (unwrap_or o [])) held)

  -- of another
  others : (other : Text) → bytes_eq other name ≡ false → both_manifests left after other ≡ both_manifests old t other
  others other e = both_stay nat_list_cmp_total exact_bytes (old_manifests old other) (new_entries t.manifests other) (old_manifests left other) (new_entries rows other)
      (ap (λ xs. from_entries (map old_manifest_entry xs)) (others_without name other (has_key name digest) old.manifests (within_key name digest) e))
      (ap (λ xs. from_entries (map (manifest_entry t.contents) xs)) (others_came name other t.manifests rows (link_columns name digest bytes id) c (λ i. refl) e))

  each : (other : Text) (b : Bool) → bytes_eq other name ≡ b → both_manifests left after other ≡ both_manifests old t other
  each other true e = subst (λ n. both_manifests left after n ≡ both_manifests old t n) (sym (bytes_eq_true other name e)) mine
  each other false e = others other e

  pub manifest_world : world_of_both left after ≡ world_of_both old t
  manifest_world = worlds_agree old left t t.contents t.blobs rows t.uploads t.pieces (λ other. refl) (λ other. each other (bytes_eq other name) refl) (λ other. refl)

  pub manifest_both : AreBoth left after
  manifest_both = record {
    version = both.version;
    olds = record {
      blobs = both.olds.blobs;
      manifests = rows_without IsOldManifestRow same_key (has_key name digest) old.manifests both.olds.manifests;
      sessions = both.olds.sessions;
      blobs_repo = both.olds.blobs_repo;
      manifests_repo = all_without _ (has_key name digest) old.manifests both.olds.manifests_repo;
      sessions_repo = both.olds.sessions_repo;
      given = both.olds.given;
    };
    news = λ version beside two none. (manifest_added (record t { version = version; beside = beside }) name digest bytes id rows (both.news version beside two none) repo held fresh c).1;
    blobs = both.blobs;
    manifests = unmoved_left same_key (has_key name digest) old.manifests t.manifests rows (link_columns name digest bytes id) c (λ r. key_turned name digest r) both.manifests;
    sessions = both.sessions;
  }

-- ---- one manifest

pub manifest_moves : (olds news : OldTables) (t u : Tables) → AreBoth olds t → ManifestMoved olds news t u → (world_of_both news u ≡ world_of_both olds t) × AreBoth news u
manifest_moves olds news t u both m = subst (λ x. (world_of_both news x ≡ world_of_both olds t) × AreBoth news x) (sym m.others) (subst (λ o. (world_of_both o target ≡ world_of_both olds t) × AreBoth o target) (sym m.gone) (
  manifest_world olds mid m.name m.digest m.bytes m.id u.manifests ready m.held row.0 row.1 row.2 m.comes ∙ world_grown olds t u.contents both m.grow,
  beside_free _ (record mid { manifests = u.manifests }) u.beside (manifest_both olds mid m.name m.digest m.bytes m.id u.manifests ready m.held row.0 row.1 row.2 m.comes),
))
  where
    mid : Tables
    mid = grown t u.contents

    target : Tables
    target = record t { contents = u.contents; manifests = u.manifests; beside = u.beside }

    ready : AreBoth olds mid
    ready = both_grown olds t u.contents both m.grow

    row : (r : Row) × (find (has_key m.name m.digest) olds.manifests ≡ Some r) × (bytes_at r 6 ≡ m.bytes)
    row = row_of (λ r. bytes_at r 6) (find (has_key m.name m.digest) olds.manifests) m.bytes m.there
