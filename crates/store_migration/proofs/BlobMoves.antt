-- A blob is moved: the world of both schemas stays, and what is kept true is kept.
use Rattle.std.proofs.Common.{◌≡◌, ℤ, List, [], map, length, Bool, true, false, None, Some, refl, sym, ap, subst, ◌∙◌}
use Rattle.std.specs.Prelude.{◌&&◌, bytes_eq, filter, find, option_map, unwrap_or}
use Rattle.std.specs.FinMap.{get, insert, from_entries}
use Rattle.std.proofs.lemmas.Cmp.{nat_list_cmp_total}
use Rattle.std.proofs.lemmas.Map.Lookups.{exact_bytes}
use Rattle.sqlite.specs.Order.{Row}
use Rattle.oci_types.specs.Text.{Text}
use Rattle.registry_model.specs.World.{text_cmp}
use Rattle.store_schema.specs.Rows.{bytes_at, integer_at}
use Rattle.store_schema.proofs.Lists.{bytes_eq_true, bytes_eq-sym}
use Rattle.store_statements.specs.Keys.{of_first, of_second, has_key, same_key}
use Rattle.store_statements.specs.Tables.{Tables}
use Rattle.store_statements.specs.World.{content_at, blob_entry}
use Rattle.store_statements.specs.Registry.{is_repo}
use Rattle.store_statements.specs.Changes.{without, blob_columns, Comes}
use Rattle.store_statements.proofs.Base.{second_tie}
use Rattle.store_statements.proofs.Found.{get_found, find_filter, found_all, found_passes, is_key}
use Rattle.store_statements.proofs.Others.{within_key, others_without, others_came}
use Rattle.store_statements.proofs.Kept.{all_without, rows_without}
use Rattle.store_statements.proofs.Children.{repo_of_found}
use Rattle.store_statements.proofs.Named.{named_came, named_without}
use Rattle.store_statements.proofs.BlobWorlds.{blob_added}
use Rattle.store_migration.specs.OldTables.{OldTables, IsOldBlobRow}
use Rattle.store_migration.specs.OldWorld.{old_blob_entry, old_blobs}
use Rattle.store_migration.specs.Both.{both_blobs, world_of_both, AreUnmoved, AreBoth}
use Rattle.store_migration.specs.Moves.{BlobMoved}
use Rattle.store_migration.proofs.Merged.{both_stay, both_moved}
use Rattle.store_migration.proofs.BothWorlds.{grown, worlds_agree, world_grown, both_grown, beside_free}
use Rattle.store_migration.proofs.Unmoved.{row_of, unmoved_left}

-- ---- keys

-- of a row that has one key no row of the other schema is found by it
pub key_free : (name key : Text) (olds news : List Row) (r : Row) → AreUnmoved same_key olds news → find (has_key name key) olds ≡ Some r → find (has_key name key) news ≡ None
key_free name key olds news r unmoved e =
    let is = is_key name key r (found_passes (has_key name key) olds r e) in
    (λ i. find (has_key (sym is.0 i) (sym is.1 i)) news) ∙ found_all (λ x. find (same_key x) news ≡ None) (has_key name key) olds r unmoved e

pub key_turned : (name key : Text) (r : Row) → (bytes_eq name (bytes_at r 1) && bytes_eq key (bytes_at r 2)) ≡ has_key name key r
key_turned name key r = λ i. bytes_eq-sym name (bytes_at r 1) i && bytes_eq-sym key (bytes_at r 2) i

-- what a map of the rows of a name has under a key
pub in_rows : {X : Type 0} (value : Row → X) (rows : List Row) (name key : Text) → get (from_entries {R = text_cmp} (map (λ r. (bytes_at r 2, value r)) (filter (of_first name) rows))) key ≡ option_map value (find (has_key name key) rows)
in_rows value rows name key = get_found nat_list_cmp_total exact_bytes (λ r. bytes_at r 2) value of_second second_tie key (filter (of_first name) rows)
    ∙ ap (option_map value) (find_filter (of_first name) (of_second key) rows)

-- ---- one blob, whose content is there

module _ (old : OldTables) (t : Tables) (name digest bytes : Text) (id : ℤ) (rows : List Row) (both : AreBoth old t) (held : t.contents id ≡ Some bytes) (row : Row) (found : find (has_key name digest) old.blobs ≡ Some row) (is : bytes_at row 4 ≡ bytes)
    (c : Comes t.blobs rows (blob_columns name digest (length bytes) id)) where
  p : Row → Bool
  p = has_key name digest

  abbrev left : OldTables
  left = record old { blobs = without (has_key name digest) old.blobs }

  abbrev after : Tables
  after = record t { blobs = rows }

  fresh : find (has_key name digest) t.blobs ≡ None
  fresh = key_free name digest old.blobs t.blobs row both.blobs found

  repo : is_repo t.repos name ≡ true
  repo = repo_of_found t.repos old.blobs name (has_key name digest) row (within_key name digest) both.olds.blobs_repo found

  abbrev new_entries : List Row → Text → List (Text × Text)
  new_entries rs other = map (blob_entry t.contents) (filter (of_first other) rs)

  -- of the repository itself
  mine : both_blobs left after name ≡ both_blobs old t name
  mine = both_moved nat_list_cmp_total exact_bytes digest bytes (old_blobs old name) (new_entries t.blobs name) (old_blobs left name) (new_entries rows name)
      (in_rows (λ r. bytes_at r 4) old.blobs name digest ∙ ap (option_map (λ r. bytes_at r 4)) found ∙ ap Some is)
      (named_without (λ r. bytes_at r 4) old.blobs name digest)
      (named_came (λ r. content_at t.contents (integer_at r 4)) t.blobs rows name digest (blob_columns name digest (length bytes) id) c (λ i. refl) (λ i. refl) fresh
      ∙ ap (λ o. insert (from_entries (new_entries t.blobs name)) digest (unwrap_or o [])) held)

  -- of another
  others : (other : Text) → bytes_eq other name ≡ false → both_blobs left after other ≡ both_blobs old t other
  others other e = both_stay nat_list_cmp_total exact_bytes (old_blobs old other) (new_entries t.blobs other) (old_blobs left other) (new_entries rows other)
      (ap (λ xs. from_entries (map old_blob_entry xs)) (others_without name other (has_key name digest) old.blobs (within_key name digest) e))
      (ap (λ xs. from_entries (map (blob_entry t.contents) xs)) (others_came name other t.blobs rows (blob_columns name digest (length bytes) id) c (λ i. refl) e))

  each : (other : Text) (b : Bool) → bytes_eq other name ≡ b → both_blobs left after other ≡ both_blobs old t other
  each other true e = subst (λ n. both_blobs left after n ≡ both_blobs old t n) (sym (bytes_eq_true other name e)) mine
  each other false e = others other e

  pub blob_world : world_of_both left after ≡ world_of_both old t
  blob_world = worlds_agree old left t t.contents rows t.manifests t.uploads t.pieces (λ other. each other (bytes_eq other name) refl) (λ other. refl) (λ other. refl)

  pub blob_both : AreBoth left after
  blob_both = record {
    version = both.version;
    olds = record {
      blobs = rows_without IsOldBlobRow same_key (has_key name digest) old.blobs both.olds.blobs;
      manifests = both.olds.manifests;
      sessions = both.olds.sessions;
      blobs_repo = all_without _ (has_key name digest) old.blobs both.olds.blobs_repo;
      manifests_repo = both.olds.manifests_repo;
      sessions_repo = both.olds.sessions_repo;
      given = both.olds.given;
    };
    news = λ version beside two none. (blob_added (record t { version = version; beside = beside }) name digest bytes id rows (both.news version beside two none) repo held fresh c).1;
    blobs = unmoved_left same_key (has_key name digest) old.blobs t.blobs rows (blob_columns name digest (length bytes) id) c (λ r. key_turned name digest r) both.blobs;
    manifests = both.manifests;
    sessions = both.sessions;
  }

-- ---- one blob

pub blob_moves : (olds news : OldTables) (t u : Tables) → AreBoth olds t → BlobMoved olds news t u → (world_of_both news u ≡ world_of_both olds t) × AreBoth news u
blob_moves olds news t u both m = subst (λ x. (world_of_both news x ≡ world_of_both olds t) × AreBoth news x) (sym m.others) (subst (λ o. (world_of_both o target ≡ world_of_both olds t) × AreBoth o target) (sym m.gone) (
  blob_world olds mid m.name m.digest m.bytes m.id u.blobs ready m.held row.0 row.1 row.2 m.comes ∙ world_grown olds t u.contents both m.grow,
  beside_free _ (record mid { blobs = u.blobs }) u.beside (blob_both olds mid m.name m.digest m.bytes m.id u.blobs ready m.held row.0 row.1 row.2 m.comes),
))
  where
    mid : Tables
    mid = grown t u.contents

    target : Tables
    target = record t { contents = u.contents; blobs = u.blobs; beside = u.beside }

    ready : AreBoth olds mid
    ready = both_grown olds t u.contents both m.grow

    row : (r : Row) × (find (has_key m.name m.digest) olds.blobs ≡ Some r) × (bytes_at r 4 ≡ m.bytes)
    row = row_of (λ r. bytes_at r 4) (find (has_key m.name m.digest) olds.blobs) m.bytes m.there
