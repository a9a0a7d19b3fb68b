-- What rows tell of the world.
use Rattle.std.proofs.Common.{◌≡◌, ◌∙◌, ◌<◌, ◌≤◌, ℕ, ℤ, Bool, List, arith, None, Some, Ok, Err, Result, IfOk, refl, sym, ap, subst}
use Rattle.std.specs.Prelude.{Option, option_map, find, is_some}
use Rattle.sqlite.specs.Order.{Row}
use Rattle.sqlite.specs.Effect.{Database}
use Rattle.sqlite.specs.State.{State}
use Rattle.oci_types.specs.Text.{Text}
use Rattle.oci_types.specs.declared.fault.Fault.{Fault}
use Rattle.oci_types.specs.declared.kind.Kind.{Kind}
use Rattle.std.specs.Option.{option_map_or}
use Rattle.registry_model.specs.TagPage.{Page}
use Rattle.registry_model.specs.World.{has_repo}
use Rattle.registry_model.specs.Lookups.{blob_at, blob_size_at, manifest_at, manifest_size_at, session_at, last_number_at}
use Rattle.store_schema.specs.Rows.{natural_at}
use Rattle.store_contents.specs.Layouts.{Layout}
use Rattle.store_statements.specs.Keys.{has_key, of_first, of_session}
use Rattle.store_statements.specs.Tables.{Tables}
use Rattle.store_statements.specs.World.{world_of, content_at, joined, pieces_of}
use Rattle.store_statements.specs.Registry.{IsRegistry, UploadAgrees, last_in}
use Rattle.store_statements.proofs.Found.{found_all, found_passes, is_session}
use Rattle.store_statements.proofs.Reach.{content_found}
use Rattle.store_statements.proofs.RepoWorlds.{still_some, has_repo_found, last_number_found}
use Rattle.store_statements.proofs.SessionReads.{session_at_found}
use Rattle.store_statements.proofs.BlobWorlds.{blob_at_found, blob_size_found}
use Rattle.store_statements.proofs.ManifestWorlds.{manifest_at_found, manifest_size_found}
use Rattle.store_statements.specs.declared.blobs.BlobLink.{BlobLink}
use Rattle.store_statements.specs.declared.repos.RepoRow.{RepoRow}
use Rattle.store_statements.specs.declared.manifests.ManifestLink.{ManifestLink}
use Rattle.store_statements.specs.Held.{held, tables_in}
use Rattle.store_statements.specs.Shown.{blob_link, repo_row}
use Rattle.store_statements.specs.ManifestShown.{manifest_link}

-- the same value
pub told : {A : Type 0} (r : Result A Fault) (x y : A) → x ≡ y → IfOk r (λ v. v ≡ x) → IfOk r (λ v. v ≡ y)
told (Ok v) x y e h = h ∙ e
told (Err f) x y e h = tt

twice : {X Y Z : Type 0} (f : Y → Z) (g : X → Y) (o : Option X) → option_map f (option_map g o) ≡ option_map (λ x. f (g x)) o
twice f g None = refl
twice f g (Some x) = refl

module _ (t : Tables) (name digest : Text) (is : IsRegistry t) where
  module _ (v : Option BlobLink) (e : v ≡ option_map blob_link (find (has_key name digest) t.blobs)) where
    pub blob_size_by : option_map (λ (l : BlobLink). l.size) v ≡ blob_size_at (world_of t) name digest
    blob_size_by = ap (option_map (λ (l : BlobLink). l.size)) e ∙ twice _ blob_link (find (has_key name digest) t.blobs) ∙ sym (blob_size_found t name digest is)

    pub blob_by : option_map (λ (l : BlobLink). content_at t.contents l.content.id) v ≡ blob_at (world_of t) name digest
    blob_by = ap (option_map (λ (l : BlobLink). content_at t.contents l.content.id)) e ∙ twice _ blob_link (find (has_key name digest) t.blobs) ∙ sym (blob_at_found t name digest is)

  module _ (v : Option ManifestLink) (e : v ≡ option_map manifest_link (find (has_key name digest) t.manifests)) where
    pub manifest_size_by : option_map {U = Kind × ℕ} (λ (l : ManifestLink). (l.kind, l.size)) v ≡ manifest_size_at (world_of t) name digest
    manifest_size_by = ap (option_map {U = Kind × ℕ} (λ (l : ManifestLink). (l.kind, l.size))) e ∙ twice {Z = Kind × ℕ} _ manifest_link (find (has_key name digest) t.manifests) ∙ sym (manifest_size_found t name digest is)

    pub manifest_by : option_map {U = Kind × Text} (λ (l : ManifestLink). (l.kind, content_at t.contents l.content.id)) v ≡ manifest_at (world_of t) name digest
    manifest_by = ap (option_map {U = Kind × Text} (λ (l : ManifestLink). (l.kind, content_at t.contents l.content.id))) e ∙ twice {Z = Kind × Text} _ manifest_link (find (has_key name digest) t.manifests) ∙ sym (manifest_at_found t name digest is)

-- what the same database has under an id
pub bytes_kept : (l : Layout) → (old mid : State) (id : ℤ) (bytes : Text) → mid.now ≡ old.now → (held l mid).contents id ≡ Some bytes → bytes ≡ content_at (held l old).contents id
bytes_kept l old mid id bytes same e = sym (content_found (held l mid).contents id bytes e) ∙ ap (λ (d : Database). content_at (tables_in l d).contents id) same

pub with_kind : (kind : Kind) (a b : Text) → a ≡ b → ◌≡◌ {A = Option (Kind × Text)} (Some (kind, a)) (Some (kind, b))
with_kind kind a b e = λ i. Some (kind, e i)

-- a page, by its parts
pub page_told : (tags : List Text) (more : Bool) (shown page : Page) → page ≡ shown → (tags ≡ shown.tags) × (more ≡ shown.more) → ◌≡◌ {A = Page} (record { tags = tags; more = more }) page
page_told tags more shown page is e = (λ i. record { tags = e.0 i; more = e.1 i }) ∙ sym is

-- ---- repositories

module _ (t : Tables) (name : Text) (v : Option RepoRow) (e : v ≡ option_map repo_row (find (of_first name) t.repos)) where
  pub has_repo_by : is_some v ≡ has_repo (world_of t) name
  has_repo_by = ap is_some e ∙ still_some repo_row (find (of_first name) t.repos) ∙ sym (has_repo_found t name)

  pub last_number_by : option_map_or (λ (r : RepoRow). r.last) v 0 ≡ last_number_at (world_of t) name
  last_number_by = ap (λ (o : Option RepoRow). option_map_or (λ (r : RepoRow). r.last) o 0) e ∙ mapped (find (of_first name) t.repos) ∙ sym (last_number_found t name)
    where
      mapped : (o : Option Row) → option_map_or (λ (r : RepoRow). r.last) (option_map repo_row o) 0 ≡ option_map_or (λ r. natural_at r 3) o 0
      mapped None = refl
      mapped (Some r) = refl

-- a number above the last one was not given out
pub no_session : (t : Tables) (name : Text) (number last : ℕ) → IsRegistry t → last ≡ last_number_at (world_of t) name → last < number → session_at (world_of t) name number ≡ None
no_session t name number last is e above = session_at_found t name number is ∙ go (find (of_session name number) t.uploads) refl
  where
    go : (o : Option Row) → find (of_session name number) t.uploads ≡ o → option_map (λ (r : Row). joined t.contents (pieces_of t.pieces name number)) o ≡ None
    go None f = refl
    go (Some r) f =
        let agrees = found_all (UploadAgrees t.repos t.pieces) (of_session name number) t.uploads r is.agree.uploads f in
        let key = is_session name number r (found_passes (of_session name number) t.uploads r f) in
        let given : natural_at r 2 ≤ last_in t.repos name = subst (λ n. natural_at r 2 ≤ last_in t.repos n) key.0 agrees.given in
        absurd (omega (arith, given, key.1, e ∙ last_number_found t name, above))
