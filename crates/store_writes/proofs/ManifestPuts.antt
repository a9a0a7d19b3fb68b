-- What a manifest and a tag that are put make of the world.
use Rattle.std.proofs.Common.{◌≡◌, ◌∙◌, ℕ, ℤ, List, true, None, Some, Ok, Err, Result, OnOk, length, sym, ap, subst, refl}
use Rattle.std.specs.Prelude.{find, is_none, is_some, Option, option_map, false}
use Rattle.sqlite.specs.Order.{Row}
use Rattle.sqlite.specs.State.{State}
use Rattle.sqlite.specs.Effect.{Database}
use Rattle.oci_types.specs.declared.fault.Fault.{Fault}
use Rattle.oci_types.specs.declared.fault.Fault.TheVariants.{Memory, Storage}
use Rattle.oci_types.specs.Text.{Text}
use Rattle.oci_types.specs.Manifest.{ManifestShown, manifest_in}
use Rattle.oci_types.specs.declared.kind.Kind.{Kind}
use Rattle.store_schema.specs.Rows.{natural_at}
use Rattle.registry_model.specs.Lookups.{manifest_at, put_manifest}
use Rattle.registry_model.specs.Manifests.{kind_in, kind_or_image, with_bytes, with_tag}
use Rattle.registry_model.specs.Referrers.{subject_or_none}
use Rattle.registry_model.specs.World.{World, has_repo}
use Rattle.store_contents.specs.Layouts.{Layout}
use Rattle.store_statements.specs.Keys.{has_key}
use Rattle.store_statements.specs.Tables.{Tables}
use Rattle.store_statements.specs.Registry.{is_repo, kind_of, Agree, IsRegistry}
use Rattle.store_statements.specs.World.{world_of}
use Rattle.store_statements.specs.Changes.{with_digest, tag_columns, manifest_columns, Comes, Grow}
use Rattle.store_statements.proofs.BlobWorlds.{update_same}
use Rattle.store_statements.proofs.Children.{some_is}
use Rattle.store_statements.proofs.ManifestWorlds.{manifest_at_found, manifest_bytes, manifest_there}
use Rattle.store_statements.proofs.RepoWorlds.{has_repo_found}
use Rattle.store_statements.proofs.Stored.{manifest_stored}
use Rattle.store_statements.proofs.TagWorlds.{tag_set, tag_added}
use Rattle.store_statements.proofs.Transactions.{registry}
use Rattle.store_statements.proofs.Updates.{update_twice}
use Rattle.store_statements.specs.Held.{IsReady, IsSettled, Becomes, SettlesOn, held, tables_in, is_storage, world_in}
use Rattle.store_statements.specs.Steps.{tags_changed, TagComes, ManifestComes, ContentKept}
use Rattle.store_writes.specs.Worlds.{AddsRows, IsWhole, KeepsRows, Turns, tagged}
use Rattle.store_writes.proofs.ContentsStay.{rows_then}
use Rattle.store_writes.proofs.RowCounts.{none_changed}

pub registry_inside : {l : Layout} → (s : State) → IsWhole l s → IsRegistry (held l s)
registry_inside {l} s is = record { tables = is.ready.holds.tables; agree = is.agree }

turned : {l : Layout} → (old new : State) (t : Tables) (w : World) (R : Tables → Tables → Type 0) → IsReady l new → held l new ≡ t → t.repos ≡ (held l old).repos → t.beside ≡ (held l old).beside → Grow (held l old).contents t.contents → R (held l old) t → (world_of t ≡ w) × IsRegistry t → Turns l old new w R
turned {l} old new t w R ready same repos beside grow rows it = record {
  whole = record { ready = ready; agree = subst Agree (sym same) it.1.agree };
  world = ap world_of same ∙ it.0;
  repos = ap (λ (x : Tables). x.repos) same ∙ repos;
  beside = ap (λ (x : Tables). x.beside) same ∙ beside;
  grow = subst (λ (x : Tables). Grow (held l old).contents x.contents) (sym same) grow;
  rows = subst (R (held l old)) (sym same) rows;
}

-- ---- the tag

pub tag_was_set : {l : Layout} → (old new : State) (repo tag digest : List ℕ) → IsWhole l old → is_some (find (has_key repo tag) (held l old).tags) ≡ true → Becomes l new (tags_changed (has_key repo tag) (with_digest digest) (held l old))
    → Turns l old new (tagged (world_of (held l old)) repo (Some tag) digest) KeepsRows
tag_was_set {l} old new repo tag digest is there became =
    let found = some_is (find (has_key repo tag) (held l old).tags) there in
    turned old new (tags_changed (has_key repo tag) (with_digest digest) (held l old)) _ KeepsRows became.0 became.1 refl refl (λ id bytes e. e) (record { places = refl; packs = refl }, refl) (tag_set (held l old) repo tag digest found.0 (registry_inside old is) found.1)

-- none was set
set_none : {l : Layout} → (a b : State) (repo tag digest : List ℕ) → find (has_key repo tag) (held l a).tags ≡ None → Becomes l b (tags_changed (has_key repo tag) (with_digest digest) (held l a)) → held l b ≡ held l a
set_none {l} a b repo tag digest none became = became.1 ∙ (λ i. record (held l a) { tags = none_changed (has_key repo tag) (with_digest digest) (held l a).tags none i })

pub fresh_tag : {l : Layout} → (a b : State) (repo tag digest : List ℕ) → find (has_key repo tag) (held l a).tags ≡ None → Becomes l b (tags_changed (has_key repo tag) (with_digest digest) (held l a)) → find (has_key repo tag) (held l b).tags ≡ None
fresh_tag {l} a b repo tag digest none became = ap (λ (t : Tables). find (has_key repo tag) t.tags) (set_none a b repo tag digest none became) ∙ none

pub tag_came : {l : Layout} → (old mid new : State) (repo tag digest : List ℕ) → IsWhole l old → is_repo (held l old).repos repo ≡ true → find (has_key repo tag) (held l old).tags ≡ None → Becomes l mid (tags_changed (has_key repo tag) (with_digest digest) (held l old))
    → TagComes l mid new (tag_columns repo tag digest) → Turns l old new (tagged (world_of (held l old)) repo (Some tag) digest) KeepsRows
tag_came {l} old mid new repo tag digest is there none became came =
    let same = set_none old mid repo tag digest none became in
    let comes : Comes (held l old).tags (held l new).tags (tag_columns repo tag digest) = subst (λ (t : Tables). Comes t.tags (held l new).tags (tag_columns repo tag digest)) same came.comes in
    let others : held l new ≡ record (held l old) { tags = (held l new).tags } = subst (λ (t : Tables). held l new ≡ record t { tags = (held l new).tags }) same came.others in
    turned old new (record (held l old) { tags = (held l new).tags }) _ KeepsRows came.ready others refl refl (λ id bytes e. e) (record { places = refl; packs = refl }, refl) (tag_added (held l old) repo tag digest (held l new).tags (registry_inside old is) there none comes)

-- no tag is given
pub no_tag : {l : Layout} → (old : State) (repo digest : List ℕ) → IsWhole l old → Turns l old old (tagged (world_of (held l old)) repo None digest) KeepsRows
no_tag {l} old repo digest is = record { whole = is; world = sym (update_same (held l old) repo (λ r. r) (λ r e. refl)); repos = refl; beside = refl; grow = λ id bytes e. e; rows = (record { places = refl; packs = refl }, refl) }

-- ---- the manifest

pub fresh_manifest : (l : Layout) → (old mid : State) (id : ℤ) (repo digest bytes : List ℕ) {runs : List (ℕ × ℕ)} → ContentKept (held l old) (held l mid) id bytes runs → find (has_key repo digest) (held l old).manifests ≡ None → find (has_key repo digest) (held l mid).manifests ≡ None
fresh_manifest l old mid id repo digest bytes c none = ap (λ (t : Tables). find (has_key repo digest) t.manifests) c.others ∙ none

pub manifest_came : {l : Layout} → (old mid new : State) (id : ℤ) (repo digest bytes : List ℕ) (runs : List (ℕ × ℕ)) → IsWhole l old → is_repo (held l old).repos repo ≡ true → find (has_key repo digest) (held l old).manifests ≡ None → ContentKept (held l old) (held l mid) id bytes runs
    → (m : ManifestShown) → manifest_in bytes ≡ Ok m → (subject : Option Text) → subject ≡ m.subject
    → ManifestComes l mid new (manifest_columns repo digest (length bytes) m.kind subject id) → Turns l old new (put_manifest (world_of (held l old)) repo digest bytes None) (AddsRows bytes runs)
manifest_came {l} old mid new id repo digest bytes runs is there none c m reads subject refers link =
    let columns = manifest_columns repo digest (length bytes) (kind_in bytes) (subject_or_none (manifest_in bytes)) id in
    let came : ManifestComes l mid new columns = subst (ManifestComes l mid new) (λ i. manifest_columns repo digest (length bytes) (sym (ap kind_or_image reads) i) ((refers ∙ sym (ap subject_or_none reads)) i) id) link in
    let contents = (held l mid).contents in
    let places = (held l mid).places in
    let comes : Comes (held l old).manifests (held l new).manifests columns = subst (λ (t : Tables). Comes t.manifests (held l new).manifests columns) c.others came.comes in
    let others : held l new ≡ record (held l old) { contents = contents; places = places; manifests = (held l new).manifests } = subst (λ (t : Tables). held l new ≡ record t { manifests = (held l new).manifests }) c.others came.others in
    turned old new (record (held l old) { contents = contents; places = places; manifests = (held l new).manifests }) _ (AddsRows bytes runs) came.ready others refl refl c.grow
    (record { runs = c.placed.runs; packs = refl }, record { id = id; there = c.there; rest = c.rest })
    (manifest_stored (held l old) contents places repo digest bytes id (held l new).manifests (registry_inside old is) there c.grow c.there none comes)

-- ---- both

put_tagged : (w : World) (repo digest bytes : List ℕ) (tag : Option Text) → tagged (put_manifest w repo digest bytes None) repo tag digest ≡ put_manifest w repo digest bytes tag
put_tagged w repo digest bytes tag = update_twice w repo (λ r. with_bytes r digest bytes) (λ r. with_tag r tag digest)

pub tagged_put : {l : Layout} → (old mid new : State) (repo digest bytes : List ℕ) (runs : List (ℕ × ℕ)) (tag : Option Text) → Turns l old mid (put_manifest (world_of (held l old)) repo digest bytes None) (AddsRows bytes runs)
    → Turns l mid new (tagged (world_of (held l mid)) repo tag digest) KeepsRows → Turns l old new (put_manifest (world_of (held l old)) repo digest bytes tag) (AddsRows bytes runs)
tagged_put {l} old mid new repo digest bytes runs tag first second = record {
  whole = second.whole;
  world = second.world ∙ ap (λ w. tagged w repo tag digest) first.world ∙ put_tagged (world_of (held l old)) repo digest bytes tag;
  repos = second.repos ∙ first.repos;
  beside = second.beside ∙ first.beside;
  grow = λ id bytes e. second.grow id bytes (first.grow id bytes e);
  rows = rows_then bytes runs (held l old) (held l mid) (held l new) first.rows second.rows;
}

-- the repository has the digest: the tag alone
pub tagged_there : (t : Tables) (repo digest bytes : List ℕ) (tag : Option Text) (there : Row) → find (has_key repo digest) t.manifests ≡ Some there → tagged (world_of t) repo tag digest ≡ put_manifest (world_of t) repo digest bytes tag
tagged_there t repo digest bytes tag there found = ap (λ w. tagged w repo tag digest) (sym (manifest_there t repo digest bytes there found)) ∙ put_tagged (world_of t) repo digest bytes tag

pub then_ok : {A E P Q : Type 0} (r : Result A E) → (P → Q) → OnOk r P → OnOk r Q
then_ok (Ok x) f p = f p
then_ok (Err e) f p = p

-- ---- what was found before it

pub found_none : {X : Type 0} (f : Row → X) (o : Option Row) → None ≡ option_map f o → o ≡ None
found_none f None e = refl
found_none f (Some r) e = absurd cc

pub found_some : {X : Type 0} (f : Row → X) (x : X) (o : Option Row) → Some x ≡ option_map f o → is_some o ≡ true
found_some f x None e = absurd cc
found_some f x (Some r) e = refl

pub repo_there : (l : Layout) → (old mid : State) (repo : List ℕ) → mid.now ≡ old.now → has_repo (world_of (held l old)) repo ≡ true → is_repo (held l mid).repos repo ≡ true
repo_there l old mid repo same has = ap (λ (d : Database). is_repo (tables_in l d).repos repo) same ∙ sym (has_repo_found (held l old) repo) ∙ has

pub fresh_still : (l : Layout) → (old mid : State) (repo digest : List ℕ) → mid.now ≡ old.now → find (has_key repo digest) (held l old).manifests ≡ None → find (has_key repo digest) (held l mid).manifests ≡ None
fresh_still l old mid repo digest same none = ap (λ (d : Database). find (has_key repo digest) (tables_in l d).manifests) same ∙ none

pub made_there : {l : Layout} → (old mid new : State) (repo digest bytes : List ℕ) (tag : Option Text) → mid.now ≡ old.now → is_some (find (has_key repo digest) (held l old).manifests) ≡ true
    → SettlesOn l new (tagged (world_of (held l mid)) repo tag digest) → SettlesOn l new (put_manifest (world_of (held l old)) repo digest bytes tag)
made_there {l} old mid new repo digest bytes tag same some m =
    let found = some_is (find (has_key repo digest) (held l old).manifests) some in
    (m.0, m.1 ∙ ap (λ (d : Database). tagged (world_of (tables_in l d)) repo tag digest) same ∙ tagged_there (held l old) repo digest bytes tag found.0 found.1)

pub made_new : {l : Layout} → (old mid new : State) (repo digest bytes : List ℕ) (tag : Option Text) → mid.now ≡ old.now → SettlesOn l new (put_manifest (world_of (held l mid)) repo digest bytes tag) → SettlesOn l new (put_manifest (world_of (held l old)) repo digest bytes tag)
made_new {l} old mid new repo digest bytes tag same m = (m.0, m.1 ∙ ap (λ (d : Database). put_manifest (world_of (tables_in l d)) repo digest bytes tag) same)

-- ---- whether it comes

pub manifest_comes : {l : Layout} → (old : State) (repo digest : List ℕ) → IsSettled l old → find (has_key repo digest) (held l old).manifests ≡ None → true ≡ is_none (manifest_at (world_in l old) repo digest)
manifest_comes {l} old repo digest settled none = sym (ap is_none (manifest_at_found (held l old) repo digest (registry old settled) ∙ ap (option_map {U = Kind × Text} (λ r. (kind_of (natural_at r 4), manifest_bytes (held l old) r))) none))

pub manifest_is_there : {l : Layout} → (old : State) (repo digest : List ℕ) → IsSettled l old → is_some (find (has_key repo digest) (held l old).manifests) ≡ true → false ≡ is_none (manifest_at (world_in l old) repo digest)
manifest_is_there {l} old repo digest settled some =
    let found = some_is (find (has_key repo digest) (held l old).manifests) some in
    sym (ap is_none (manifest_at_found (held l old) repo digest (registry old settled) ∙ ap (option_map {U = Kind × Text} (λ r. (kind_of (natural_at r 4), manifest_bytes (held l old) r))) found.1))

pub memory_unspent : (A B : Type 0) (f : Fault) (r : Result A Fault) → r ≡ Err f → r ≡ Err Memory → is_storage {A = B} (Err f) ≡ false
memory_unspent A B Memory r e h = refl
memory_unspent A B Storage r e h = absurd (let x = sym e ∙ h in cc)
