-- What the statements on links to manifests make of the tables.
use Rattle.std.proofs.Common.{◌≡◌, ◌⊎◌, inl, inr, ℕ, ℤ, List, [], ◌∷◌, Bool, None, Some, Ok, Err, Result, OnOk, Bor, refl}
use Rattle.std.specs.Prelude.{find, Option, option_map}
use Rattle.sqlite.specs.declared.types.Value.TheVariants.{Null, Text}
use Rattle.sqlite.specs.declared.error.Error.{Error}
use Rattle.sqlite.specs.Order.{Row, column}
use Rattle.sqlite.specs.Cast.{cast_row}
use Rattle.sqlite.specs.Ops.{unary}
use Rattle.sqlite.specs.Schema.{Schema}
use Rattle.sqlite.specs.Term.{Term, col}
use Rattle.sqlite.specs.Command.TheVariants.{Delete}
use Rattle.sqlite.specs.State.{State, Executes, ExecutesInside}
use Rattle.sqlite.specs.Values.{or_null, bound_value}
use Rattle.oci_types.specs.declared.kind.Kind.{Kind}
use Rattle.oci_types.specs.declared.kind.Kind.TheVariants.{Image, Index}
use Rattle.oci_types.specs.Kind.{kind_number as written_number}
use Rattle.store_schema.specs.Schema.{manifest_links_table}
use Rattle.store_schema.specs.Layout.{tree_of, placed, Means, select_from}
use Rattle.store_schema.proofs.Lists.{none_found}
use Rattle.store_schema.proofs.Selects.{is_text, one_test, both_tests}
use Rattle.store_schema.proofs.Writes.{passes, either}
use Rattle.store_contents.specs.Layouts.{Layout}
use Rattle.store_statements.specs.Keys.{of_first, has_key, same_key}
use Rattle.store_statements.specs.Tables.{Tables, AreTables, AreRows, IsManifestRow}
use Rattle.store_statements.specs.Registry.{kind_number, optional_text}
use Rattle.store_statements.specs.Changes.{manifest_columns, Comes}
use Rattle.store_statements.specs.ManifestTexts.{manifest_add, manifest_take, manifest_take_all}
use Rattle.store_statements.specs.Held.{held, HoldsTables, Becomes}
use Rattle.store_statements.specs.Steps.{manifests_without, ManifestComes}
use Rattle.store_statements.proofs.OtherTables.{only_manifests, contents_beside_manifests}
use Rattle.store_statements.proofs.Keys.{key_turned}
use Rattle.store_statements.proofs.Statements as statements

put_are : (t : Tables) (rows : List Row) → AreTables t → AreRows IsManifestRow same_key rows → AreTables (record t { manifests = rows })
put_are t rows a r = record { repos = a.repos; grants = a.grants; tags = a.tags; blobs = a.blobs; manifests = r; uploads = a.uploads; pieces = a.pieces }

-- a DELETE, of a call's result
taken_by : {l : Layout} → (text : List ℕ) (terms : List Term) (params : Row) (p : Row → Bool) (old new : State) (r : Result ℕ Error) → (h : HoldsTables l old.now)
    → Means old.now.schema text (Delete h.known.manifests.at (record { lets = []; body = select_from (tree_of old.now.schema manifest_links_table) terms (col 1 0 ∷ []) }))
    → ((r : Row) → IsManifestRow r → passes params terms r ≡ p r) → ExecutesInside 0 text params old new r → OnOk r (Becomes l new (manifests_without p (held l old)))
taken_by {l} text terms params p old new (Err e) h means test ran = tt
taken_by {l} text terms params p old new (Ok n) h means test ran =
    let it = statements.takes manifest_links_table IsManifestRow same_key (λ t rows. record t { manifests = rows }) (λ schema k. k.manifests) (λ a b k keeps rows e. only_manifests a b k keeps rows e) (λ a b k keeps is. contents_beside_manifests a b k keeps is) (λ db t. t.manifests) put_are
    text terms params p old new n h h.known.manifests_alone means test ran.0 in
    (record { inside = ran.1.mode; holds = it.1 }, it.0)

pub took_by : {l : Layout} → (repo digest : List ℕ) (old new : State) (r : Result ℕ Error) → HoldsTables l old.now → ExecutesInside 0 manifest_take (Text repo ∷ Text digest ∷ []) old new r → OnOk r (Becomes l new (manifests_without (has_key repo digest) (held l old)))
took_by {l} repo digest old new r h ran = taken_by manifest_take _ _ (has_key repo digest) old new r h h.known.manifest_texts.take (λ r it. both_tests _ _ _ _ (is_text (column r 1) _ repo it.repo) (is_text (column r 2) _ digest it.digest)) ran

pub took_all : {l : Layout} → (repo : List ℕ) (old new : State) (r : Result ℕ Error) → HoldsTables l old.now → ExecutesInside 0 manifest_take_all (Text repo ∷ []) old new r → OnOk r (Becomes l new (manifests_without (of_first repo) (held l old)))
took_all {l} repo old new r h ran = taken_by manifest_take_all _ _ (of_first repo) old new r h h.known.manifest_texts.take_all (λ r it. one_test _ _ (is_text (column r 1) _ repo it.repo)) ran

-- ---- a link that comes

pub number_is : (kind : Kind) → written_number kind ≡ kind_number kind
number_is Image = refl
number_is Index = refl

-- a parameter that may be NULL
pub subject_value : (o : Option (Bor (List ℕ))) → or_null (λ (t : Bor (List ℕ)). Text t.now) o ≡ optional_text (option_map (λ (t : Bor (List ℕ)). t.now) o)
subject_value None = refl
subject_value (Some t) = refl

-- it is bound as it is
pub bound_text : (o : Option (List ℕ)) → bound_value (optional_text o) ≡ optional_text o
bound_text None = refl
bound_text (Some t) = refl

cast_come : (schema : Schema) (repo digest : List ℕ) (size : ℕ) (kind : Kind) (subject : Option (List ℕ)) (content : ℤ)
    → cast_row (placed schema manifest_links_table) (Null ∷ manifest_columns repo digest size kind subject content) ≡ Null ∷ manifest_columns repo digest size kind subject content
unfolding unary
cast_come schema repo digest size kind None content = rw (either, either, either, either)
cast_come schema repo digest size kind (Some t) content = rw (either, either, either, either)

subject_is : (o : Option (List ℕ)) → (optional_text o ≡ Null) ⊎ (optional_text o ≡ Text (Rattle.sqlite.specs.Order.bytes (optional_text o)))
subject_is None = inl refl
subject_is (Some t) = inr refl

came : {l : Layout} → (repo digest : List ℕ) (size : ℕ) (kind : Kind) (subject : Option (List ℕ)) (content : ℤ) (old new : State) (n : ℕ) → let columns = manifest_columns repo digest size kind subject content in
    HoldsTables l old.now → find (has_key repo digest) (held l old).manifests ≡ None → Executes manifest_add columns old new (Ok n)
    → Comes (held l old).manifests (held l new).manifests columns × (held l new ≡ record (held l old) { manifests = (held l new).manifests }) × HoldsTables l new.now
came {l} repo digest size kind subject content old new n h fresh ran =
    let columns = manifest_columns repo digest size kind subject content in
    statements.comes manifest_links_table IsManifestRow same_key (λ t rows. record t { manifests = rows }) (λ schema k. k.manifests) (λ a b k keeps rows e. only_manifests a b k keeps rows e) (λ a b k keeps is. contents_beside_manifests a b k keeps is) (λ db t. t.manifests) put_are
    manifest_add _ 7 columns columns old new n h h.known.manifest_texts.add refl refl refl (cast_come old.now.schema repo digest size kind subject content)
    (λ id. record { repo = refl; digest = refl; size = refl; kind = refl; subject = subject_is subject; content = refl }) key_turned (λ id. none_found (has_key repo digest) _ fresh) ran

pub added_by : {l : Layout} → (repo digest : List ℕ) (size : ℕ) (kind : Kind) (subject : Option (List ℕ)) (content : ℤ) (old new : State) (r : Result ℕ Error) → let columns = manifest_columns repo digest size kind subject content in
    HoldsTables l old.now → find (has_key repo digest) (held l old).manifests ≡ None → ExecutesInside 0 manifest_add columns old new r → OnOk r (ManifestComes l old new columns)
added_by {l} repo digest size kind subject content old new (Err e) h fresh ran = tt
added_by {l} repo digest size kind subject content old new (Ok n) h fresh ran =
    let it = came repo digest size kind subject content old new n h fresh ran.0 in
    record { ready = record { inside = ran.1.mode; holds = it.2 }; comes = it.0; others = it.1 }
