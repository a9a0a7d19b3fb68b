-- What the statements on tags make of the tables.
use Rattle.std.proofs.Common.{◌≡◌, ℕ, ℤ, List, [], ◌∷◌, Bool, None, Ok, Err, Result, OnOk, IfOk, length, refl}
use Rattle.std.specs.Prelude.{filter, find}
use Rattle.sqlite.specs.declared.types.Value.TheVariants.{Null, Int, Text}
use Rattle.sqlite.specs.declared.error.Error.{Error}
use Rattle.sqlite.specs.Order.{Row, column}
use Rattle.sqlite.specs.Cast.{cast_row}
use Rattle.sqlite.specs.Ops.{unary}
use Rattle.sqlite.specs.Schema.{Schema}
use Rattle.sqlite.specs.Tree.{rowid}
use Rattle.sqlite.specs.Term.{Term, col}
use Rattle.sqlite.specs.Command.TheVariants.{Delete}
use Rattle.sqlite.specs.State.{State, Executes, ExecutesInside}
use Rattle.sqlite_rules.specs.Edit.{id_in}
use Rattle.store_schema.specs.Schema.{tags_table}
use Rattle.store_schema.specs.Layout.{tree_of, placed, equals, Means, select_from}
use Rattle.store_schema.proofs.Lists.{none_found}
use Rattle.store_schema.proofs.Selects.{is_text, one_test, both_tests}
use Rattle.store_schema.proofs.Writes.{passes, either}
use Rattle.store_contents.specs.Layouts.{Layout}
use Rattle.store_statements.specs.Keys.{of_first, has_key, same_key}
use Rattle.store_statements.specs.Tables.{Tables, AreTables, AreRows, IsTagRow}
use Rattle.store_statements.specs.Changes.{with_digest, tag_columns, Comes}
use Rattle.store_statements.specs.TagTexts.{tag_take, tag_take_named, tag_take_all, tag_set_digest, tag_add}
use Rattle.store_statements.specs.Held.{held, HoldsTables, Becomes}
use Rattle.store_statements.specs.Steps.{names_digest, tags_without, tags_changed, TagComes}
use Rattle.store_statements.proofs.OtherTables.{only_tags, contents_beside_tags}
use Rattle.store_statements.proofs.Keys.{key_turned, key_parts}
use Rattle.store_statements.proofs.Statements as statements

put_are : (t : Tables) (rows : List Row) → AreTables t → AreRows IsTagRow same_key rows → AreTables (record t { tags = rows })
put_are t rows a r = record { repos = a.repos; grants = a.grants; tags = r; blobs = a.blobs; manifests = a.manifests; uploads = a.uploads; pieces = a.pieces }

-- of the key
key_test : (repo tag : List ℕ) (more : Row) (r : Row) → IsTagRow r → passes (Text repo ∷ Text tag ∷ more) (equals 1 0 ∷ equals 2 1 ∷ []) r ≡ has_key repo tag r
key_test repo tag more r it = both_tests _ _ _ _ (is_text (column r 1) _ repo it.repo) (is_text (column r 2) _ tag it.tag)

cast_set : (schema : Schema) (id : ℤ) (repo tag digest : List ℕ) → cast_row (placed schema tags_table) (Int id ∷ Text repo ∷ Text tag ∷ Text digest ∷ []) ≡ Int id ∷ Text repo ∷ Text tag ∷ Text digest ∷ []
unfolding unary
cast_set schema id repo tag digest = rw (either)

cast_row_set : (schema : Schema) (digest : List ℕ) (r : Row) → IsTagRow r → rowid r ≡ Int (id_in (rowid r)) → cast_row (placed schema tags_table) (with_digest digest r) ≡ with_digest digest r
cast_row_set schema digest r it id = rw (id, it.repo, it.tag) (cast_set schema _ _ _ digest)

was_set : {l : Layout} → (repo tag digest : List ℕ) (old new : State) (n : ℕ) → HoldsTables l old.now → Executes tag_set_digest (Text repo ∷ Text tag ∷ Text digest ∷ []) old new (Ok n)
    → (n ≡ length (filter (has_key repo tag) (held l old).tags)) × (held l new ≡ tags_changed (has_key repo tag) (with_digest digest) (held l old)) × HoldsTables l new.now
was_set {l} repo tag digest old new n h ran = statements.changes tags_table IsTagRow same_key (λ t rows. record t { tags = rows }) (λ schema k. k.tags) (λ a b k keeps rows e. only_tags a b k keeps rows e) (λ a b k keeps is. contents_beside_tags a b k keeps is) (λ db t. t.tags) put_are
    tag_set_digest (equals 1 0 ∷ equals 2 1 ∷ []) _ (Text repo ∷ Text tag ∷ Text digest ∷ []) (has_key repo tag) (with_digest digest) old new n h h.known.tag_texts.set_digest (key_test repo tag (Text digest ∷ []))
    (key_parts repo tag) (λ r. refl) (λ r. refl) (cast_row_set old.now.schema digest)
    (λ r it. record { repo = it.repo; tag = it.tag; digest = refl }) (λ a r. refl) (λ a r. refl) ran

cast_come : (schema : Schema) (repo tag digest : List ℕ) → cast_row (placed schema tags_table) (Null ∷ tag_columns repo tag digest) ≡ Null ∷ tag_columns repo tag digest
unfolding unary
cast_come schema repo tag digest = rw (either)

came : {l : Layout} → (repo tag digest : List ℕ) (old new : State) (n : ℕ) → HoldsTables l old.now → find (has_key repo tag) (held l old).tags ≡ None → Executes tag_add (Text repo ∷ Text tag ∷ Text digest ∷ []) old new (Ok n)
    → Comes (held l old).tags (held l new).tags (tag_columns repo tag digest) × (held l new ≡ record (held l old) { tags = (held l new).tags }) × HoldsTables l new.now
came {l} repo tag digest old new n h fresh ran = statements.comes tags_table IsTagRow same_key (λ t rows. record t { tags = rows }) (λ schema k. k.tags) (λ a b k keeps rows e. only_tags a b k keeps rows e) (λ a b k keeps is. contents_beside_tags a b k keeps is) (λ db t. t.tags) put_are
    tag_add _ 4 (Text repo ∷ Text tag ∷ Text digest ∷ []) (tag_columns repo tag digest) old new n h h.known.tag_texts.add refl refl refl (cast_come old.now.schema repo tag digest)
    (λ id. record { repo = refl; tag = refl; digest = refl }) key_turned (λ id. none_found (has_key repo tag) _ fresh) ran

-- a DELETE, of a call's result
taken_by : {l : Layout} → (text : List ℕ) (terms : List Term) (params : Row) (p : Row → Bool) (old new : State) (r : Result ℕ Error) → (h : HoldsTables l old.now)
    → Means old.now.schema text (Delete h.known.tags.at (record { lets = []; body = select_from (tree_of old.now.schema tags_table) terms (col 1 0 ∷ []) }))
    → ((r : Row) → IsTagRow r → passes params terms r ≡ p r) → ExecutesInside 0 text params old new r → OnOk r (Becomes l new (tags_without p (held l old)))
taken_by {l} text terms params p old new (Err e) h means test ran = tt
taken_by {l} text terms params p old new (Ok n) h means test ran =
    let it = statements.takes tags_table IsTagRow same_key (λ t rows. record t { tags = rows }) (λ schema k. k.tags) (λ a b k keeps rows e. only_tags a b k keeps rows e) (λ a b k keeps is. contents_beside_tags a b k keeps is) (λ db t. t.tags) put_are
    text terms params p old new n h h.known.tags_alone means test ran.0 in
    (record { inside = ran.1.mode; holds = it.1 }, it.0)

-- ---- the same of a call's result, inside a transaction

pub took_by : {l : Layout} → (repo tag : List ℕ) (old new : State) (r : Result ℕ Error) → HoldsTables l old.now → ExecutesInside 0 tag_take (Text repo ∷ Text tag ∷ []) old new r → OnOk r (Becomes l new (tags_without (has_key repo tag) (held l old)))
took_by {l} repo tag old new r h ran = taken_by tag_take _ _ (has_key repo tag) old new r h h.known.tag_texts.take (key_test repo tag []) ran

pub took_named : {l : Layout} → (repo digest : List ℕ) (old new : State) (r : Result ℕ Error) → HoldsTables l old.now → ExecutesInside 0 tag_take_named (Text repo ∷ Text digest ∷ []) old new r → OnOk r (Becomes l new (tags_without (names_digest repo digest) (held l old)))
took_named {l} repo digest old new r h ran = taken_by tag_take_named _ _ (names_digest repo digest) old new r h h.known.tag_texts.take_named (λ r it. both_tests _ _ _ _ (is_text (column r 1) _ repo it.repo) (is_text (column r 3) _ digest it.digest)) ran

pub took_all : {l : Layout} → (repo : List ℕ) (old new : State) (r : Result ℕ Error) → HoldsTables l old.now → ExecutesInside 0 tag_take_all (Text repo ∷ []) old new r → OnOk r (Becomes l new (tags_without (of_first repo) (held l old)))
took_all {l} repo old new r h ran = taken_by tag_take_all _ _ (of_first repo) old new r h h.known.tag_texts.take_all (λ r it. one_test _ _ (is_text (column r 1) _ repo it.repo)) ran

pub set_by : {l : Layout} → (repo tag digest : List ℕ) (old new : State) (r : Result ℕ Error) → HoldsTables l old.now → ExecutesInside 0 tag_set_digest (Text repo ∷ Text tag ∷ Text digest ∷ []) old new r
    → OnOk r (Becomes l new (tags_changed (has_key repo tag) (with_digest digest) (held l old))) × IfOk r (λ n. n ≡ length (filter (has_key repo tag) (held l old).tags))
set_by {l} repo tag digest old new (Err e) h ran = (tt, tt)
set_by {l} repo tag digest old new (Ok n) h ran = let it = was_set repo tag digest old new n h ran.0 in ((record { inside = ran.1.mode; holds = it.2 }, it.1), it.0)

pub added_by : {l : Layout} → (repo tag digest : List ℕ) (old new : State) (r : Result ℕ Error) → HoldsTables l old.now → find (has_key repo tag) (held l old).tags ≡ None → ExecutesInside 0 tag_add (Text repo ∷ Text tag ∷ Text digest ∷ []) old new r
    → OnOk r (TagComes l old new (tag_columns repo tag digest))
added_by {l} repo tag digest old new (Err e) h fresh ran = tt
added_by {l} repo tag digest old new (Ok n) h fresh ran = let it = came repo tag digest old new n h fresh ran.0 in record { ready = record { inside = ran.1.mode; holds = it.2 }; comes = it.0; others = it.1 }
