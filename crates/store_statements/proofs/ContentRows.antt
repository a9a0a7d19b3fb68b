-- Bytes that are found or added among the contents, as the tables have them.
use Rattle.std.proofs.Common.{◌≡◌, ◌≢◌, ◌⊎◌, ◌∙◌, inl, inr, ℕ, ℤ, List, [], Bool, true, false, cond, Option, Some, None, Ok, Err, Result, OnOk, IfOk, refl, sym, ap, subst, arith}
use Rattle.std.specs.Prelude.{option_map, drop, bytes_eq, ◌||◌, slice_index_or}
use Rattle.std.specs.Str.Pattern.{FindsTextPrefix, StripsPrefix}
use Rattle.std.specs.Ordering.{int_eq}
use Rattle.std.proofs.lemmas.Slice.Eq.{bytes_eq-Decides}
use Rattle.sqlite.specs.Effect.{Database}
use Rattle.sqlite.specs.State.{State}
use Rattle.oci_types.specs.Text.{Text}
use Rattle.oci_types.specs.Digest.{matches, sha256_digest, sha512_digest, sha256_prefix}
use Rattle.store_schema.proofs.Ids.{int_eq_itself, int_eq_is}
use Rattle.store_contents.specs.declared.content_id.ContentId.{ContentId}
use Rattle.store_contents.specs.Contents.{sha256_text, bytes_in, IsInside, FindsOrAdds}
use Rattle.store_contents.proofs.ToldLemmas.{sha256_told}
use Rattle.store_contents.specs.Places.{place_rows, places_of, joined}
use Rattle.store_contents.specs.Layouts.{InTables, InPack, contents_in}
use Rattle.store_places.specs.Places as places
use Rattle.store_places.proofs.SourceLemmas.{added_holds}
use Rattle.registry_pack.specs.declared.extent.Extent.{Extent}
use Rattle.registry_pack.specs.Extents.{bytes_at}
use Rattle.sha2.specs.Sha256.{sha256}
use Rattle.hex.specs.Hex.{encode_lower}
use Rattle.sqlite.specs.Order.{Row}
use Rattle.store_statements.specs.Tables.{Tables, AreTables}
use Rattle.store_statements.specs.Changes.{Grow}
use Rattle.store_statements.specs.Known.{KnowsRegistry}
use Rattle.store_statements.specs.Held.{IsReady, HoldsTables, held, tables_in}
use Rattle.store_statements.specs.Steps.{ContentKept}
use Rattle.store_statements.proofs.OtherTables.{only_contents, only_around}
use Rattle.store_statements.proofs.PlacesKept.{no_runs}

-- a transaction over the tables is one over the contents
pub inside_of : (s : State) → IsReady InTables s → IsInside s
inside_of s is = record { inside = is.inside; contents = is.holds.contents }

-- the tables' rows say nothing of contents
same_rows : (t : Tables) (contents : ℤ → Option Text) → AreTables t → AreTables (record t { contents = contents })
same_rows t contents are = record { repos = are.repos; grants = are.grants; tags = are.tags; blobs = are.blobs; manifests = are.manifests; uploads = are.uploads; pieces = are.pieces }

-- one id more has bytes
grown : (olds news : ℤ → Option Text) (id : ℤ) (bytes : Text) → olds id ≡ None → ((i : ℤ) → news i ≡ cond (int_eq id i) (Some bytes) (olds i)) → Grow olds news
grown olds news id bytes free adds i b was = adds i ∙ go (int_eq id i) refl
  where
    go : (same : Bool) → int_eq id i ≡ same → cond same (Some bytes) (olds i) ≡ Some b
    go true e = absurd (let none : olds i ≡ None = ap olds (sym (int_eq_is id i e)) ∙ free in cc)
    go false e = was

-- and no other changes
rested : (olds news : ℤ → Option Text) (id : ℤ) (bytes : Text) → ((i : ℤ) → news i ≡ cond (int_eq id i) (Some bytes) (olds i)) → (i : ℤ) → i ≢ id → news i ≡ olds i
rested olds news id bytes adds i other = adds i ∙ go (int_eq id i) refl
  where
    go : (same : Bool) → int_eq id i ≡ same → cond same (Some bytes) (olds i) ≡ olds i
    go true e = absurd (other (sym (int_eq_is id i e)))
    go false e = refl

pub content_kept : (old new : State) (id : ℤ) (bytes : Text) → IsReady InTables old → IsInside new → FindsOrAdds old.now new.now id bytes → IsReady InTables new × ContentKept (held InTables old) (held InTables new) id bytes []
content_kept old new id bytes is inside (inl finds) = (
  record { inside = inside.inside; holds = subst (HoldsTables InTables) (sym finds.same) is.holds },
  record {
    grow = λ i b was. ap (λ db. bytes_in db i) finds.same ∙ was;
    there = ap (λ db. bytes_in db id) finds.same ∙ finds.there;
    rest = λ i other. ap (λ db. bytes_in db i) finds.same;
    placed = no_runs (held InTables old) (held InTables new) refl refl;
    others = subst (λ (db : Database). tables_in InTables db ≡ record (tables_in InTables old.now) { contents = bytes_in db }) (sym finds.same) refl;
  },
)
content_kept old new id bytes is inside (inr adds) =
    let others = only_contents old.now new.now is.holds.known adds.others in (
      record {
        inside = inside.inside;
        holds = record {
          known = subst (KnowsRegistry InTables) (sym adds.others.schema) is.holds.known;
          contents = inside.contents;
          tables = subst AreTables (sym others) (same_rows (tables_in InTables old.now) (bytes_in new.now) is.holds.tables);
        };
      },
      record {
        grow = grown (bytes_in old.now) (bytes_in new.now) id bytes adds.free adds.contents;
        there = adds.contents id ∙ ap (λ b. cond b (Some bytes) (bytes_in old.now id)) (int_eq_itself id);
        rest = rested (bytes_in old.now) (bytes_in new.now) id bytes adds.contents;
        placed = no_runs (held InTables old) (held InTables new) refl refl;
        others = others;
      },
    )

-- the same of a call's result
pub content_kept_if : {E : Type 0} (old new : State) (bytes : Text) (r : Result ContentId E) → IsReady InTables old → OnOk r (IsInside new) → IfOk r (λ it. FindsOrAdds old.now new.now it.id bytes)
    → IfOk r (λ it. IsReady InTables new × ContentKept (held InTables old) (held InTables new) it.id bytes [])
content_kept_if old new bytes (Ok it) is inside h = content_kept old new it.id bytes is inside h
content_kept_if old new bytes (Err e) is inside h = tt

-- ---- bytes that stand in a pack

pub inside_pack : (file : List ℕ) (s : State) → IsReady (InPack file) s → places.IsInside s
inside_pack file s is = record { inside = is.inside; holds = is.holds.contents.rows }

same_rows_around : (t : Tables) (contents : ℤ → Option Text) (rows : List Row) → AreTables t → AreTables (record t { contents = contents; places = rows })
same_rows_around t contents rows are = record { repos = are.repos; grants = are.grants; tags = are.tags; blobs = are.blobs; manifests = are.manifests; uploads = are.uploads; pieces = are.pieces }

digits_of : (bytes hash : List ℕ) → hash ≡ sha256 bytes → encode_lower hash ≡ sha256_text bytes
unfolding sha256_text
digits_of bytes hash is = ap encode_lower is

content_added : (file : List ℕ) (old new : State) (id : ℤ) (hash : List ℕ) (extents : List Extent) → IsReady (InPack file) old → places.IsInside new → places.Adds old.now new.now id (encode_lower hash) extents → hash ≡ sha256 (bytes_at file extents)
    → IsReady (InPack file) new × ContentKept (held (InPack file) old) (held (InPack file) new) id (bytes_at file extents) (places.runs_at extents)
content_added file old new id hash extents is inside adds hashed =
    let others = only_around file old.now new.now is.holds.known adds.others in (
      record {
        inside = inside.inside;
        holds = record {
          known = subst (KnowsRegistry (InPack file)) (sym adds.others.schema) is.holds.known;
          contents = added_holds file old.now new.now id (encode_lower hash) extents adds is.holds.contents inside.holds (digits_of (bytes_at file extents) hash hashed);
          tables = subst AreTables (sym others) (same_rows_around (tables_in (InPack file) old.now) (contents_in (InPack file) new.now) (place_rows new.now) is.holds.tables);
        };
      },
      record {
        grow = grown (contents_in (InPack file) old.now) (contents_in (InPack file) new.now) id (bytes_at file extents) (ap (option_map (λ _. joined file (places_of (place_rows old.now) id))) adds.free) (adds.bytes file);
        there = adds.bytes file id ∙ ap (λ b. cond b (Some (bytes_at file extents)) (contents_in (InPack file) old.now id)) (int_eq_itself id);
        rest = rested (contents_in (InPack file) old.now) (contents_in (InPack file) new.now) id (bytes_at file extents) (adds.bytes file);
        placed = record { runs = adds.runs; packs = ap (λ (t : Tables). t.packs) others };
        others = others;
      },
    )

-- the same of a call's result
pub content_added_if : {E : Type 0} (file : List ℕ) (old new : State) (hash : List ℕ) (extents : List Extent) (r : Result ContentId E) → IsReady (InPack file) old → hash ≡ sha256 (bytes_at file extents)
    → IfOk r (λ it. places.Adds old.now new.now it.id (encode_lower hash) extents × places.IsInside new)
    → IfOk r (λ it. IsReady (InPack file) new × ContentKept (held (InPack file) old) (held (InPack file) new) it.id (bytes_at file extents) (places.runs_at extents))
content_added_if file old new hash extents (Ok it) is hashed h = content_added file old new it.id hash extents is h.1 h.0 hashed
content_added_if file old new hash extents (Err e) is hashed h = tt

-- ---- the digits of a sha256 digest

either : (x y : Bool) → (x || y) ≡ true → (x ≡ true) ⊎ (y ≡ true)
either true y e = inl refl
either false y e = inr e

-- what a digest has behind `sha256:` are the digits of the bytes that it matches
pub digits_told : (digest bytes digits : Text) → matches digest bytes ≡ true → StripsPrefix (FindsTextPrefix sha256_prefix) digest digits → digits ≡ sha256_text bytes
digits_told digest bytes digits match (n, found, rest, whole) = go (either (bytes_eq digest (sha256_digest bytes)) (bytes_eq digest (sha512_digest bytes)) match)
  where
    behind : digits ≡ drop 7 digest
    behind = rest ∙ ap (λ k. drop k digest) found.0

    go : (bytes_eq digest (sha256_digest bytes) ≡ true) ⊎ (bytes_eq digest (sha512_digest bytes) ≡ true) → digits ≡ sha256_text bytes
    go (inl e) = behind ∙ sha256_told digest bytes ((bytes_eq-Decides digest (sha256_digest bytes)).0 e)
    go (inr e) = absurd (let other : 50 ≡ 53 = ap (λ l. slice_index_or l 3 0) (sym found.1 ∙ (bytes_eq-Decides digest (sha512_digest bytes)).0 e) in omega (arith, other))
