-- The manifests on a subject with their bytes, from their rows.
use Rattle.std.proofs.Common.{◌≡◌, ◌∙◌, ℕ, List, map, true, Ok, Err, Result, IfOk, sym, ap}
use Rattle.std.specs.declared.alloc.Global.{Global}
use Rattle.std.specs.Prelude.{Vec, filter}
use Rattle.sqlite.specs.Effect.{Database}
use Rattle.sqlite_keyed.specs.Lists.{sort_by}
use Rattle.sqlite_trees.proofs.ListLemmas.{map-map}
use Rattle.oci_types.specs.Text.{Text}
use Rattle.oci_types.specs.Digest.{is_digest}
use Rattle.oci_types.specs.declared.fault.Fault.{Fault}
use Rattle.registry_model.specs.Keeping.{entries_shown}
use Rattle.registry_model.specs.Lookups.{manifests_on_at}
use Rattle.store_contents.specs.declared.content_id.ContentId.{ContentId}
use Rattle.store_contents.specs.Layouts.{Layout, contents_in}
use Rattle.store_statements.specs.Keys.{on_subject}
use Rattle.store_statements.specs.Registry.{IsRegistry}
use Rattle.store_statements.specs.World.{content_at, world_of}
use Rattle.store_statements.proofs.Referrers.{digest_not_empty, manifests_on_found}
use Rattle.store_statements.specs.Held.{tables_in}
use Rattle.store_statements.specs.ManifestShown.{by_second, referrer}
use Rattle.store_reads.specs.Each.{AreTold, IsEntry}
use Rattle.store_reads.proofs.ToldEach.{mapped}

-- a digest with the bytes of its content
abbrev pub with_content : Layout → Database → Text × ContentId → Text × Text
with_content l db r = (r.0, content_at (contents_in l db) r.1.id)

pub on_subject_found : (l : Layout) → (old mid : Database) (name given digest text : Text) (found : List (Text × ContentId)) (r : Result (Vec (Text × Vec ℕ Global) Global) Fault)
    → IsRegistry (tables_in l old) → given ≡ name → text ≡ digest → is_digest text ≡ true → mid ≡ old → found ≡ map referrer (sort_by by_second (filter (on_subject given text) (tables_in l old).manifests))
    → IfOk r (λ entries. AreTold (IsEntry (tables_in l mid)) found entries.items) → IfOk r (λ entries. entries_shown entries ≡ manifests_on_at (world_of (tables_in l old)) name digest)
on_subject_found l old mid name given digest text found (Err e) is named told valid same rows h = tt
on_subject_found l old mid name given digest text found (Ok entries) is named told valid same rows h =
    mapped (IsEntry (tables_in l mid)) (with_content l mid) (λ (p : Text × Vec ℕ Global). (p.0, p.1.items)) (λ x v e i. (e.0 i, e.1 i)) found entries.items h ∙ ap (λ db. map (with_content l db) found) same ∙ ap (map (with_content l old)) rows ∙ map-map (with_content l old) referrer (sort_by by_second (filter (on_subject given text) (tables_in l old).manifests))
    ∙ sym (manifests_on_found (tables_in l old) given text is (digest_not_empty text valid)) ∙ (λ i. manifests_on_at (world_of (tables_in l old)) (named i) (told i))
