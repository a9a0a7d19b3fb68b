-- What look-ups tell of a deletion's change.
use Rattle.std.proofs.Common.{◌≡◌, ◌∙◌, ◌+◌, ◌<◌, ℕ, List, [], ◌∷◌, length, take, get_or, false, cond, None, Some, refl, sym, ap, subst, suc, zero, arith}
use Rattle.std.specs.Prelude.{◌||◌, Option, option_map, IfSome}
use Rattle.std.specs.Option.{IsSomeAnd}
use Rattle.std.specs.Ordering.{is_eq}
use Rattle.std.specs.List.Sorted.{IsStrictlySortedBy}
use Rattle.std.specs.FinMap.{get}
use Rattle.std.proofs.lemmas.List.{take_more}
use Rattle.std.proofs.lemmas.Map.Keys.{sorted_tail, Less-from_sorted}
use Rattle.std.proofs.lemmas.Map.Text.{is_eq-slice_cmp}
use Rattle.sqlite.specs.State.{State}
use Rattle.oci_types.specs.Text.{Text}
use Rattle.oci_types.specs.declared.kind.Kind.{Kind}
use Rattle.registry_model.specs.World.{Repo, World, text_cmp}
use Rattle.registry_model.specs.Blobs.{without_blob}
use Rattle.registry_model.specs.Pruning.{is_among, without_blobs}
use Rattle.registry_model.specs.Manifests.{kind_in, without_manifest, without_tag}
use Rattle.registry_model.specs.Lookups.{blob_size_at, manifest_size_at, tag_at}
use Rattle.registry_model.proofs.BlobsTakenAway.{left_blobs, without_one_more}
use Rattle.store_contents.specs.Layouts.{Layout}
use Rattle.store_statements.specs.Held.{world_in}
use Rattle.store_reads.specs.declared.usage_change.Change.{Change}
use Rattle.store_reads.specs.Usages.{Foretells, AreNaming, Turns, gone_too}
use Rattle.store_reads.proofs.UsageTurns.{no_turn}
use Rattle.store_reads.proofs.DeletionTurns.{loss, blob_too, blob_gone, no_blob_gone, manifest_gone, no_manifest_gone, tag_gone, no_tag_gone}
use Rattle.store_reads.proofs.Foretold.{earlier, lacks, sized, blob_shown, manifest_shown, tag_shown}

-- ---- a blob

module _ (w : World) (name digest : Text) where
  pub blob_goes : (size : ℕ) → Some size ≡ blob_size_at w name digest → Foretells w name (λ r. without_blob r digest) (loss size 1 0 0 0)
  blob_goes size e r at =
      let s = sized (get r.blobs digest) size (e ∙ blob_shown w name r at digest) in
      subst (λ n. Turns (loss n 1 0 0 0) r (without_blob r digest)) s.2 (blob_gone r digest s.0 s.1)

  pub no_blob_goes : ◌≡◌ {A = Option ℕ} None (blob_size_at w name digest) → Foretells w name (λ r. without_blob r digest) (loss 0 0 0 0 0)
  no_blob_goes e r at = no_blob_gone r digest (lacks length (get r.blobs digest) (e ∙ blob_shown w name r at digest))

-- ---- several

-- a digest that stands behind others is none of them
none_before : (ds : List Text) (i : ℕ) (d : Text) → IsStrictlySortedBy text_cmp ds → i < length ds → is_among (take i ds) (get_or ds i d) ≡ false
none_before [] i d sorted low = absurd (omega arith)
none_before (x ∷ xs) zero d sorted low = refl
none_before (x ∷ xs) (suc i) d sorted low =
    ap (λ b. b || is_among (take i xs) (get_or xs i d)) (sym (is_eq-slice_cmp x (get_or xs i d)) ∙ ap is_eq (Less-from_sorted text_cmp (x ∷ xs) zero (suc i) d sorted (omega arith) low))
    ∙ none_before xs i d (sorted_tail text_cmp x xs sorted) (omega arith)

-- so its blob is there as before
still_there : (r : Repo) (ds : List Text) (i : ℕ) (d : Text) → IsStrictlySortedBy text_cmp ds → i < length ds → get (without_blobs r (take i ds)).blobs (get_or ds i d) ≡ get r.blobs (get_or ds i d)
still_there r ds i d sorted low =
    left_blobs r (take i ds) (get_or ds i d) ∙ ap (λ b. cond b None (get r.blobs (get_or ds i d))) (none_before ds i d sorted low)

taken_more : (r : Repo) (ds : List Text) (i : ℕ) (d : Text) → i < length ds → without_blobs r (take (i + 1) ds) ≡ without_blob (without_blobs r (take i ds)) (get_or ds i d)
taken_more r ds i d low = ap (without_blobs r) (take_more ds i d low) ∙ without_one_more r (take i ds) (get_or ds i d)

module _ (w : World) (name : Text) (ds : List Text) (sorted : IsStrictlySortedBy text_cmp ds) where
  abbrev so_far : ℕ → Repo → Repo
  so_far i r = without_blobs r (take i ds)

  pub none_yet : Foretells w name (so_far 0) (loss 0 0 0 0 0)
  none_yet r at = no_turn r

  one_more : (i : ℕ) (d : Text) (size : Option ℕ) (c : Change) → i < length ds → size ≡ blob_size_at w name (get_or ds i d) → Foretells w name (so_far i) c → Foretells w name (so_far (i + 1)) (gone_too size c)
  one_more i d size c low is told r at =
      subst (Turns (gone_too size c) r) (sym (taken_more r ds i d low))
      (subst (λ o. Turns (gone_too o c) r (without_blob (so_far i r) (get_or ds i d))) (sym (is ∙ blob_shown w name r at (get_or ds i d)))
      (blob_too c r (so_far i r) (told r at) (get_or ds i d) (get r.blobs (get_or ds i d)) (still_there r ds i d sorted low)))

  more : (i : ℕ) (d : Text) (size : Option ℕ) (o n : Option Change) → i < length ds → size ≡ blob_size_at w name (get_or ds i d)
      → IfSome o (Foretells w name (so_far i)) → IfSome n (λ c. IsSomeAnd o (λ before. c ≡ gone_too size before)) → IfSome n (Foretells w name (so_far (i + 1)))
  more i d size o None low is told made = tt
  more i d size None (Some c) low is told made = absurd made
  more i d size (Some before) (Some c) low is told made = subst (Foretells w name (so_far (i + 1))) (sym made) (one_more i d size before low is told)

-- the next of the digests, of a database that stays
pub more_gone : (l : Layout) (old mid : State) (name : Text) (ds : List Text) (i : ℕ) (digest : Text) (size : Option ℕ) (o n : Option Change) → IsStrictlySortedBy text_cmp ds → mid.now ≡ old.now → i < length ds
    → digest ≡ get_or ds i digest → size ≡ blob_size_at (world_in l mid) name digest → IfSome o (Foretells (world_in l old) name (λ r. without_blobs r (take i ds)))
    → IfSome n (λ c. IsSomeAnd o (λ before. c ≡ gone_too size before)) → IfSome n (Foretells (world_in l old) name (λ r. without_blobs r (take (i + 1) ds)))
more_gone l old mid name ds i digest size o n sorted same low at is told made =
    more (world_in l old) name ds sorted i digest size o n low (earlier l (λ w. size ≡ blob_size_at w name (get_or ds i digest)) old mid same (is ∙ ap (blob_size_at (world_in l mid) name) at)) told made

-- ---- a manifest

module _ (w : World) (name digest : Text) (tags : ℕ) (naming : AreNaming w name digest tags) where
  pub manifest_goes : (kind : Kind) (size : ℕ) → ◌≡◌ {A = Option (Kind × ℕ)} (Some (kind, size)) (manifest_size_at w name digest) → Foretells w name (λ r. without_manifest r digest) (loss size 0 1 tags 0)
  manifest_goes kind size e r at =
      let s = sized (get r.manifests digest) size (ap (option_map (λ (x : Kind × ℕ). x.1)) (e ∙ manifest_shown w name r at digest) ∙ lengths (get r.manifests digest)) in
      subst (λ n. Turns (loss n 0 1 tags 0) r (without_manifest r digest)) s.2 (manifest_gone r digest tags (naming r at) s.0 s.1)
    where
      lengths : (o : Option Text) → option_map (λ (x : Kind × ℕ). x.1) (option_map {U = Kind × ℕ} (λ bytes. (kind_in bytes, length bytes)) o) ≡ option_map length o
      lengths None = refl
      lengths (Some bytes) = refl

  pub no_manifest_goes : ◌≡◌ {A = Option (Kind × ℕ)} None (manifest_size_at w name digest) → Foretells w name (λ r. without_manifest r digest) (loss 0 0 0 tags 0)
  no_manifest_goes e r at = no_manifest_gone r digest tags (naming r at) (lacks {B = Kind × ℕ} _ (get r.manifests digest) (e ∙ manifest_shown w name r at digest))

-- ---- a tag

module _ (w : World) (name tag : Text) where
  pub tag_goes : (held : Text) → Some held ≡ tag_at w name tag → Foretells w name (λ r. without_tag r tag) (loss 0 0 0 1 0)
  tag_goes held e r at = tag_gone r tag held (sym (e ∙ tag_shown w name r at tag))

  pub no_tag_goes : ◌≡◌ {A = Option Text} None (tag_at w name tag) → Foretells w name (λ r. without_tag r tag) (loss 0 0 0 0 0)
  no_tag_goes e r at = no_tag_gone r tag (sym (e ∙ tag_shown w name r at tag))
