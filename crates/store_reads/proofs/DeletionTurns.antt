-- What a deletion takes from what a repository holds.
use Rattle.std.proofs.Common.{◌≡◌, ℕ, ◌+◌, length, None, Some, refl, sym, ap, subst, arith}
use Rattle.std.specs.Prelude.{Option, option_map, sum_by}
use Rattle.std.specs.Ordering.{nat_cmp}
use Rattle.std.specs.FinMap.{get, values, len, len-empty}
use Rattle.oci_types.specs.Text.{Text}
use Rattle.registry_model.specs.World.{Repo}
use Rattle.registry_model.specs.Blobs.{without_blob}
use Rattle.registry_model.specs.Manifests.{without_manifest, without_tag}
use Rattle.registry_model.specs.Command.{without_sessions}
use Rattle.registry_model.proofs.TextOrder.{text_total, exact_texts, remove_absent}
use Rattle.store_reads.specs.declared.usage_change.Change.{Change}
use Rattle.store_reads.specs.Usages.{Turns, gone_too}
use Rattle.registry_model.proofs.MapSums.{sum_empty, sum_gone, len_gone}
use Rattle.store_reads.proofs.UsageTurns.{no_turn}

abbrev pub loss : ℕ → ℕ → ℕ → ℕ → ℕ → Change
loss gone blobs manifests tags ended = record {
  added = 0;
  gone = gone;
  blobs = 0;
  blobs_gone = blobs;
  manifests = 0;
  manifests_gone = manifests;
  tags = 0;
  tags_gone = tags;
  opened = 0;
  ended = ended;
}

-- ---- blobs

-- one more goes, behind others
pub blob_too : (c : Change) (r s : Repo) → Turns c r s → (digest : Text) (o : Option Text) → get s.blobs digest ≡ o → Turns (gone_too (option_map length o) c) r (without_blob s digest)
blob_too c r s t digest None none = subst (λ m. Turns c r (record s { blobs = m })) (sym (remove_absent s.blobs digest none)) t
blob_too c r s t digest (Some bytes) there = record {
  bytes = let e = sum_gone text_total length exact_texts s.blobs digest bytes there in omega (arith, e, t.bytes);
  quota = t.quota;
  blobs = let e = len_gone text_total (length {A = ℕ}) exact_texts s.blobs digest bytes there in omega (arith, e, t.blobs);
  manifests = t.manifests;
  tags = t.tags;
  sessions = t.sessions;
}

module _ (r : Repo) where
  pub blob_gone : (digest bytes : Text) → get r.blobs digest ≡ Some bytes → Turns (loss (length bytes) 1 0 0 0) r (without_blob r digest)
  blob_gone digest bytes there = record {
    bytes = let e = sum_gone text_total length exact_texts r.blobs digest bytes there in omega (arith, e);
    quota = refl;
    blobs = let e = len_gone text_total (length {A = ℕ}) exact_texts r.blobs digest bytes there in omega (arith, e);
    manifests = omega arith;
    tags = omega arith;
    sessions = omega arith;
  }

  pub no_blob_gone : (digest : Text) → get r.blobs digest ≡ None → Turns (loss 0 0 0 0 0) r (without_blob r digest)
  no_blob_gone digest none = blob_too (loss 0 0 0 0 0) r r (no_turn r) digest None none

  -- ---- a manifest, and so many tags that name it

  module _ (digest : Text) (tags : ℕ) (naming : len (without_manifest r digest).tags + tags ≡ len r.tags) where
    pub manifest_gone : (bytes : Text) → get r.manifests digest ≡ Some bytes → Turns (loss (length bytes) 0 1 tags 0) r (without_manifest r digest)
    manifest_gone bytes there = record {
      bytes = let e = sum_gone text_total length exact_texts r.manifests digest bytes there in omega (arith, e);
      quota = refl;
      blobs = omega arith;
      manifests = let e = len_gone text_total (length {A = ℕ}) exact_texts r.manifests digest bytes there in omega (arith, e);
      tags = omega (arith, naming);
      sessions = omega arith;
    }

    pub no_manifest_gone : get r.manifests digest ≡ None → Turns (loss 0 0 0 tags 0) r (without_manifest r digest)
    no_manifest_gone none = record {
      bytes = let e = ap (λ m. sum_by length (values m)) (remove_absent r.manifests digest none) in omega (arith, e);
      quota = refl;
      blobs = omega arith;
      manifests = let e = ap len (remove_absent r.manifests digest none) in omega (arith, e);
      tags = omega (arith, naming);
      sessions = omega arith;
    }

  -- ---- a tag

  pub tag_gone : (tag digest : Text) → get r.tags tag ≡ Some digest → Turns (loss 0 0 0 1 0) r (without_tag r tag)
  tag_gone tag digest there = record {
    bytes = omega arith;
    quota = refl;
    blobs = omega arith;
    manifests = omega arith;
    tags = let e = len_gone text_total (length {A = ℕ}) exact_texts r.tags tag digest there in omega (arith, e);
    sessions = omega arith;
  }

  pub no_tag_gone : (tag : Text) → get r.tags tag ≡ None → Turns (loss 0 0 0 0 0) r (without_tag r tag)
  no_tag_gone tag none = subst (λ m. Turns (loss 0 0 0 0 0) r (record r { tags = m })) (sym (remove_absent r.tags tag none)) (no_turn r)

  -- ---- all sessions

  pub sessions_gone : Turns (loss (sum_by length (values r.sessions)) 0 0 0 (len r.sessions)) r (without_sessions r)
  sessions_gone = record {
    bytes = let e = sum_empty nat_cmp (length {A = ℕ}) in omega (arith, e);
    quota = refl;
    blobs = omega arith;
    manifests = omega arith;
    tags = omega arith;
    sessions = let e = len-empty nat_cmp Text in omega (arith, e);
  }
