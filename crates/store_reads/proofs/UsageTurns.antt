-- What a write changes of what a repository holds.
use Rattle.std.proofs.Common.{◌≡◌, ◌∙◌, ℕ, ◌+◌, [], ◌++◌, length, true, cond, None, Some, refl, sym, ap, subst, arith, length-append}
use Rattle.std.specs.Prelude.{Option, is_some}
use Rattle.std.specs.Cmp.{nat_cmp_total}
use Rattle.std.specs.FinMap.{get, insert, remove, len, nat_cmp-IsAntisymmetric}
use Rattle.oci_types.specs.Text.{Text}
use Rattle.registry_model.specs.World.{Repo}
use Rattle.registry_model.specs.Blobs.{with_blob}
use Rattle.registry_model.specs.Sessions.{opened, appended, finished}
use Rattle.registry_model.specs.Manifests.{with_manifest, with_tag}
use Rattle.registry_model.specs.Lookups.{with_mounted}
use Rattle.registry_model.proofs.TextOrder.{text_total}
use Rattle.store_reads.specs.declared.usage_change.Change.{Change}
use Rattle.store_reads.specs.Usages.{Turns}
use Rattle.registry_model.proofs.MapSums.{sum_new, len_new, len_over, sum_gone, len_gone, sum_over}

abbrev pub change : ℕ → ℕ → ℕ → ℕ → ℕ → ℕ → ℕ → Change
change added gone blobs manifests tags opened ended = record {
  added = added;
  gone = gone;
  blobs = blobs;
  blobs_gone = 0;
  manifests = manifests;
  manifests_gone = 0;
  tags = tags;
  tags_gone = 0;
  opened = opened;
  ended = ended;
}

pub no_turn : (r : Repo) → Turns (change 0 0 0 0 0 0 0) r r
no_turn r = record {
  bytes = omega arith;
  quota = refl;
  blobs = omega arith;
  manifests = omega arith;
  tags = omega arith;
  sessions = omega arith;
}

-- a session's end and a blob are told together
some_blob : (r s : Repo) (gone ended : ℕ) → Turns (change 0 gone 0 0 0 0 ended) r s → (digest bytes : Text) → get s.blobs digest ≡ None
    → Turns (change (length bytes) gone 1 0 0 0 ended) r (with_blob s digest bytes)
some_blob r s gone ended t digest bytes none =
    subst (λ x. Turns (change (length bytes) gone 1 0 0 0 ended) r (cond (is_some x) s (record s { blobs = insert s.blobs digest bytes }))) (sym none) (record {
      bytes = let e = sum_new text_total length s.blobs digest bytes none in omega (arith, e, t.bytes);
      quota = t.quota;
      blobs = let e = len_new text_total (length {A = ℕ}) s.blobs digest bytes none in omega (arith, e, t.blobs);
      manifests = t.manifests;
      tags = t.tags;
      sessions = t.sessions;
    })

old_blob : (c : Change) (r s : Repo) → Turns c r s → (digest bytes : Text) → is_some (get s.blobs digest) ≡ true → Turns c r (with_blob s digest bytes)
old_blob c r s t digest bytes there = subst (λ b. Turns c r (cond b s (record s { blobs = insert s.blobs digest bytes }))) (sym there) t

module _ (r : Repo) where
  -- ---- a whole push, and a mount

  pub put_there : (digest bytes : Text) → is_some (get r.blobs digest) ≡ true → Turns (change 0 0 0 0 0 0 0) r (with_blob r digest bytes)
  put_there digest bytes = old_blob (change 0 0 0 0 0 0 0) r r (no_turn r) digest bytes

  pub put_new : (digest bytes : Text) → get r.blobs digest ≡ None → Turns (change (length bytes) 0 1 0 0 0 0) r (with_blob r digest bytes)
  put_new digest bytes none = some_blob r r 0 0 (no_turn r) digest bytes none

  pub mount_there : (digest : Text) (source : Option Text) → is_some (get r.blobs digest) ≡ true → Turns (change 0 0 0 0 0 0 0) r (with_mounted digest source r)
  mount_there digest None there = no_turn r
  mount_there digest (Some bytes) there = put_there digest bytes there

  -- ---- a session

  pub open_new : get r.sessions (r.last + 1) ≡ None → Turns (change 0 0 0 0 0 1 0) r (opened r)
  open_new none = record {
    bytes = let e = sum_new nat_cmp_total length r.sessions (r.last + 1) [] none in omega (arith, e);
    quota = refl;
    blobs = omega arith;
    manifests = omega arith;
    tags = omega arith;
    sessions = let e = len_new nat_cmp_total (length {A = ℕ}) r.sessions (r.last + 1) [] none in omega (arith, e);
  }

  pub append_there : (number : ℕ) (before more : Text) → get r.sessions number ≡ Some before → Turns (change (length more) 0 0 0 0 0 0) r (appended r number (before ++ more))
  append_there number before more there = record {
    bytes = let e = sum_over nat_cmp_total length nat_cmp-IsAntisymmetric r.sessions number before (before ++ more) there in omega (arith, e, length-append before more);
    quota = refl;
    blobs = omega arith;
    manifests = omega arith;
    tags = omega arith;
    sessions = let e = len_over nat_cmp_total (length {A = ℕ}) r.sessions number (before ++ more) (ap is_some there) in omega (arith, e);
  }

  ended : (number : ℕ) (before : Text) → get r.sessions number ≡ Some before → Turns (change 0 (length before) 0 0 0 0 1) r (record r { sessions = remove r.sessions number })
  ended number before there = record {
    bytes = let e = sum_gone nat_cmp_total length nat_cmp-IsAntisymmetric r.sessions number before there in omega (arith, e);
    quota = refl;
    blobs = omega arith;
    manifests = omega arith;
    tags = omega arith;
    sessions = let e = len_gone nat_cmp_total (length {A = ℕ}) nat_cmp-IsAntisymmetric r.sessions number before there in omega (arith, e);
  }

  module _ (number : ℕ) (before digest bytes : Text) (there : get r.sessions number ≡ Some before) where
    pub end_there : is_some (get r.blobs digest) ≡ true → Turns (change 0 (length before) 0 0 0 0 1) r (finished r number digest bytes)
    end_there = old_blob (change 0 (length before) 0 0 0 0 1) r (record r { sessions = remove r.sessions number }) (ended number before there) digest bytes

    pub end_new : get r.blobs digest ≡ None → Turns (change (length bytes) (length before) 1 0 0 0 1) r (finished r number digest bytes)
    end_new = some_blob r (record r { sessions = remove r.sessions number }) (length before) 1 (ended number before there) digest bytes

  -- ---- a manifest

  -- how many tags more
  abbrev pub tags_more : Option Text → ℕ
  tags_more None = 0
  tags_more (Some tag) = cond (is_some (get r.tags tag)) 0 1

  tagged : (c : Change) (s : Repo) → c.tags ≡ 0 → c.tags_gone ≡ 0 → s.tags ≡ r.tags → Turns c r s → (tag : Option Text) (digest : Text) → Turns (record c { tags = tags_more tag }) r (with_tag s tag digest)
  tagged c s none stays same t None digest = record {
    bytes = t.bytes;
    quota = t.quota;
    blobs = t.blobs;
    manifests = t.manifests;
    tags = omega (arith, none, t.tags);
    sessions = t.sessions;
  }
  tagged c s none stays same t (Some tag) digest = record {
    bytes = t.bytes;
    quota = t.quota;
    blobs = t.blobs;
    manifests = t.manifests;
    tags = let e = ap (λ m. len (insert m tag digest)) same ∙ by (get r.tags tag) refl in omega (arith, e, stays);
    sessions = t.sessions;
  }
    where
      by : (x : Option Text) → get r.tags tag ≡ x → len (insert r.tags tag digest) ≡ len r.tags + cond (is_some x) 0 1
      by None e = len_new text_total (length {A = ℕ}) r.tags tag digest e
      by (Some d) e = let h = len_over text_total (length {A = ℕ}) r.tags tag digest (ap is_some e) in omega (arith, h)

  module _ (digest bytes : Text) (tag : Option Text) where
    pub manifest_there : is_some (get r.manifests digest) ≡ true → Turns (change 0 0 0 0 (tags_more tag) 0 0) r (with_manifest r digest bytes tag)
    manifest_there there = subst (λ b. Turns (change 0 0 0 0 (tags_more tag) 0 0) r (with_tag (cond b r (record r { manifests = insert r.manifests digest bytes })) tag digest)) (sym there)
        (tagged (change 0 0 0 0 0 0 0) r refl refl refl (no_turn r) tag digest)

    pub manifest_new : get r.manifests digest ≡ None → Turns (change (length bytes) 0 0 1 (tags_more tag) 0 0) r (with_manifest r digest bytes tag)
    manifest_new none = subst (λ x. Turns (change (length bytes) 0 0 1 (tags_more tag) 0 0) r (with_tag (cond (is_some x) r (record r { manifests = insert r.manifests digest bytes })) tag digest)) (sym none)
        (tagged (change (length bytes) 0 0 1 0 0 0) (record r { manifests = insert r.manifests digest bytes }) refl refl refl added tag digest)
      where
        added : Turns (change (length bytes) 0 0 1 0 0 0) r (record r { manifests = insert r.manifests digest bytes })
        added = record {
          bytes = let e = sum_new text_total length r.manifests digest bytes none in omega (arith, e);
          quota = refl;
          blobs = omega arith;
          manifests = let e = len_new text_total (length {A = ℕ}) r.manifests digest bytes none in omega (arith, e);
          tags = omega arith;
          sessions = omega arith;
        }
