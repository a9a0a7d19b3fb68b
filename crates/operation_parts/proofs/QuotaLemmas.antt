-- What a change adds to the bytes that a repository uses, and takes from them.
use Rattle.std.proofs.Common.{◌≡◌, ◌∙◌, ℕ, ◌+◌, ◌-◌, ◌<◌, ◌++◌, length, Bool, true, false, cond, ◌&&◌, None, Some, refl, sym, ap, arith, length-append}
use Rattle.std.specs.Prelude.{Option, option_map, is_some, is_none, nat_lt}
use Rattle.std.specs.Option.{option_map_or}
use Rattle.std.specs.Cmp.{nat_cmp_total}
use Rattle.std.specs.FinMap.{get, insert, remove, nat_cmp-IsAntisymmetric}
use Rattle.std.proofs.lemmas.Bool.Decides.{nat_tests}
use Rattle.oci_types.specs.Text.{Text}
use Rattle.registry_model.specs.World.{Repo, World, repo_at}
use Rattle.registry_model.specs.declared.quota.Usage.{Usage}
use Rattle.registry_model.specs.Usage.{used, goes_over, usage_of, in_64_bits}
use Rattle.registry_model.specs.Lookups.{no_usage}
use Rattle.registry_model.specs.Blobs.{with_blob}
use Rattle.registry_model.specs.Sessions.{appended, finished}
use Rattle.registry_model.specs.Manifests.{with_bytes, with_tag, with_manifest}
use Rattle.registry_model.proofs.MapSums.{sum_new, sum_gone, sum_over}
use Rattle.registry_model.proofs.TextOrder.{text_total}
use Rattle.operation_parts.specs.Quota.{grows_over, grows_over_at, new_length}

-- ---- the bytes that a changed repository uses

pub used_new_blob : (r : Repo) (digest bytes : Text) → get r.blobs digest ≡ None → used (with_blob r digest bytes) ≡ used r + length bytes
used_new_blob r digest bytes none =
    ap (λ x. used (cond (is_some x) r (record r { blobs = insert r.blobs digest bytes }))) none
    ∙ (let e = sum_new text_total length r.blobs digest bytes none in omega (arith, e))

pub old_blob : (r : Repo) (digest bytes : Text) → is_some (get r.blobs digest) ≡ true → with_blob r digest bytes ≡ r
old_blob r digest bytes there = ap (λ b. cond b r (record r { blobs = insert r.blobs digest bytes })) there

pub used_appended : (r : Repo) (number : ℕ) (bytes more : Text) → get r.sessions number ≡ Some bytes → used (appended r number (bytes ++ more)) ≡ used r + length more
used_appended r number bytes more there =
    let e = sum_over nat_cmp_total length nat_cmp-IsAntisymmetric r.sessions number bytes (bytes ++ more) there in
    omega (arith, e, length-append bytes more)

used_without_session : (r : Repo) (number : ℕ) (bytes : Text) → get r.sessions number ≡ Some bytes → used (record r { sessions = remove r.sessions number }) + length bytes ≡ used r
used_without_session r number bytes there =
    let e = sum_gone nat_cmp_total length nat_cmp-IsAntisymmetric r.sessions number bytes there in
    omega (arith, e)

pub used_new_bytes : (r : Repo) (digest bytes : Text) → get r.manifests digest ≡ None → used (with_bytes r digest bytes) ≡ used r + length bytes
used_new_bytes r digest bytes none =
    ap (λ x. used (cond (is_some x) r (record r { manifests = insert r.manifests digest bytes }))) none
    ∙ (let e = sum_new text_total length r.manifests digest bytes none in omega (arith, e))

pub old_bytes : (r : Repo) (digest bytes : Text) → is_some (get r.manifests digest) ≡ true → with_bytes r digest bytes ≡ r
old_bytes r digest bytes there = ap (λ b. cond b r (record r { manifests = insert r.manifests digest bytes })) there

-- a tag uses nothing
pub used_with_tag : (r : Repo) (tag : Option Text) (digest : Text) → used (with_tag r tag digest) ≡ used r
used_with_tag r None digest = refl
used_with_tag r (Some tag) digest = refl

-- ---- what goes over the quota

over_by : (u n q a g : ℕ) → n + g ≡ u + a → (nat_lt u n && nat_lt q n) ≡ (nat_lt g a && nat_lt (q + g) (u + a))
over_by u n q a g e = grind (arith, nat_tests)

pub over_is : (r new : Repo) (added gone : ℕ) → used new + gone ≡ used r + added → goes_over r new ≡ grows_over r added gone
over_is r new added gone e = over_by (used r) (used new) r.quota added gone e

none_of : (o : Option Text) → is_some o ≡ false → o ≡ None
none_of None e = refl
none_of (Some x) e = absurd (cc)

by_room : (b : Bool) (q n a g : ℕ) → g < a → b ≡ nat_lt q (n + (a - g)) → b ≡ (nat_lt g a && nat_lt (q + g) (n + a))
by_room b q n a g h e = grind (arith, nat_tests)

-- what the used bytes and the quota tell
pub told_over : (o : Option Repo) (u : Usage) (added gone : ℕ) (b : Bool) → u ≡ option_map_or usage_of o no_usage → gone < added
    → ((n : ℕ) → u.used ≡ in_64_bits n → b ≡ nat_lt u.quota (n + (added - gone))) → b ≡ option_map_or (λ r. grows_over r added gone) o (nat_lt gone added)
told_over None u added gone b is more says = says 0 (ap (λ x. x.used) is) ∙ ap (λ x. nat_lt x.quota (0 + (added - gone))) is ∙ grind (arith, nat_tests)
told_over (Some r) u added gone b is more says =
    by_room b r.quota (used r) added gone more (says (used r) (ap (λ x. x.used) is) ∙ ap (λ x. nat_lt x.quota (used r + (added - gone))) is)

-- what is there adds nothing, and what would not go over is not asked for
nothing_over : (o : Option Repo) (gone : ℕ) → option_map_or (λ r. grows_over r 0 gone) o (nat_lt gone 0) ≡ false
nothing_over None gone = grind (arith, nat_tests)
nothing_over (Some r) gone = grind (arith, nat_tests)

pub over_if_there : {A : Type 0} (w : World) (name : Text) (there : Option Text) (show : Text → A) (found : Option A) (size gone : ℕ) → found ≡ option_map show there → true ≡ grows_over_at w name size gone
    → is_none found ≡ grows_over_at w name (new_length there size) gone
over_if_there w name None show found size gone e over = ap is_none e ∙ over
over_if_there w name (Some bytes) show found size gone e over = ap is_none e ∙ sym (nothing_over (repo_at w name) gone)

pub within_if_there : (w : World) (name : Text) (there : Option Text) (size gone : ℕ) → false ≡ grows_over_at w name size gone → false ≡ grows_over_at w name (new_length there size) gone
within_if_there w name None size gone within = within
within_if_there w name (Some bytes) size gone within = sym (nothing_over (repo_at w name) gone)

-- a whole push, or a mount
pub push_over : (r : Repo) (digest bytes : Text) → goes_over r (with_blob r digest bytes) ≡ grows_over r (new_length (get r.blobs digest) (length bytes)) 0
push_over r digest bytes = by_test (is_some (get r.blobs digest)) refl
  where
    by_test : (b : Bool) → is_some (get r.blobs digest) ≡ b → goes_over r (with_blob r digest bytes) ≡ grows_over r (cond b 0 (length bytes)) 0
    by_test true e = over_is r (with_blob r digest bytes) 0 0 (ap (λ x. used x + 0) (old_blob r digest bytes e))
    by_test false e = over_is r (with_blob r digest bytes) (length bytes) 0 (omega (arith, used_new_blob r digest bytes (none_of _ e)))

-- the end of a session
pub finish_over : (r : Repo) (number : ℕ) (digest bytes before : Text) → get r.sessions number ≡ Some before
    → goes_over r (finished r number digest bytes) ≡ grows_over r (new_length (get r.blobs digest) (length bytes)) (length before)
finish_over r number digest bytes before there = by_test (is_some (get r.blobs digest)) refl
  where
    left : used (record r { sessions = remove r.sessions number }) + length before ≡ used r
    left = used_without_session r number before there

    by_test : (b : Bool) → is_some (get r.blobs digest) ≡ b → goes_over r (finished r number digest bytes) ≡ grows_over r (cond b 0 (length bytes)) (length before)
    by_test true e =
        let same = ap used (old_blob (record r { sessions = remove r.sessions number }) digest bytes e) in
        over_is r (finished r number digest bytes) 0 (length before) (omega (arith, same, left))
    by_test false e =
        let more = used_new_blob (record r { sessions = remove r.sessions number }) digest bytes (none_of _ e) in
        over_is r (finished r number digest bytes) (length bytes) (length before) (omega (arith, more, left))

-- a chunk
pub append_over : (r : Repo) (number : ℕ) (bytes more : Text) → get r.sessions number ≡ Some bytes
    → goes_over r (appended r number (bytes ++ more)) ≡ grows_over r (length more) 0
append_over r number bytes more there = over_is r (appended r number (bytes ++ more)) (length more) 0 (omega (arith, used_appended r number bytes more there))

-- a manifest
pub manifest_over : (r : Repo) (digest bytes : Text) (tag : Option Text)
    → goes_over r (with_manifest r digest bytes tag) ≡ grows_over r (new_length (get r.manifests digest) (length bytes)) 0
manifest_over r digest bytes tag = by_test (is_some (get r.manifests digest)) refl
  where
    tagged : used (with_manifest r digest bytes tag) ≡ used (with_bytes r digest bytes)
    tagged = used_with_tag (with_bytes r digest bytes) tag digest

    by_test : (b : Bool) → is_some (get r.manifests digest) ≡ b → goes_over r (with_manifest r digest bytes tag) ≡ grows_over r (cond b 0 (length bytes)) 0
    by_test true e = over_is r (with_manifest r digest bytes tag) 0 0 (let same = ap used (old_bytes r digest bytes e) in omega (arith, same, tagged))
    by_test false e = over_is r (with_manifest r digest bytes tag) (length bytes) 0 (let more = used_new_bytes r digest bytes (none_of _ e) in omega (arith, more, tagged))
