-- What is known of usages, of the world after a change.
use Rattle.std.proofs.Common.{◌≡◌, ◌≢◌, ◌∙◌, ◌<◌, ◌+◌, ℕ, length, min, Bool, true, false, cond, None, Some, Ok, Err, Result, OnOk, refl, sym, ap, subst, arith}
use Rattle.std.specs.Prelude.{Option, option_map, is_some, IfSome}
use Rattle.std.specs.Option.{option_and_then, option_map_or}
use Rattle.std.specs.Ordering.{eq_by_cmp, nat_cmp}
use Rattle.std.specs.Cmp.{eq_by_cmp_equiv}
use Rattle.std.specs.FinMap.{get, remove, get-insert, get-remove, len-empty}
use Rattle.std.proofs.lemmas.Bool.Decides.{nat_tests}
use Rattle.oci_types.specs.Text.{Text}
use Rattle.oci_types.specs.declared.kind.Kind.{Kind}
use Rattle.oci_types.specs.declared.fault.Fault.{Fault}
use Rattle.oci_types.specs.declared.fault.Fault.TheVariants.{Memory, Storage}
use Rattle.sqlite.specs.State.{State}
use Rattle.registry_model.specs.World.{Repo, World, text_cmp, repo_at, has_repo, new_repo, with_repo, update_repo}
use Rattle.registry_model.specs.declared.quota.Usage.{Usage}
use Rattle.registry_model.specs.Usage.{used, usage_of, in_64_bits}
use Rattle.registry_model.specs.Manifests.{kind_in}
use Rattle.registry_model.specs.Command.{set_repo, with_quota}
use Rattle.registry_model.specs.Lookups.{blob_at, manifest_at, tag_at, usage_at, no_usage}
use Rattle.registry_model.proofs.TextOrder.{text_total, same_key}
use Rattle.store_contents.specs.Layouts.{Layout}
use Rattle.store_statements.specs.Held.{IsSettled, StaysSettled, SettlesOn, is_storage, world_in}
use Rattle.store_reads.specs.declared.usage_change.Change.{Change}
use Rattle.registry_store.specs.declared.known_usages.KnownUsages.{KnownUsages}
use Rattle.store_reads.specs.Usages.{Turns, Foretells}
use Rattle.registry_store.specs.Usages.{known_at, Knows, Sets, Applies, IsNext, HasQuota}
use Rattle.store_reads.proofs.Foretold.{later}
use Rattle.registry_model.proofs.MapSums.{sum_empty}

-- ---- numbers

as_min : (n : ℕ) → in_64_bits n ≡ min n 18446744073709551615
as_min n = grind (arith, nat_tests)

bytes_after : (n m x y a g : ℕ) → x ≡ in_64_bits n → x < 18446744073709551615 → y + g ≡ x + a → m + g ≡ n + a → y < 18446744073709551616 → y ≡ in_64_bits m
bytes_after n m x y a g is exact told made fits =
    let was : x ≡ min n 18446744073709551615 = is ∙ as_min n in
    least n m x y a g was exact told made fits ∙ sym (as_min m)
  where
    least : (n m x y a g : ℕ) → x ≡ min n 18446744073709551615 → x < 18446744073709551615 → y + g ≡ x + a → m + g ≡ n + a → y < 18446744073709551616 → y ≡ min m 18446744073709551615
    least n m x y a g was exact told made fits = omega arith

-- a usage that was changed as the repository is the repository's
applied : (c : Change) (r s : Repo) (v u : Usage) → v ≡ usage_of r → Applies c v u → Turns c r s → u ≡ usage_of s
applied c r s v u is a t =
    let bytes = bytes_after (used r) (used s) v.used u.used c.added c.gone (ap (λ x. x.used) is) a.exact a.bytes t.bytes a.fits in
    let quota = a.quota ∙ ap (λ x. x.quota) is ∙ sym t.quota in
    let blobs = same_rest c.blobs_gone _ _ (a.blobs ∙ ap (λ x. x.blobs + c.blobs) is ∙ sym t.blobs) in
    let manifests = same_rest c.manifests_gone _ _ (a.manifests ∙ ap (λ x. x.manifests + c.manifests) is ∙ sym t.manifests) in
    let tags = same_rest c.tags_gone _ _ (a.tags ∙ ap (λ x. x.tags + c.tags) is ∙ sym t.tags) in
    let sessions = same_rest c.ended _ _ (a.sessions ∙ ap (λ x. x.sessions + c.opened) is ∙ sym t.sessions) in
    λ i. record { used = bytes i; quota = quota i; blobs = blobs i; manifests = manifests i; tags = tags i; sessions = sessions i }
  where
    same_rest : (k m n : ℕ) → m + k ≡ n + k → m ≡ n
    same_rest k m n e = omega arith

-- ---- other repositories

other_name : (q name : Text) → q ≢ name → eq_by_cmp text_cmp q name ≡ false
other_name q name apart = by (eq_by_cmp text_cmp q name) refl
  where
    by : (b : Bool) → eq_by_cmp text_cmp q name ≡ b → b ≡ false
    by true e = absurd (apart (same_key q name e))
    by false e = refl

module _ (w : World) (name : Text) where
  pub beside_put : (r : Repo) (q : Text) → q ≢ name → repo_at (with_repo w name r) q ≡ repo_at w q
  beside_put r q apart = get-insert text_total w.repos name r q ∙ ap (λ b. cond b (Some r) (get w.repos q)) (other_name q name apart)

  pub beside_gone : (q : Text) → q ≢ name → get (remove w.repos name) q ≡ repo_at w q
  beside_gone q apart = get-remove text_total w.repos name q ∙ ap (λ b. cond b None (get w.repos q)) (other_name q name apart)

  put_there : (r : Repo) → repo_at (with_repo w name r) name ≡ Some r
  put_there r = get-insert text_total w.repos name r name ∙ ap (λ b. cond b (Some r) (get w.repos name)) ((eq_by_cmp_equiv text_total).refl name)

usage_from : (w : World) (q : Text) (o : Option Repo) → repo_at w q ≡ o → usage_at w q ≡ option_map_or usage_of o no_usage
usage_from w q o e = ap (λ x. option_map_or usage_of x no_usage) e

-- ---- what is known

-- of one name it is so, and the world has of all others what it had
pub set_knows : (old new : KnownUsages) (w after : World) (name : Text) (IsSo : Usage → Type 0) → Knows old w → Sets old new name IsSo
    → ((q : Text) → q ≢ name → repo_at after q ≡ repo_at w q) → ((u : Usage) → IsSo u → u ≡ usage_at after name) → Knows new after
set_knows old new w after name IsSo knows sets same so q u is = by (eq_by_cmp text_cmp q name) refl
  where
    by : (b : Bool) → eq_by_cmp text_cmp q name ≡ b → u ≡ usage_at after q
    by true e = let at = same_key q name e in so u (sets.here u (ap (known_at new) (sym at) ∙ is)) ∙ ap (usage_at after) (sym at)
    by false e =
        let apart : q ≢ name = λ at. let bad : true ≡ false = sym (ap (λ x. eq_by_cmp text_cmp x name) at ∙ (eq_by_cmp_equiv text_total).refl name) ∙ e in absurd cc in
        knows q u (sets.others q u apart is) ∙ sym (usage_from after q (repo_at w q) (same q apart))

-- a change that was foretold
next_is : (w : World) (name : Text) (r : Repo) (f : Repo → Repo) (o : Option Usage) (change : Option Change) (u : Usage) → repo_at w name ≡ Some r → ((v : Usage) → o ≡ Some v → v ≡ usage_at w name)
    → IfSome change (Foretells w name f) → IsNext o change u → u ≡ usage_at (with_repo w name (f r)) name
next_is w name r f None change u at was told next = absurd next
next_is w name r f (Some v) None u at was told next = absurd next
next_is w name r f (Some v) (Some c) u at was told next =
    applied c r (f r) v u (was v refl ∙ usage_from w name (Some r) at) next (told r at) ∙ sym (usage_from (with_repo w name (f r)) name (Some (f r)) (put_there w name (f r)))

followed : (old new : KnownUsages) (w : World) (name : Text) (f : Repo → Repo) (change : Option Change) → Knows old w → has_repo w name ≡ true
    → IfSome change (Foretells w name f) → Sets old new name (IsNext (known_at old name) change) → Knows new (update_repo w name f (repo_at w name))
followed old new w name f change knows there told sets = by (repo_at w name) refl there
  where
    by : (o : Option Repo) → repo_at w name ≡ o → is_some o ≡ true → Knows new (update_repo w name f o)
    by None at h = absurd cc
    by (Some r) at h =
        set_knows old new w (with_repo w name (f r)) name (IsNext (known_at old name) change) knows sets (beside_put w name (f r))
        (λ u next. next_is w name r f (known_at old name) change u at (λ v e. knows name v e) told next)

-- after a write that was foretold
pub follows : (l : Layout) (old new : KnownUsages) (s : State) (w : World) (name : Text) (f : Repo → Repo) (change : Option Change) → Knows old w → has_repo w name ≡ true
    → IfSome change (Foretells w name f) → Sets old new name (IsNext (known_at old name) change) → world_in l s ≡ update_repo w name f (repo_at w name) → Knows new (world_in l s)
follows l old new s w name f change knows there told sets made = subst (Knows new) (sym made) (followed old new w name f change knows there told sets)

-- a fault that is no failure of the storage
pub unfollowed : {A : Type 0} (l : Layout) (known : KnownUsages) (old new : State) (f : Fault) → Knows known (world_in l old) → is_storage {A = A} (Err f) ≡ false
    → (◌≡◌ {A = Result A Fault} (Err f) (Err Memory) → StaysSettled l old new) → Knows known (world_in l new)
unfollowed l known old new Memory knows sound stays = later l (Knows known) old new (stays refl).1 knows
unfollowed l known old new Storage knows sound stays = absurd cc

-- a write to a repository that was forgotten
pub forgets : {A : Type 0} (l : Layout) (old new : KnownUsages) (before after : State) (name : Text) (f : World → World) (answer : Result A Fault) → Knows old (world_in l before) → Sets old new name (λ _. ⊥)
    → ((q : Text) → q ≢ name → repo_at (f (world_in l before)) q ≡ repo_at (world_in l before) q) → is_storage answer ≡ false
    → OnOk answer (SettlesOn l after (f (world_in l before))) → (answer ≡ Err Memory → StaysSettled l before after) → Knows new (world_in l after)
forgets l old new before after name f (Ok v) knows sets same sound made stays =
    subst (Knows new) (sym made.1) (set_knows old new (world_in l before) (f (world_in l before)) name (λ _. ⊥) knows sets same (λ u none. absurd none))
forgets l old new before after name f (Err Memory) knows sets same sound made stays =
    later l (Knows new) before after (stays refl).1 (set_knows old new (world_in l before) (world_in l before) name (λ _. ⊥) knows sets (λ q apart. refl) (λ u none. absurd none))
forgets l old new before after name f (Err Storage) knows sets same sound made stays = absurd cc

-- a usage that was read is kept
pub keeps : (l : Layout) (old new : KnownUsages) (before after : State) (name : Text) (usage : Usage) → Knows old (world_in l before) → Sets old new name (λ u. u ≡ usage) → usage ≡ usage_at (world_in l before) name
    → after.now ≡ before.now → Knows new (world_in l after)
keeps l old new before after name usage knows sets is same =
    later l (Knows new) before after same (set_knows old new (world_in l before) (world_in l before) name (λ u. u ≡ usage) knows sets (λ q apart. refl) (λ u e. e ∙ is))

-- ---- what is there is in a repository that is there

module _ (w : World) (name : Text) where
  has_then : {A : Type 0} (f : Repo → Option A) → is_some (option_and_then f (repo_at w name)) ≡ true → has_repo w name ≡ true
  has_then {A} f = by (repo_at w name)
    where
      by : (o : Option Repo) → is_some (option_and_then f o) ≡ true → is_some o ≡ true
      by None there = there
      by (Some r) there = refl

  pub blob_has_repo : (digest : Text) → is_some (blob_at w name digest) ≡ true → has_repo w name ≡ true
  blob_has_repo digest = has_then (λ r. get r.blobs digest)

  pub tag_has_repo : (tag : Text) → is_some (tag_at w name tag) ≡ true → has_repo w name ≡ true
  tag_has_repo tag = has_then (λ r. get r.tags tag)

  pub manifest_has_repo : (digest : Text) → is_some (manifest_at w name digest) ≡ true → has_repo w name ≡ true
  manifest_has_repo digest there = has_then (λ r. get r.manifests digest) (by (option_and_then (λ (r : Repo). get r.manifests digest) (repo_at w name)) there)
    where
      by : (o : Option Text) → is_some (option_map {U = Kind × Text} (λ bytes. (kind_in bytes, bytes)) o) ≡ true → is_some o ≡ true
      by None h = h
      by (Some bytes) h = refl

-- ---- a quota that was set

-- an empty repository holds nothing
new_usage : (quota : ℕ) → usage_of (new_repo quota) ≡ record no_usage { quota = quota }
new_usage quota = λ i. record {
  used = in_64_bits (sum_empty text_cmp (length {A = ℕ}) i + sum_empty text_cmp (length {A = ℕ}) i + sum_empty nat_cmp (length {A = ℕ}) i);
  quota = quota;
  blobs = len-empty text_cmp Text i;
  manifests = len-empty text_cmp Text i;
  tags = len-empty text_cmp Text i;
  sessions = len-empty nat_cmp Text i;
}

usage_set : (w : World) (name : Text) (quota : ℕ) → usage_at (set_repo w name quota) name ≡ record (usage_at w name) { quota = quota }
usage_set w name quota = usage_from (set_repo w name quota) name _ (put_there w name (with_quota (repo_at w name) quota)) ∙ by (repo_at w name)
  where
    by : (o : Option Repo) → usage_of (with_quota o quota) ≡ record (option_map_or usage_of o no_usage) { quota = quota }
    by None = new_usage quota
    by (Some r) = refl

requoted : (old new : KnownUsages) (w : World) (name : Text) (quota : ℕ) → Knows old w → Sets old new name (HasQuota quota (known_at old name)) → Knows new (set_repo w name quota)
requoted old new w name quota knows sets =
    set_knows old new w (set_repo w name quota) name (HasQuota quota (known_at old name)) knows sets (beside_put w name (with_quota (repo_at w name) quota))
    (λ u has. by u (known_at old name) (λ v e. knows name v e) has ∙ sym (usage_set w name quota))
  where
    by : (u : Usage) (o : Option Usage) → ((v : Usage) → o ≡ Some v → v ≡ usage_at w name) → HasQuota quota o u → u ≡ record (usage_at w name) { quota = quota }
    by u None was has = absurd has
    by u (Some v) was has = has ∙ ap (λ (x : Usage). record x { quota = quota }) (was v refl)

-- after the write
pub requotes : (l : Layout) (old new : KnownUsages) (before after : State) (name : Text) (quota : ℕ) → Knows old (world_in l before) → Sets old new name (HasQuota quota (known_at old name))
    → world_in l after ≡ set_repo (world_in l before) name quota → Knows new (world_in l after)
requotes l old new before after name quota knows sets made = subst (Knows new) (sym made) (requoted old new (world_in l before) name quota knows sets)

-- ---- what holds of a store

-- after a read
pub still_knows : (l : Layout) (known : KnownUsages) (old new : State) → StaysSettled l old new → Knows known (world_in l old) → IsSettled l new × Knows known (world_in l new)
still_knows l known old new stays knows = (stays.0, later l (Knows known) old new stays.1 knows)

-- after a write to no repository
pub untouched : {A : Type 0} (l : Layout) (known : KnownUsages) (old new : State) (f : World → World) (answer : Result A Fault) → Knows known (world_in l old) → Knows known (f (world_in l old)) → is_storage answer ≡ false
    → OnOk answer (SettlesOn l new (f (world_in l old))) → (answer ≡ Err Memory → StaysSettled l old new) → Knows known (world_in l new)
untouched l known old new f (Ok v) knows after sound made stays = subst (Knows known) (sym made.1) after
untouched l known old new f (Err Memory) knows after sound made stays = later l (Knows known) old new (stays refl).1 knows
untouched l known old new f (Err Storage) knows after sound made stays = absurd cc
