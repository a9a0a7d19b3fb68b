-- What chains of steps leave of a world: elsewhere all, and at their repository what came.
use Rattle.std.proofs.Common.{◌≡◌, ◌≢◌, ◌∙◌, ◌⊎◌, inl, inr, List, [], ◌∷◌, map, Bool, true, false, Option, Some, None, refl, sym, ap, subst}
use Rattle.std.specs.Prelude.{is_some, bytes_eq, if◌then◌else◌}
use Rattle.std.specs.List.{AllByRecursion}
use Rattle.std.specs.FinMap.{FinMap, get, insert}
use Rattle.std.proofs.lemmas.Slice.Eq.{bytes_eq-Decides}
use Rattle.oci_types.specs.Text.{Text}
use Rattle.registry_model.specs.declared.level.Level.{Level}
use Rattle.registry_model.specs.World.{Repo, World, text_cmp, repo_at, level_at, with_repo, update_repo}
use Rattle.registry_model.specs.Blobs.{with_blob}
use Rattle.registry_model.specs.Manifests.{with_bytes, with_manifest}
use Rattle.registry_model.specs.Lookups.{blob_at, manifest_bytes_at, put_blob, put_manifest}
use Rattle.registry_model.specs.Command.{grant}
use Rattle.registry_model.proofs.ChangedMaps.{stays_there}
use Rattle.registry_model.proofs.TextOrder.{text_total, exact_texts, bytes_same}
use Rattle.registry_copy.specs.Steps.{Chain, KeepsRepos}
use Rattle.registry_copy.specs.Parts.{BlobComes, ManifestComes, TagComes, LevelComes, ContentComes}
use Rattle.registry_copy.specs.declared.contents.ContentKind.TheVariants.{Manifest}
use Rattle.registry_copy.proofs.KeyLemmas.{got_same, got_other, Within, Gains, no_gain, gains_more, one_gain}

-- ---- elsewhere

-- nothing changed but what is under this name
pub record Elsewhere (name : Text) (w w' : World) : Type 0 where
  pub repos : (q : Text) → q ≢ name → repo_at w' q ≡ repo_at w q
  pub levels : (token q : Text) → q ≢ name → level_at w' token q ≡ level_at w token q

pub nothing_elsewhere : (name : Text) (w w' : World) → w' ≡ w → Elsewhere name w w'
nothing_elsewhere name w w' e = record {
  repos = λ q ne. ap (λ x. repo_at x q) e;
  levels = λ token q ne. ap (λ x. level_at x token q) e;
}

pub then_elsewhere : (name : Text) (w m w' : World) → Elsewhere name w m → Elsewhere name m w' → Elsewhere name w w'
then_elsewhere name w m w' one two = record {
  repos = λ q ne. two.repos q ne ∙ one.repos q ne;
  levels = λ token q ne. two.levels token q ne ∙ one.levels token q ne;
}

pub put_elsewhere : (name : Text) (w : World) (r : Repo) → Elsewhere name w (with_repo w name r)
put_elsewhere name w r = record { repos = λ q ne. got_other w.repos name r q ne; levels = λ token q ne. refl }

pub update_elsewhere : (name : Text) (w : World) (change : Repo → Repo) (o : Option Repo) → Elsewhere name w (update_repo w name change o)
update_elsewhere name w change None = nothing_elsewhere name w w refl
update_elsewhere name w change (Some r) = put_elsewhere name w (change r)

pub grant_elsewhere : (name token : Text) (w : World) (level : Level) → Elsewhere name w (grant w token name level)
grant_elsewhere name token w level = record { repos = λ q ne. refl; levels = λ t q ne. by t q ne (bytes_eq t token) refl }
  where
    by : (t q : Text) → q ≢ name → (b : Bool) → bytes_eq t token ≡ b → get (if b then insert (w.grants token) name level else w.grants t) q ≡ get (w.grants t) q
    by t q ne true e = got_other (w.grants token) name level q ne ∙ ap (λ x. get (w.grants x) q) (sym (bytes_same t token e))
    by t q ne false e = refl

pub as_elsewhere : (name : Text) (w v w' : World) → w' ≡ v → Elsewhere name w v → Elsewhere name w w'
as_elsewhere name w v w' e h = subst (λ x. Elsewhere name w x) (sym e) h

pub chain_elsewhere : {E : Type 0} (Step : E → World → World → Type 0) (name : Text) → ((e : E) (w m : World) → Step e w m → Elsewhere name w m)
    → (es : List E) (w w' : World) → Chain Step es w w' → Elsewhere name w w'
chain_elsewhere Step name each [] w w' h = nothing_elsewhere name w w' h
chain_elsewhere Step name each (e ∷ es) w w' (m, step, rest) =
    then_elsewhere name w m w' (each e w m step) (chain_elsewhere Step name each es m w' rest)

pub blob_elsewhere : (a : World) (name digest : Text) (w w' : World) → BlobComes a name digest w w' → Elsewhere name w w'
blob_elsewhere a name digest w w' (bytes, at, is) =
    as_elsewhere name w _ w' is (update_elsewhere name w (λ r. with_blob r digest bytes) (repo_at w name))

pub manifest_elsewhere : (a : World) (name digest : Text) (tag : Option Text) (w w' : World) → ManifestComes a name digest tag w w' → Elsewhere name w w'
manifest_elsewhere a name digest tag w w' (bytes, at, is) =
    as_elsewhere name w _ w' is (update_elsewhere name w (λ r. with_manifest r digest bytes tag) (repo_at w name))

-- ---- no repository goes

pub keeps_put : (w : World) (name : Text) (r : Repo) → KeepsRepos w (with_repo w name r)
keeps_put w name r q there = stays_there text_total exact_texts w.repos name r q there

pub keeps_updated : (w : World) (name : Text) (change : Repo → Repo) (o : Option Repo) → KeepsRepos w (update_repo w name change o)
keeps_updated w name change None q there = there
keeps_updated w name change (Some r) q there = keeps_put w name (change r) q there

-- ---- at the repository

-- the repository of the name is this, and the levels are those of the world w0
pub record Stands (w0 w : World) (name : Text) (r : Repo) : Type 0 where
  pub here : repo_at w name ≡ Some r
  pub grants : w.grants ≡ w0.grants

pub stands_as : (w0 w w' : World) (name : Text) (r : Repo) → w' ≡ w → Stands w0 w name r → Stands w0 w' name r
stands_as w0 w w' name r e s = subst (λ x. Stands w0 x name r) (sym e) s

pub stands_put : (w0 w : World) (name : Text) (r : Repo) → w.grants ≡ w0.grants → Stands w0 (with_repo w name r) name r
stands_put w0 w name r e = record { here = got_same w.repos name r; grants = e }

pub stands_updated : (w0 w : World) (name : Text) (change : Repo → Repo) (r : Repo) → Stands w0 w name r → Stands w0 (update_repo w name change (repo_at w name)) name (change r)
stands_updated w0 w name change r s =
    subst (λ o. Stands w0 (update_repo w name change o) name (change r)) (sym s.here) (stands_put w0 w name (change r) s.grants)

-- what a map has where a key that is there keeps its value
abbrev pub added : FinMap text_cmp Text → Text → Text → FinMap text_cmp Text
added m k v = if is_some (get m k) then m else insert m k v

pub added_gains : (m n : FinMap text_cmp Text) (k v : Text) → get n k ≡ Some v → Within (get m) (get n) → Gains (get m) (get (added m k v)) (get n) × (get (added m k v) k ≡ get n k)
added_gains m n k v at within = by (is_some (get m k)) refl
  where
    there : is_some (get m k) ≡ true → (get m k ≡ None) ⊎ (get m k ≡ get n k) → get m k ≡ get n k
    there e (inl none) = absurd (let bad : true ≡ false = sym e ∙ ap is_some none in cc)
    there e (inr is) = is

    by : (b : Bool) → is_some (get m k) ≡ b → Gains (get m) (get (if b then m else insert m k v)) (get n) × (get (if b then m else insert m k v) k ≡ get n k)
    by true e = (no_gain (get m) (get n) within, there e (within k))
    by false e =
        let same : get (insert m k v) k ≡ get n k = got_same m k v ∙ sym at in
        (one_gain (get m) (get (insert m k v)) (get n) k same (got_other m k v) within, same)

blob_added : (r : Repo) (digest bytes : Text) → with_blob r digest bytes ≡ record r { blobs = added r.blobs digest bytes }
blob_added r digest bytes = by (is_some (get r.blobs digest))
  where
    by : (b : Bool) → (if b then r else record r { blobs = insert r.blobs digest bytes }) ≡ record r { blobs = if b then r.blobs else insert r.blobs digest bytes }
    by true = refl
    by false = refl

manifest_added : (r : Repo) (digest bytes : Text) → with_bytes r digest bytes ≡ record r { manifests = added r.manifests digest bytes }
manifest_added r digest bytes = by (is_some (get r.manifests digest))
  where
    by : (b : Bool) → (if b then r else record r { manifests = insert r.manifests digest bytes }) ≡ record r { manifests = if b then r.manifests else insert r.manifests digest bytes }
    by true = refl
    by false = refl

manifest_there : (r : Repo) (digest bytes : Text) → is_some (get r.manifests digest) ≡ true → with_bytes r digest bytes ≡ r
manifest_there r digest bytes e = ap (λ b. if b then r else record r { manifests = insert r.manifests digest bytes }) e

-- the blobs of the repository became b, as far as the keys go
pub record BlobsStand (w0 w' : World) (name : Text) (r : Repo) (n : Text → Option Text) (ds : List Text) : Type 0 where
  pub map : FinMap text_cmp Text
  pub stands : Stands w0 w' name (record r { blobs = map })
  pub gains : Gains (get r.blobs) (get map) n
  pub all : AllByRecursion (λ d. get map d ≡ n d) ds

pub blobs_stand : (a : World) (name : Text) (n : FinMap text_cmp Text) → ((d : Text) → blob_at a name d ≡ get n d)
    → (ds : List Text) (w0 w w' : World) (r : Repo) → Stands w0 w name r → Within (get r.blobs) (get n)
    → Chain (BlobComes a name) ds w w' → BlobsStand w0 w' name r (get n) ds
blobs_stand a name n is [] w0 w w' r s within h =
    record { map = r.blobs; stands = stands_as w0 w w' name r h s; gains = no_gain (get r.blobs) (get n) within; all = tt }
blobs_stand a name n is (d ∷ ds) w0 w w' r s within (m, (bytes, at, put), rest) =
    let r1 = record r { blobs = added r.blobs d bytes } in
    let one = added_gains r.blobs n d bytes (sym (is d) ∙ at) within in
    let s1 : Stands w0 m name r1 =
    stands_as w0 (put_blob w name d bytes) m name r1 put
    (subst (λ x. Stands w0 (put_blob w name d bytes) name x) (blob_added r d bytes) (stands_updated w0 w name (λ x. with_blob x d bytes) r s)) in
    let more = blobs_stand a name n is ds w0 m w' r1 s1 one.0.within rest in
    record {
      map = more.map;
      stands = more.stands;
      gains = gains_more (get r.blobs) (get r1.blobs) (get more.map) (get n) one.0 more.gains;
      all = (more.gains.kept d one.1, more.all);
    }

pub record ManifestsStand (w0 w' : World) (name : Text) (r : Repo) (n : Text → Option Text) (ds : List Text) : Type 0 where
  pub map : FinMap text_cmp Text
  pub stands : Stands w0 w' name (record r { manifests = map })
  pub gains : Gains (get r.manifests) (get map) n
  pub all : AllByRecursion (λ d. get map d ≡ n d) ds

pub manifests_stand : (a : World) (name : Text) (n : FinMap text_cmp Text) → ((d : Text) → manifest_bytes_at a name d ≡ get n d)
    → (ds : List Text) (w0 w w' : World) (r : Repo) → Stands w0 w name r → Within (get r.manifests) (get n)
    → Chain (ContentComes Manifest a name) ds w w' → ManifestsStand w0 w' name r (get n) ds
manifests_stand a name n is [] w0 w w' r s within h =
    record { map = r.manifests; stands = stands_as w0 w w' name r h s; gains = no_gain (get r.manifests) (get n) within; all = tt }
manifests_stand a name n is (d ∷ ds) w0 w w' r s within (m, (bytes, at, put), rest) =
    let r1 = record r { manifests = added r.manifests d bytes } in
    let one = added_gains r.manifests n d bytes (sym (is d) ∙ at) within in
    let s1 : Stands w0 m name r1 =
    stands_as w0 (put_manifest w name d bytes None) m name r1 put
    (subst (λ x. Stands w0 (put_manifest w name d bytes None) name x) (manifest_added r d bytes) (stands_updated w0 w name (λ x. with_manifest x d bytes None) r s)) in
    let more = manifests_stand a name n is ds w0 m w' r1 s1 one.0.within rest in
    record {
      map = more.map;
      stands = more.stands;
      gains = gains_more (get r.manifests) (get r1.manifests) (get more.map) (get n) one.0 more.gains;
      all = (more.gains.kept d one.1, more.all);
    }

-- tags, where the repository has all manifests
pub record TagsStand (w0 w' : World) (name : Text) (r : Repo) (n : Text → Option Text) (ks : List Text) : Type 0 where
  pub map : FinMap text_cmp Text
  pub stands : Stands w0 w' name (record r { tags = map })
  pub gains : Gains (get r.tags) (get map) n
  pub all : AllByRecursion (λ k. get map k ≡ n k) ks

pub tags_stand : (a : World) (name : Text) (n : FinMap text_cmp Text)
    → (es : List (Text × Text)) (w0 w w' : World) (r : Repo) → Stands w0 w name r → Within (get r.tags) (get n) → ((d : Text) → manifest_bytes_at a name d ≡ get r.manifests d)
    → AllByRecursion (λ e. get n e.0 ≡ Some e.1) es
    → Chain (TagComes a name) es w w' → TagsStand w0 w' name r (get n) (map (λ e. e.0) es)
tags_stand a name n [] w0 w w' r s within is found h =
    record { map = r.tags; stands = stands_as w0 w w' name r h s; gains = no_gain (get r.tags) (get n) within; all = tt }
tags_stand a name n (e ∷ es) w0 w w' r s within is found (m, (bytes, at, put), rest) =
    let r1 = record r { tags = insert r.tags e.0 e.1 } in
    let same : get (insert r.tags e.0 e.1) e.0 ≡ get n e.0 = got_same r.tags e.0 e.1 ∙ sym found.0 in
    let one = one_gain (get r.tags) (get (insert r.tags e.0 e.1)) (get n) e.0 same (got_other r.tags e.0 e.1) within in
    let there : with_manifest r e.1 bytes (Some e.0) ≡ r1 =
    ap (λ (x : Repo). record x { tags = insert x.tags e.0 e.1 }) (manifest_there r e.1 bytes (ap is_some (sym (is e.1) ∙ at))) in
    let s1 : Stands w0 m name r1 =
    stands_as w0 (put_manifest w name e.1 bytes (Some e.0)) m name r1 put
    (subst (λ x. Stands w0 (put_manifest w name e.1 bytes (Some e.0)) name x) there (stands_updated w0 w name (λ x. with_manifest x e.1 bytes (Some e.0)) r s)) in
    let more = tags_stand a name n es w0 m w' r1 s1 one.within is found.1 rest in
    record {
      map = more.map;
      stands = more.stands;
      gains = gains_more (get r.tags) (get r1.tags) (get more.map) (get n) one more.gains;
      all = (more.gains.kept e.0 same, more.all);
    }

-- ---- levels

pub record LevelsStand (w w' : World) (name : Text) (n : Text → Option Level) (ks : List Text) : Type 0 where
  pub repos : w'.repos ≡ w.repos
  pub gains : Gains (λ token. level_at w token name) (λ token. level_at w' token name) n
  pub all : AllByRecursion (λ token. level_at w' token name ≡ n token) ks

given : (w : World) (token name : Text) (level : Level) → level_at (grant w token name level) token name ≡ Some level
given w token name level = ap (λ b. get (if b then insert (w.grants token) name level else w.grants token) name) ((bytes_eq-Decides token token).1 refl) ∙ got_same (w.grants token) name level

not_given : (w : World) (token name : Text) (level : Level) (other : Text) → other ≢ token → level_at (grant w token name level) other name ≡ level_at w other name
not_given w token name level other ne = by (bytes_eq other token) refl
  where
    by : (b : Bool) → bytes_eq other token ≡ b → get (if b then insert (w.grants token) name level else w.grants other) name ≡ get (w.grants other) name
    by true e = absurd (ne (bytes_same other token e))
    by false e = refl

pub levels_stand : (name : Text) (n : Text → Option Level) (ls : List (Text × Level)) (w w' : World) → AllByRecursion (λ l. n l.0 ≡ Some l.1) ls
    → Within (λ token. level_at w token name) n → Chain (LevelComes name) ls w w' → LevelsStand w w' name n (map (λ l. l.0) ls)
levels_stand name n [] w w' found within h =
    subst (λ x. LevelsStand w x name n []) (sym h) (record { repos = refl; gains = no_gain (λ token. level_at w token name) n within; all = tt })
levels_stand name n (l ∷ ls) w w' found within (m, is, rest) =
    let same : level_at m l.0 name ≡ n l.0 = ap (λ x. level_at x l.0 name) is ∙ given w l.0 name l.1 ∙ sym found.0 in
    let one = one_gain (λ token. level_at w token name) (λ token. level_at m token name) n l.0 same
    (λ q ne. ap (λ x. level_at x q name) is ∙ not_given w l.0 name l.1 q ne) within in
    let more = levels_stand name n ls m w' found.1 one.within rest in
    record {
      repos = more.repos ∙ ap (λ x. x.repos) is;
      gains = gains_more (λ token. level_at w token name) (λ token. level_at m token name) (λ token. level_at w' token name) n one more.gains;
      all = (more.gains.kept l.0 same, more.all);
    }
