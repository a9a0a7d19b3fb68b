-- The digests that manifests name, and what is left of a repository without the other blobs.
use Rattle.std.proofs.Common.{◌≡◌, ◌∙◌, ℕ, ◌+◌, ◌<◌, ◌≤◌, length, get_or, take, add-one, List, [], ◌∷◌, ◌++◌, map, Bool, true, false, cond, not, ◌&&◌, ◌||◌, None, Some, T, refl, sym, ap, subst}
use Rattle.std.specs.Prelude.{Option, Result, filter, bytes_eq}
use Rattle.std.specs.Option.{option_map_or, option_and_then}
use Rattle.std.specs.List.{list_any, AllByRecursion}
use Rattle.std.specs.declared.cmp.Ordering.{Ordering}
use Rattle.std.specs.declared.cmp.Ordering.TheVariants.{Less, Equal, Greater}
use Rattle.std.specs.Ordering.{is_lt, is_eq, eq_by_cmp}
use Rattle.std.specs.Cmp.{eq_by_cmp_equiv}
use Rattle.std.specs.FinMap.{FinMap, get, keys, values, entries, find, is_sorted, entries_sorted, get-entries}
use Rattle.std.specs.FinMap.Entries.{below_all}
use Rattle.std.proofs.Math.Bool.{or-false}
use Rattle.std.proofs.Math.Seq.{take-suc}
use Rattle.std.proofs.lemmas.List.{take_all}
use Rattle.std.proofs.lemmas.List.Folds.{list_any-append}
use Rattle.std.proofs.lemmas.Map.Text.{is_eq-slice_cmp}
use Rattle.oci_types.specs.Text.{Text}
use Rattle.oci_types.specs.declared.fault.Fault.{Fault}
use Rattle.registry_model.specs.World.{World, Repo, text_cmp, repo_at, with_repo, update_repo}
use Rattle.registry_model.specs.Lookups.{blob_digests_at, manifest_digests_at}
use Rattle.registry_model.specs.Pruning.{names_in, is_among, is_named, pruned, prune, without_blobs, delete_blobs}
use Rattle.registry_model.specs.Keeping.{Kept, Writes}
use Rattle.registry_model.proofs.TextOrder.{text_total}
use Rattle.registry_model.proofs.BlobsTakenAway.{unnamed_taken}
use Rattle.manifest_operations.specs.Pruning.{names_at, is_named_by, is_named_at, unnamed_of, unnamed_at}

-- ---- what is among digests

same_test : (q d : Text) → eq_by_cmp text_cmp q d ≡ bytes_eq d q
same_test q d = (eq_by_cmp_equiv text_total).symm q d ∙ is_eq-slice_cmp d q

-- by the order, and by their bytes
pub among : (digests : List Text) (q : Text) → list_any (eq_by_cmp text_cmp q) digests ≡ is_among digests q
among digests q = ap (λ (p : Text → Bool). list_any p digests) (λ i d. same_test q d i)

-- what a set has after it got the digests that a list showed
pub among_added : (new old : Bool) (given digests : List Text) (q : Text) → new ≡ (old || list_any (eq_by_cmp text_cmp q) given) → map (λ x. x) given ≡ digests → new ≡ (old || is_among digests q)
among_added new old given digests q e same = e ∙ ap (λ b. old || b) (among given q ∙ ap (λ digests. is_among digests q) (sym (map_same given) ∙ same))
  where
    map_same : (xs : List Text) → map (λ (x : Text). x) xs ≡ xs
    map_same [] = refl
    map_same (x ∷ xs) = ap (λ ys. x ∷ ys) (map_same xs)

-- ---- what manifests name

is_less : (o : Ordering) → T (is_lt o) → is_eq o ≡ false
is_less Less h = refl
is_less Equal h = absurd h
is_less Greater h = absurd h

first : (a b : Bool) → T (a && b) → T a
first true b h = tt
first false b h = h

second : (a b : Bool) → T (a && b) → T b
second true b h = h
second false b h = absurd h

-- an entry is found under its key in more entries, none of which is that of the key
passed : (x : Text) (text : Text) (all : List (Text × Text)) (es : List (Text × Text)) → T (below_all text_cmp x es)
    → AllByRecursion (λ e. find text_cmp e.0 all ≡ Some e.1) es → AllByRecursion (λ e. find text_cmp e.0 ((x, text) ∷ all) ≡ Some e.1) es
passed x text all [] below h = tt
passed x text all (e ∷ es) below h = (
  ap (λ b. cond b (Some text) (find text_cmp e.0 all)) (sym ((eq_by_cmp_equiv text_total).symm x e.0) ∙ is_less (text_cmp x e.0) (first _ _ below)) ∙ h.0,
  passed x text all es (second _ _ below) h.1,
)

-- in the keys' order each entry is found under its key
pub found_each : (es : List (Text × Text)) → T (is_sorted text_cmp es) → AllByRecursion (λ e. find text_cmp e.0 es ≡ Some e.1) es
found_each [] h = tt
found_each (e ∷ es) h = (
  ap (λ b. cond b (Some e.1) (find text_cmp e.0 es)) ((eq_by_cmp_equiv text_total).refl e.0),
  passed e.0 e.1 es es (first _ _ h) (found_each es (second _ _ h)),
)

module _ (names : Text → List Text) (q : Text) where
  -- what is named by what is found under keys
  abbrev by_key : List (Text × Text) → Text → Bool
  by_key all key = is_among (option_map_or names (find text_cmp key all) []) q

  by_entry : (all es : List (Text × Text)) → AllByRecursion (λ e. find text_cmp e.0 all ≡ Some e.1) es
      → list_any (by_key all) (map (λ e. e.0) es) ≡ list_any (λ text. is_among (names text) q) (map (λ e. e.1) es)
  by_entry all [] h = refl
  by_entry all (e ∷ es) h =
      ap (λ o. is_among (option_map_or names o []) q || list_any (by_key all) (map (λ e. e.0) es)) h.0
      ∙ ap (λ b. is_among (names e.1) q || b) (by_entry all es h.1)

  -- over all keys, that is what is named by the values
  by_value : (m : FinMap text_cmp Text) → list_any (λ key. is_among (option_map_or names (get m key) []) q) (keys m) ≡ list_any (λ text. is_among (names text) q) (values m)
  by_value m =
      ap (λ (p : Text → Bool). list_any p (keys m)) (λ i key. is_among (option_map_or names (get-entries m key i) []) q)
      ∙ by_entry (entries m) (entries m) (found_each (entries m) (entries_sorted m))

named_in : (o : Option Repo) (q : Text)
    → list_any (λ manifest. is_among (option_map_or names_in (option_and_then (λ (r : Repo). get r.manifests manifest) o) []) q) (option_map_or (λ (r : Repo). keys r.manifests) o [])
    ≡ option_map_or (λ r. is_named r q) o false
named_in None q = refl
named_in (Some r) q = by_value names_in q r.manifests

-- what all manifests of a repository name is what some manifest of it names
pub named_by_all : (s began : Kept) (name : Text) (has : Text → Bool) (manifests items : List Text) (index : ℕ)
    → ((q : Text) → has q ≡ is_named_by began.world name (take index items) q) → length items ≤ index
    → items ≡ manifests → manifests ≡ manifest_digests_at s.world name → began ≡ s → has ≡ is_named_at s.world name
named_by_all s began name has manifests items index found over given told same i q =
    (found q
    ∙ ap (λ ds. is_named_by began.world name ds q) (take_all index items over ∙ given ∙ told)
    ∙ ap {A = Kept} (λ s'. is_named_by s'.world name (manifest_digests_at s.world name) q) same
    ∙ named_in (repo_at s.world name) q) i

-- what one manifest more names
pub named_more : (w : World) (name : Text) (items : List Text) (index : ℕ) (manifest : Text) (old new : Bool) (names : List Text) (q : Text) → index < length items
    → manifest ≡ get_or items index manifest → old ≡ is_named_by w name (take index items) q → names ≡ names_at w name manifest → new ≡ (old || is_among names q)
    → new ≡ is_named_by w name (take (index + 1) items) q
named_more w name items index manifest old new names q low at before told added =
    let more : take (index + 1) items ≡ take index items ++ manifest ∷ [] =
    ap (λ n. take n items) (add-one index) ∙ take-suc items index manifest low ∙ ap (λ m. take index items ++ m ∷ []) (sym at) in
    added ∙ ap (λ b. b || is_among names q) before ∙ ap (λ ns. is_named_by w name (take index items) q || is_among ns q) told
    ∙ ap (λ b. is_named_by w name (take index items) q || b) (sym (or-false (is_among (names_at w name manifest) q)))
    ∙ sym (ap (λ ms. is_named_by w name ms q) more ∙ list_any-append (λ m. is_among (names_at w name m) q) (take index items) (manifest ∷ []))

-- ---- what is left

unnamed_in : (o : Option Repo) → filter (λ digest. not (option_map_or (λ r. is_named r digest) o false)) (option_map_or (λ (r : Repo). keys r.blobs) o []) ≡ option_map_or unnamed_of o []
unnamed_in None = refl
unnamed_in (Some r) = refl

-- what is left of the blobs of a keeper's world without those that were told to be named
pub unnamed_found : (s s1 : Kept) (name : Text) (has : Text → Bool) (blobs unnamed : List Text)
    → has ≡ is_named_at s.world name → s1 ≡ s → blobs ≡ blob_digests_at s1.world name
    → unnamed ≡ filter (λ digest. not (has digest)) blobs → unnamed ≡ unnamed_at s.world name
unnamed_found s s1 name has blobs unnamed named first told left =
    left ∙ ap (λ blobs. filter (λ digest. not (has digest)) blobs) (told ∙ ap {A = Kept} (λ s. blob_digests_at s.world name) first)
    ∙ ap (λ (p : Text → Bool). filter (λ digest. not (p digest)) (blob_digests_at s.world name)) named
    ∙ unnamed_in (repo_at s.world name)

pruned_of : (w : World) (name : Text) (o : Option Repo)
    → update_repo w name (λ r. without_blobs r (option_map_or unnamed_of o [])) o ≡ update_repo w name pruned o
pruned_of w name None = refl
pruned_of w name (Some r) = ap (λ (left : Repo). with_repo w name left) (unnamed_taken r)

-- the world without the blobs that no manifest names
pub pruned_at : (w : World) (name : Text) → delete_blobs w name (unnamed_at w name) ≡ prune w name
pruned_at w name = pruned_of w name (repo_at w name)

-- what a keeper made of its world, by what it told before
pub prunes : {A : Type 0} (result : Result A Fault) (s s1 s' : Kept) (name : Text) (unnamed digests : List Text)
    → unnamed ≡ unnamed_at s.world name → s1 ≡ s → digests ≡ unnamed
    → Writes result (delete_blobs s1.world name digests) s1 s' → Writes result (prune s.world name) s s'
prunes result s s1 s' name unnamed digests told same given made =
    let after : delete_blobs s1.world name digests ≡ prune s.world name =
    ap {A = Kept} (λ s. delete_blobs s.world name digests) same ∙ ap (delete_blobs s.world name) (given ∙ told) ∙ pruned_at s.world name in
    subst (λ (w : World). Writes result w s s') after (subst (λ (x : Kept). Writes result (delete_blobs s1.world name digests) x s') same made)
