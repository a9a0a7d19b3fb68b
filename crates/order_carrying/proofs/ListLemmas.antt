-- Lists item by item, and what is found under the keys of a repository's maps.
use Rattle.std.proofs.Common.{◌≡◌, ◌∙◌, ℕ, length, List, [], ◌∷◌, ◌++◌, map, Bool, true, false, cond, Option, None, Some, refl, sym, ap, is_some}
use Rattle.std.specs.Prelude.{filter, option_map}
use Rattle.std.specs.Option.{option_map_or, option_and_then}
use Rattle.std.specs.List.{filter_map, cons_option, AllByRecursion}
use Rattle.std.specs.FinMap.{FinMap, get, keys, entries, find, entries_sorted, get-entries}
use Rattle.std.proofs.lemmas.List.{map-id, map-append}
use Rattle.std.proofs.lemmas.List.Elements.{filter_map-append}
use Rattle.oci_types.specs.Text.{Text}
use Rattle.registry_model.specs.World.{World, Repo, text_cmp, repo_at, has_repo}
use Rattle.registry_model.specs.Lookups.{blob_digests_at, repo_names_of, tags_at}
use Rattle.registry_model.specs.Pruning.{names_in, is_among}
use Rattle.registry_model.specs.Keeping.{Kept}
use Rattle.manifest_operations.specs.Pruning.{unnamed_of, unnamed_at}
use Rattle.manifest_operations.proofs.PruningLemmas.{found_each}
use Rattle.registry_orders.specs.declared.listing.Held.{Held}
use Rattle.registry_orders.specs.declared.listing.Held.TheVariants.{Tags, Blobs, Unnamed}
use Rattle.order_texts.specs.Items.{ItemShown, repo_item, tag_item, blob_item, unnamed_item}
use Rattle.order_carrying.specs.Lists.{repos_of, tags_of, namers_of, blobs_of, held_of}
use Rattle.order_carrying.specs.Reading.{namings_at, namers_among, blob_item_at, held_at}

-- ---- one item more

one_item_more : {A B : Type 0} (h : A → Option B) (xs : List A) (x : A) (o : Option B) → o ≡ h x
    → filter_map h xs ++ cons_option o [] ≡ filter_map h (xs ++ x ∷ [])
one_item_more h xs x o e = ap (λ o. filter_map h xs ++ cons_option o []) e ∙ sym (filter_map-append h xs (x ∷ []))

-- one item more of a world that is the one before
pub found_more : {A B : Type 0} (h : World → A → Option B) (s s1 : Kept) (items items' : List B) (yielded : List A) (x : A) (o : Option B)
    → items ≡ filter_map (h s.world) yielded → items' ≡ items ++ cons_option o [] → o ≡ h s1.world x → s1 ≡ s
    → items' ≡ filter_map (h s.world) (yielded ++ x ∷ [])
found_more h s s1 items items' yielded x o found added told same =
    added ∙ ap (λ xs. xs ++ cons_option o []) found
    ∙ one_item_more (h s.world) yielded x o (told ∙ ap {A = Kept} (λ z. h z.world x) same)

-- what was made of all that a loop went over, in a world that is the one before
pub all_found : {A B : Type 0} (h : World → List A → List B) (s s1 : Kept) (items : List B) (yielded all given : List A)
    → items ≡ h s1.world yielded → map (λ x. x) yielded ≡ all → all ≡ given → s1 ≡ s → items ≡ h s.world given
all_found h s s1 items yielded all given found whole told same =
    found ∙ ap (h s1.world) (sym (map-id yielded) ∙ whole ∙ told) ∙ ap {A = Kept} (λ x. h x.world given) same

-- ---- repositories

names_alone : (es : List (Text × Repo)) → map repo_item (map (λ (e : Text × Repo). e.0) es) ≡ map (λ e. repo_item e.0) es
names_alone [] = refl
names_alone (e ∷ es) = ap (λ (t : List ItemShown). repo_item e.0 ∷ t) (names_alone es)

pub repos_are : (w : World) → map repo_item (repo_names_of w) ≡ repos_of w
repos_are w = names_alone (entries w.repos)

-- ---- tags

-- one tag more of those that a loop goes over
pub tag_more : (so_far more : List ItemShown) (yielded : List (Text × Text)) (e : Text × Text) → so_far ≡ map (λ (e : Text × Text). tag_item e.0 e.1) yielded → more ≡ so_far ++ tag_item e.0 e.1 ∷ []
    → more ≡ map (λ (e : Text × Text). tag_item e.0 e.1) (yielded ++ e ∷ [])
tag_more so_far more yielded e found added =
    added ∙ ap (λ xs. xs ++ tag_item e.0 e.1 ∷ []) found ∙ sym (map-append (λ (e : Text × Text). tag_item e.0 e.1) yielded (e ∷ []))

tags_in : (o : Option Repo) → map (λ (e : Text × Text). tag_item e.0 e.1) (option_map_or (λ (r : Repo). entries r.tags) o []) ≡ option_map_or tags_of o []
tags_in None = refl
tags_in (Some r) = refl

pub tags_are : (w : World) (name : Text) → map (λ (e : Text × Text). tag_item e.0 e.1) (tags_at w name) ≡ held_at w name Tags
tags_are w name = tags_in (repo_at w name)

-- ---- blobs

abbrev named : Text × Text → Text × List Text
named e = (e.0, names_in e.1)

abbrev named_under : (Text → Option Text) → Text → Text × List Text
named_under found digest = (digest, option_map_or names_in (found digest) [])

-- what manifests name, by the digests under which they are found
named_by_key : (all es : List (Text × Text)) → AllByRecursion (λ e. find text_cmp e.0 all ≡ Some e.1) es
    → map (named_under (λ m. find text_cmp m all)) (map (λ e. e.0) es) ≡ map named es
named_by_key all [] h = refl
named_by_key all (e ∷ es) h =
    let others : List (Text × List Text) = map (named_under (λ m. find text_cmp m all)) (map (λ e. e.0) es) in
    ap (λ (o : Option Text). let first : Text × List Text = (e.0, option_map_or names_in o []) in first ∷ others) h.0
    ∙ ap (λ (t : List (Text × List Text)). named e ∷ t) (named_by_key all es h.1)

named_by_manifests : (m : FinMap text_cmp Text) → map (named_under (get m)) (keys m) ≡ map named (entries m)
named_by_manifests m =
    ap (λ (found : Text → Option Text). map (named_under found) (keys m)) (λ i d. get-entries m d i)
    ∙ named_by_key (entries m) (entries m) (found_each (entries m) (entries_sorted m))

one_more_namer : (b : Bool) (e : Text × Text) (left : List (Text × List Text)) (right : List (Text × Text)) → map (λ n. n.0) left ≡ map (λ m. m.0) right
    → map (λ n. n.0) (cond b (named e ∷ left) left) ≡ map (λ m. m.0) (cond b (e ∷ right) right)
one_more_namer true e left right same = ap (λ (t : List Text). e.0 ∷ t) same
one_more_namer false e left right same = same

namers_in : (es : List (Text × Text)) (digest : Text)
    → namers_among (map named es) digest ≡ map (λ m. m.0) (filter (λ m. is_among (names_in m.1) digest) es)
namers_in [] digest = refl
namers_in (e ∷ es) digest =
    one_more_namer (is_among (names_in e.1) digest) e
    (filter (λ n. is_among n.1 digest) (map named es)) (filter (λ m. is_among (names_in m.1) digest) es) (namers_in es digest)

namers_are : (r : Repo) (digest : Text)
    → namers_among (map (named_under (get r.manifests)) (keys r.manifests)) digest ≡ namers_of r digest
namers_are r digest = ap (λ ns. namers_among ns digest) (named_by_manifests r.manifests) ∙ namers_in (entries r.manifests) digest

module _ (f : Text → ℕ → ItemShown) where
  sized : (key : Text) (o : Option Text) → option_map (f key) (option_map length o) ≡ option_map (λ bytes. f key (length bytes)) o
  sized key None = refl
  sized key (Some bytes) = refl

  by_key : (all es : List (Text × Text)) → AllByRecursion (λ e. find text_cmp e.0 all ≡ Some e.1) es
      → filter_map (λ key. option_map (λ bytes. f key (length bytes)) (find text_cmp key all)) (map (λ e. e.0) es) ≡ map (λ e. f e.0 (length e.1)) es
  by_key all [] h = refl
  by_key all (e ∷ es) h =
      ap (λ (o : Option Text). cons_option (option_map (λ bytes. f e.0 (length bytes)) o) (filter_map (λ key. option_map (λ bytes. f key (length bytes)) (find text_cmp key all)) (map (λ e. e.0) es))) h.0
      ∙ ap (λ (t : List ItemShown). f e.0 (length e.1) ∷ t) (by_key all es h.1)

  -- over all keys of a map, that is each entry
  by_map : (m : FinMap text_cmp Text) → filter_map (λ key. option_map (f key) (option_map length (get m key))) (keys m) ≡ map (λ e. f e.0 (length e.1)) (entries m)
  by_map m =
      ap (λ (h : Text → Option ItemShown). filter_map h (keys m)) (λ i key. sized key (get m key) i)
      ∙ ap (λ (found : Text → Option Text). filter_map (λ key. option_map (λ bytes. f key (length bytes)) (found key)) (keys m)) (λ i key. get-entries m key i)
      ∙ by_key (entries m) (entries m) (found_each (entries m) (entries_sorted m))

blobs_in : (o : Option Repo)
    → let namings = map (named_under (λ d. option_and_then (λ (r : Repo). get r.manifests d) o)) (option_map_or (λ (r : Repo). keys r.manifests) o []) in
    filter_map (λ d. option_map (λ size. blob_item d size (namers_among namings d)) (option_map length (option_and_then (λ (r : Repo). get r.blobs d) o))) (option_map_or (λ (r : Repo). keys r.blobs) o [])
    ≡ option_map_or blobs_of o []
blobs_in None = refl
blobs_in (Some r) =
    let namings : List (Text × List Text) = map (named_under (get r.manifests)) (keys r.manifests) in
    by_map (λ d size. blob_item d size (namers_among namings d)) r.blobs
    ∙ ap (λ (namers : Text → List Text). map (λ e. blob_item e.0 (length e.1) (namers e.0)) (entries r.blobs)) (λ i d. namers_are r d i)

pub blobs_are : (w : World) (name : Text) → filter_map (blob_item_at w name (namings_at w name)) (blob_digests_at w name) ≡ held_at w name Blobs
blobs_are w name = blobs_in (repo_at w name)

pub blobs_found : (s s1 s2 : Kept) (name : Text) (items : List ItemShown) (yielded all : List Text)
    → items ≡ filter_map (blob_item_at s2.world name (namings_at s2.world name)) yielded → map (λ x. x) yielded ≡ all
    → s1 ≡ s → all ≡ blob_digests_at s1.world name → s2 ≡ s1 → items ≡ held_at s.world name Blobs
blobs_found s s1 s2 name items yielded all found whole first told second =
    all_found (λ w ds. filter_map (blob_item_at w name (namings_at w name)) ds) s s2 items yielded all (blob_digests_at s.world name) found whole
    (told ∙ ap {A = Kept} (λ x. blob_digests_at x.world name) first) (second ∙ first)
    ∙ blobs_are s.world name

-- ---- blobs that no manifest names

unnamed_in : (o : Option Repo) → map unnamed_item (option_map_or unnamed_of o []) ≡ option_map_or (λ r. map unnamed_item (unnamed_of r)) o []
unnamed_in None = refl
unnamed_in (Some r) = refl

pub unnamed_are : (w : World) (name : Text) → map unnamed_item (unnamed_at w name) ≡ held_at w name Unnamed
unnamed_are w name = unnamed_in (repo_at w name)

-- ---- a repository that is there, and one that is not

pub nothing_held : (what : Held) (o : Option Repo) → is_some o ≡ false → None ≡ option_map (held_of what) o
nothing_held what None h = refl
nothing_held what (Some r) h = cc

all_held : (what : Held) (o : Option Repo) (items : List ItemShown) → is_some o ≡ true → items ≡ option_map_or (held_of what) o [] → Some items ≡ option_map (held_of what) o
all_held what None items h e = cc
all_held what (Some r) items h e = ap Some e

pub listed_there : (s mid : Kept) (name : Text) (what : Held) (b : Bool) (items : List ItemShown) → b ≡ has_repo s.world name → b ≡ true → mid ≡ s
    → items ≡ held_at mid.world name what → Some items ≡ option_map (held_of what) (repo_at s.world name)
listed_there s mid name what b items told there same is =
    all_held what (repo_at s.world name) items (sym told ∙ there) (is ∙ ap {A = Kept} (λ z. held_at z.world name what) same)
