-- Blobs taken away one by one, and what is left where they are those that no manifest names.
use Rattle.std.proofs.Common.{◌≡◌, ◌∙◌, ℕ, ◌+◌, ◌<◌, List, [], ◌∷◌, ◌++◌, length, take, get_or, filter, Bool, true, false, cond, not, ◌&&◌, ◌||◌, Option, Some, None, refl, sym, ap}
use Rattle.std.specs.Prelude.{is_some, bytes_eq}
use Rattle.std.specs.List.{list_any}
use Rattle.std.specs.Ordering.{eq_by_cmp}
use Rattle.std.specs.Cmp.{eq_by_cmp_equiv}
use Rattle.std.specs.FinMap.{FinMap, get, keys, contains_key-keys, get-remove, get-retain_keys, same_map}
use Rattle.std.proofs.lemmas.List.{take_more}
use Rattle.std.proofs.lemmas.Map.Text.{is_eq-slice_cmp}
use Rattle.std.proofs.lemmas.Map.Views.{any-filter_same}
use Rattle.oci_types.specs.Text.{Text}
use Rattle.registry_model.specs.World.{text_cmp, Repo}
use Rattle.registry_model.specs.Blobs.{without_blob}
use Rattle.registry_model.specs.Pruning.{is_among, is_named, pruned, without_blobs}
use Rattle.registry_model.proofs.TextOrder.{text_total, exact_texts, bytes_same, tie}

-- ---- digests among others

-- the order's test and that of bytes are one
same_test : (q x : Text) → eq_by_cmp text_cmp q x ≡ bytes_eq x q
same_test q x = (eq_by_cmp_equiv text_total).symm q x ∙ is_eq-slice_cmp x q

-- among the keys of a map are those where it has something
pub among_keys : {X : Type 0} (m : FinMap text_cmp X) (d : Text) → is_among (keys m) d ≡ is_some (get m d)
among_keys m d = sym (contains_key-keys m d ∙ ap (λ (t : Text → Bool). list_any t (keys m)) (λ i x. same_test d x i))

-- among those that pass a test
pub among_passing : (p : Text → Bool) (digests : List Text) (d : Text) → is_among (filter p digests) d ≡ (p d && is_among digests d)
among_passing p digests d = any-filter_same (λ other. bytes_eq other d) p (p d) (λ k e. ap p (bytes_same k d e)) digests

-- ---- one after the other

-- all but the blobs stays
pub same_rest : (r : Repo) (digests : List Text) → without_blobs r digests ≡ record r { blobs = (without_blobs r digests).blobs }
same_rest r [] = refl
same_rest r (x ∷ xs) = same_rest (without_blob r x) xs

one_more : (a b : Bool) (o : Option Text) → cond b None (cond a None o) ≡ cond (a || b) None o
one_more true true o = refl
one_more true false o = refl
one_more false b o = refl

pub left_blobs : (r : Repo) (digests : List Text) (d : Text) → get (without_blobs r digests).blobs d ≡ (cond (is_among digests d) None (get r.blobs d))
left_blobs r [] d = refl
left_blobs r (x ∷ xs) d =
    left_blobs (without_blob r x) xs d
    ∙ ap (λ o. cond (is_among xs d) None o) (get-remove text_total r.blobs x d ∙ ap (λ b. cond b None (get r.blobs d)) (same_test d x))
    ∙ one_more (bytes_eq x d) (is_among xs d) (get r.blobs d)

pub without_one_more : (r : Repo) (digests : List Text) (x : Text) → without_blobs r (digests ++ x ∷ []) ≡ without_blob (without_blobs r digests) x
without_one_more r [] x = refl
without_one_more r (y ∷ ys) x = without_one_more (without_blob r y) ys x

-- the next of a list
pub one_taken : (r : Repo) (ds : List Text) (i : ℕ) (d : Text) (before after : Repo) → i < length ds → d ≡ get_or ds i d → before ≡ without_blobs r (take i ds) → after ≡ without_blob before d
    → after ≡ without_blobs r (take (i + 1) ds)
one_taken r ds i d before after lt is so e =
    e ∙ ap (λ x. without_blob x d) so ∙ sym (without_one_more r (take i ds) d)
    ∙ ap (λ x. without_blobs r (take i ds ++ x ∷ [])) is ∙ ap (without_blobs r) (sym (take_more ds i d lt))

-- ---- those that no manifest names

-- what a manifest names is left
pub pruned_blobs : (r : Repo) (d : Text) → get (pruned r).blobs d ≡ cond (is_named r d) (get r.blobs d) None
pruned_blobs r d = get-retain_keys r.blobs (is_named r) d (tie (is_named r) d)

none_of : (b : Bool) → ◌≡◌ {A = Option Text} (cond b None None) None
none_of true = refl
none_of false = refl

turned : (b : Bool) (o : Option Text) → cond (not b) None o ≡ cond b o None
turned true o = refl
turned false o = refl

pub taken_away : (r : Repo) (digests : List Text) → ((d : Text) → is_some (get r.blobs d) ≡ true → is_among digests d ≡ not (is_named r d))
    → without_blobs r digests ≡ pruned r
taken_away r digests h =
    same_rest r digests
    ∙ ap (λ m. record r { blobs = m }) (same_map text_total exact_texts _ _ (λ q. left_blobs r digests q ∙ by q (get r.blobs q) refl ∙ sym (pruned_blobs r q)))
  where
    by : (q : Text) (o : Option Text) → get r.blobs q ≡ o → cond (is_among digests q) None o ≡ cond (is_named r q) o None
    by q None e = none_of (is_among digests q) ∙ sym (none_of (is_named r q))
    by q (Some bytes) e = ap (λ b. cond b None (Some bytes)) (h q (ap is_some e)) ∙ turned (is_named r q) (Some bytes)

-- the digests of the blobs that no manifest names
abbrev pub unnamed : Repo → List Text
unnamed r = filter (λ d. not (is_named r d)) (keys r.blobs)

with_true : (a b : Bool) → b ≡ true → (a && b) ≡ a
with_true true b e = e
with_true false b e = refl

pub unnamed_taken : (r : Repo) → without_blobs r (unnamed r) ≡ pruned r
unnamed_taken r = taken_away r (unnamed r) (λ d there.
    among_passing (λ x. not (is_named r x)) (keys r.blobs) d
    ∙ with_true (not (is_named r d)) (is_among (keys r.blobs) d) (among_keys r.blobs d ∙ there))
