-- The manifests that name digests: one put behind the others, and one read after the other.
use Rattle.std.proofs.Common.{◌≡◌, ◌∙◌, ℕ, suc, zero, ◌+◌, ◌-◌, ◌<◌, ◌≤◌, length, get_or, take, add-one, List, [], ◌∷◌, ◌++◌, map, Bool, true, false, cond, not, ◌&&◌, ◌||◌, Option, None, Some, T, refl, sym, ap, subst, arith}
use Rattle.std.specs.Prelude.{filter, bytes_eq, slice_get, unwrap_or, Vec}
use Rattle.std.specs.declared.alloc.Global.{Global}
use Rattle.std.specs.declared.cmp.Ordering.{Ordering}
use Rattle.std.specs.declared.cmp.Ordering.TheVariants.{Less, Equal, Greater}
use Rattle.std.specs.Borrow.{Bor}
use Rattle.std.specs.Option.{option_map_or, option_copied, option_eq}
use Rattle.std.specs.Ordering.{is_lt, is_eq, eq_by_cmp}
use Rattle.std.specs.Cmp.{eq_by_cmp_equiv}
use Rattle.std.specs.BTreeMap.{BTreeMap, Updates, get}
use Rattle.std.specs.FinMap.{FinMap, keys, entries, entries_sorted, is_sorted}
use Rattle.std.specs.FinMap.Entries.{below_all}
use Rattle.std.proofs.Math.Bool.{or-false}
use Rattle.std.proofs.Math.Seq.{take-suc}
use Rattle.std.proofs.lemmas.Bool.{false_from_ne_true, cond-true, cond-false, not-true, not-false, or_parts}
use Rattle.std.proofs.lemmas.List.{map-append, append-nil, length_push, get_or_push, map-id, take_all}
use Rattle.std.proofs.lemmas.List.Elements.{filter-append}
use Rattle.std.proofs.lemmas.List.Folds.{list_any-append}
use Rattle.std.proofs.lemmas.Map.Keys.{any_passes_from_place}
use Rattle.std.proofs.lemmas.Map.Text.{is_eq-slice_cmp}
use Rattle.std.proofs.lemmas.Option.{slice_get_read}
use Rattle.oci_types.specs.Text.{Text}
use Rattle.registry_model.specs.World.{World, Repo, text_cmp, repo_at}
use Rattle.registry_model.specs.Lookups.{blob_digests_at, manifest_digests_at}
use Rattle.registry_model.specs.Pruning.{is_among}
use Rattle.registry_model.specs.Keeping.{Kept, digests_shown}
use Rattle.registry_model.proofs.TextOrder.{text_total, bytes_same}
use Rattle.manifest_operations.specs.Pruning.{names_at}
use Rattle.order_carrying.specs.Reading.{naming_at, namings_at, namers_among}
use Rattle.order_carrying.specs.Naming.{is_last, with_namer, IsPut}

same_bytes : (m : Text) → bytes_eq m m ≡ true
same_bytes m = sym (is_eq-slice_cmp m m) ∙ (eq_by_cmp_equiv text_total).refl m

-- ---- one behind the others

-- the test of the last one
pub last_tested : (last : Option (Bor Text)) (manifest : Bor Text) (manifests : List Text) → option_copied last ≡ slice_get manifests (length manifests - 1)
    → option_eq (λ (x y : Bor Text). eq_by_cmp text_cmp x.now y.now) last (Some manifest) ≡ is_last manifests manifest.now
last_tested last manifest manifests at = tested last ∙ ap (λ o. option_map_or (λ last. bytes_eq last manifest.now) o false) at
  where
    tested : (last : Option (Bor Text)) → option_eq (λ (x y : Bor Text). eq_by_cmp text_cmp x.now y.now) last (Some manifest) ≡ option_map_or (λ last. bytes_eq last manifest.now) (option_copied last) false
    tested None = refl
    tested (Some last) = is_eq-slice_cmp last.now manifest.now

pub put_more : (ms new : List Text) (m : Text) (test was_last : Bool) → test ≡ not was_last → was_last ≡ is_last ms m → test ≡ true → new ≡ ms ++ m ∷ [] → new ≡ with_namer ms m
put_more ms new m test was_last e at tested pushed = pushed ∙ sym (cond-false (is_last ms m) ms (ms ++ m ∷ []) (sym at ∙ not-true was_last (sym e ∙ tested)))

pub put_already : (ms : List Text) (m : Text) (test was_last : Bool) → test ≡ not was_last → was_last ≡ is_last ms m → test ≡ false → ms ≡ with_namer ms m
put_already ms m test was_last e at tested = sym (cond-true (is_last ms m) ms (ms ++ m ∷ []) (sym at ∙ not-false was_last (sym e ∙ tested)))

last_put : (ms : List Text) (m : Text) → is_last (ms ++ m ∷ []) m ≡ true
last_put ms m =
    let at : slice_get (ms ++ m ∷ []) (length (ms ++ m ∷ []) - 1) ≡ Some m =
    slice_get_read (ms ++ m ∷ []) _ (length (ms ++ m ∷ []) - 1) m refl (omega (arith, length_push ms m)) (sym (get_or_push ms m m (length (ms ++ m ∷ []) - 1) (omega (arith, length_push ms m)))) in
    ap (λ o. option_map_or (λ last. bytes_eq last m) o false) at ∙ same_bytes m

-- to put it once more changes nothing
twice : (ms : List Text) (m : Text) → with_namer (with_namer ms m) m ≡ with_namer ms m
twice ms m = by (is_last ms m) refl
  where
    by : (b : Bool) → is_last ms m ≡ b → with_namer (cond b ms (ms ++ m ∷ [])) m ≡ cond b ms (ms ++ m ∷ [])
    by true e = cond-true (is_last ms m) ms (ms ++ m ∷ []) e
    by false e = cond-true (is_last (ms ++ m ∷ []) m) (ms ++ m ∷ []) ((ms ++ m ∷ []) ++ m ∷ []) (last_put ms m)

-- one that is not among them comes behind them
new_namer : (ms : List Text) (m : Text) → is_among ms m ≡ false → with_namer ms m ≡ ms ++ m ∷ []
new_namer ms m h = cond-false (is_last ms m) ms (ms ++ m ∷ []) (by (slice_get ms (length ms - 1)) refl)
  where
    by : (o : Option Text) → slice_get ms (length ms - 1) ≡ o → option_map_or (λ last. bytes_eq last m) o false ≡ false
    by None e = refl
    by (Some last) e = false_from_ne_true _ (λ is. absurd (let among = any_passes_from_place (λ other. bytes_eq other m) ms (length ms - 1) last e is in cc))

-- ---- what is kept of a digest

pub after_change : (m n : BTreeMap Text (Vec Text Global)) (w : Option (Vec Text Global)) (digest : Text) → Updates text_cmp m n digest w → (q : Text)
    → option_map_or digests_shown (get text_cmp n q) [] ≡ cond (bytes_eq digest q) (option_map_or digests_shown w []) (option_map_or digests_shown (get text_cmp m q) [])
after_change m n w digest updates q =
    ap (λ o. option_map_or digests_shown o []) (updates.0 q) ∙ by (is_eq (text_cmp digest q)) ∙ ap (λ b. cond b (option_map_or digests_shown w []) (option_map_or digests_shown (get text_cmp m q) [])) (is_eq-slice_cmp digest q)
  where
    by : (b : Bool) → option_map_or digests_shown (cond b w (get text_cmp m q)) [] ≡ cond b (option_map_or digests_shown w []) (option_map_or digests_shown (get text_cmp m q) [])
    by true = refl
    by false = refl

-- what was kept of it, or nothing yet
kept_or_none : (o : Option (Vec Text Global)) (none : Vec Text Global) → none.items ≡ [] → (unwrap_or o none).items ≡ option_map_or digests_shown o []
kept_or_none None none empty = empty
kept_or_none (Some kept) none empty = refl

-- what is put behind those of one digest
put_at : (digest q manifest : Text) (kept : Text → List Text) (new : List Text) → new ≡ with_namer (kept digest) manifest
    → cond (bytes_eq digest q) new (kept q) ≡ cond (bytes_eq digest q) (with_namer (kept q) manifest) (kept q)
put_at digest q manifest kept new put = by (bytes_eq digest q) refl
  where
    by : (b : Bool) → bytes_eq digest q ≡ b → cond b new (kept q) ≡ cond b (with_namer (kept q) manifest) (kept q)
    by true e = put ∙ ap (λ d. with_namer (kept d) manifest) (bytes_same digest q e)
    by false e = refl

-- a manifest put behind those that are kept of one digest, as the map is changed
pub put_so : (m changed : BTreeMap Text (Vec Text Global)) (digest manifest : Text) (had none new : Vec Text Global) (o : Option (Vec Text Global))
    → Updates text_cmp m changed digest (Some new) → had ≡ unwrap_or o none → o ≡ get text_cmp m digest → none.items ≡ []
    → new.items ≡ with_namer had.items manifest → IsPut manifest (bytes_eq digest) (record { manifests = m }) (record { manifests = changed })
put_so m changed digest manifest had none new o updates is found empty put = λ q.
    let kept : had.items ≡ option_map_or digests_shown (get text_cmp m digest) [] =
    ap digests_shown is ∙ kept_or_none o none empty ∙ ap (λ o. option_map_or digests_shown o []) found in
    after_change m changed (Some new) digest updates q
    ∙ put_at digest q manifest (λ d. option_map_or digests_shown (get text_cmp m d) []) new.items (put ∙ ap (λ ms. with_namer ms manifest) kept)

-- one name more
pub name_more : (yielded : List Text) (digest q manifest : Text) (before old new : List Text)
    → old ≡ cond (is_among yielded q) (with_namer before manifest) before → new ≡ cond (bytes_eq digest q) (with_namer old manifest) old
    → new ≡ cond (is_among (yielded ++ digest ∷ []) q) (with_namer before manifest) before
name_more yielded digest q manifest before old new so_far put =
    put ∙ ap (λ ms. cond (bytes_eq digest q) (with_namer ms manifest) ms) so_far ∙ by (is_among yielded q) (bytes_eq digest q)
    ∙ ap (λ b. cond b (with_namer before manifest) before) (ap (λ b. is_among yielded q || b) (sym (or-false (bytes_eq digest q))) ∙ sym (list_any-append (λ other. bytes_eq other q) yielded (digest ∷ [])))
  where
    by : (a b : Bool) → cond b (with_namer (cond a (with_namer before manifest) before) manifest) (cond a (with_namer before manifest) before) ≡ cond (a || b) (with_namer before manifest) before
    by true true = twice before manifest
    by true false = refl
    by false true = refl
    by false false = refl

-- all names
pub all_named : (yielded names : List Text) (q manifest : Text) (before now : List Text) → map (λ x. x) yielded ≡ names
    → now ≡ cond (is_among yielded q) (with_namer before manifest) before → now ≡ cond (is_among names q) (with_namer before manifest) before
all_named yielded names q manifest before now all found =
    found ∙ ap (λ ns. cond (is_among ns q) (with_namer before manifest) before) (sym (map-id yielded) ∙ all)

-- ---- one digest after the other, in byte order

is_less : (o : Ordering) → T (is_lt o) → is_eq o ≡ false
is_less Less h = refl
is_less Equal h = absurd h
is_less Greater h = absurd h

first : (a b : Bool) → T (a && b) → T a
first true b h = tt
first false b h = h

second : (a b : Bool) → T (a && b) → T b
second true b h = h
second false b h = absurd h

module _ {X : Type 0} where
  apart : (x : Text) (es : List (Text × X)) (n : ℕ) (d : Text) → T (below_all text_cmp x es) → n < length (map (λ (e : Text × X). e.0) es) → bytes_eq x (get_or (map (λ (e : Text × X). e.0) es) n d) ≡ false
  apart x [] n d below low = absurd (omega arith)
  apart x (e ∷ es) zero d below low = sym (is_eq-slice_cmp x e.0) ∙ is_less (text_cmp x e.0) (first _ _ below)
  apart x (e ∷ es) (suc n) d below low = apart x es n d (second _ _ below) (omega arith)

  -- none stands before itself
  not_before : (es : List (Text × X)) (n : ℕ) (d : Text) → T (is_sorted text_cmp es) → n < length (map (λ (e : Text × X). e.0) es)
      → is_among (take n (map (λ (e : Text × X). e.0) es)) (get_or (map (λ (e : Text × X). e.0) es) n d) ≡ false
  not_before [] n d sorted low = absurd (omega arith)
  not_before (e ∷ es) zero d sorted low = refl
  not_before (e ∷ es) (suc n) d sorted low =
      let others = map (λ (e : Text × X). e.0) es in
      ap (λ b. b || is_among (take n others) (get_or others n d)) (apart e.0 es n d (first _ _ sorted) (omega arith)) ∙ not_before es n d (second _ _ sorted) (omega arith)

told_once : (kept : Repo → FinMap text_cmp Text) (o : Option Repo) (n : ℕ) (d : Text) → n < length (option_map_or (λ r. keys (kept r)) o [])
    → is_among (take n (option_map_or (λ r. keys (kept r)) o [])) (get_or (option_map_or (λ r. keys (kept r)) o []) n d) ≡ false
told_once kept None n d low = absurd (omega arith)
told_once kept (Some r) n d low = not_before (entries (kept r)) n d (entries_sorted (kept r)) low

-- a blob was not told before
pub blob_is_new : (w : World) (name : Text) (all yielded : List Text) (digest : Text) → all ≡ blob_digests_at w name
    → map (λ x. x) yielded ≡ take (length yielded) all → (length yielded < length all) × (digest ≡ get_or all (length yielded) digest) → is_among yielded digest ≡ false
blob_is_new w name all yielded digest told so_far at =
    ap (λ ds. is_among ds digest) (sym (map-id yielded) ∙ so_far) ∙ ap (is_among (take (length yielded) all)) at.1
    ∙ subst (λ (ds : List Text). length yielded < length ds → is_among (take (length yielded) ds) (get_or ds (length yielded) digest) ≡ false) (sym told) (told_once (λ r. r.blobs) (repo_at w name) (length yielded) digest) at.0

-- nor was a manifest
manifest_is_new : (w : World) (name : Text) (all : List Text) (index : ℕ) (manifest : Text) → all ≡ manifest_digests_at w name
    → index < length all → manifest ≡ get_or all index manifest → is_among (take index all) manifest ≡ false
manifest_is_new w name all index manifest told low at =
    ap (is_among (take index all)) at
    ∙ subst (λ (ds : List Text). index < length ds → is_among (take index ds) (get_or ds index manifest) ≡ false) (sym told) (told_once (λ r. r.manifests) (repo_at w name) index manifest) low

-- ---- one manifest after the other

one_of : (b : Bool) (names : List Text) (x : Text) (others : List (Text × List Text)) → map (λ (n : Text × List Text). n.0) (cond b ((x, names) ∷ others) others) ≡ cond b (x ∷ map (λ (n : Text × List Text). n.0) others) (map (λ (n : Text × List Text). n.0) others)
one_of true names x others = refl
one_of false names x others = refl

one_or_none : (x m : Text) (b : Bool) (others : List Text) → bytes_eq x m ≡ false → is_among others m ≡ false → is_among (cond b (x ∷ others) others) m ≡ false
one_or_none x m true others apart none = ap (λ b. b || is_among others m) apart ∙ none
one_or_none x m false others apart none = none

-- those that name a digest are some of them
some_of_them : (names : Text → List Text) (ms : List Text) (m q : Text) → is_among ms m ≡ false → is_among (namers_among (map (λ (m : Text). (m, names m)) ms) q) m ≡ false
some_of_them names [] m q h = refl
some_of_them names (x ∷ ms) m q h =
    let others : List (Text × List Text) = map (λ (m : Text). (m, names m)) ms in
    ap (λ xs. is_among xs m) (one_of (is_among (names x) q) (names x) x (filter (λ n. is_among n.1 q) others))
    ∙ one_or_none x m (is_among (names x) q) (namers_among others q) (or_parts _ _ h).0 (some_of_them names ms m q (or_parts (bytes_eq x m) _ h).1)

one_more : (names : Text → List Text) (ms : List Text) (m q : Text)
    → namers_among (map (λ (m : Text). (m, names m)) (ms ++ m ∷ [])) q ≡ namers_among (map (λ (m : Text). (m, names m)) ms) q ++ cond (is_among (names m) q) (m ∷ []) []
one_more names ms m q =
    ap (λ ns. namers_among ns q) (map-append (λ (m : Text). (m, names m)) ms (m ∷ []))
    ∙ ap (λ (ns : List (Text × List Text)). map (λ (n : Text × List Text). n.0) ns) (filter-append (λ (n : Text × List Text). is_among n.1 q) (map (λ (m : Text). (m, names m)) ms) ((m, names m) ∷ []))
    ∙ map-append (λ (n : Text × List Text). n.0) (filter (λ n. is_among n.1 q) (map (λ (m : Text). (m, names m)) ms)) (filter (λ n. is_among n.1 q) ((m, names m) ∷ []))
    ∙ ap (λ xs. namers_among (map (λ (m : Text). (m, names m)) ms) q ++ xs) (one_of (is_among (names m) q) (names m) m [])

behind : (b : Bool) (xs : List Text) (m : Text) → cond b (xs ++ m ∷ []) xs ≡ xs ++ cond b (m ∷ []) []
behind true xs m = refl
behind false xs m = sym (append-nil xs)

-- one manifest more, in a world that is the one before
pub manifest_more : (s s1 s2 : Kept) (name : Text) (items : List Text) (index : ℕ) (manifest : Text) (names : List Text) (q : Text) (old new : List Text)
    → index < length items → manifest ≡ get_or items index manifest → items ≡ manifest_digests_at s.world name
    → old ≡ namers_among (map (naming_at s1.world name) (take index items)) q → names ≡ names_at s2.world name manifest → s2 ≡ s1
    → new ≡ cond (is_among names q) (with_namer old manifest) old
    → new ≡ namers_among (map (naming_at s1.world name) (take (index + 1) items)) q
manifest_more s s1 s2 name items index manifest names q old new low at told found named stays put =
    let ms = take index items in
    let naming : Text → Text × List Text = naming_at s1.world name in
    let is_named : Bool = is_among (names_at s1.world name manifest) q in
    let more : take (index + 1) items ≡ ms ++ manifest ∷ [] =
    ap (λ n. take n items) (add-one index) ∙ take-suc items index manifest low ∙ ap (λ m. take index items ++ m ∷ []) (sym at) in
    let is_new : is_among old manifest ≡ false =
    ap (λ xs. is_among xs manifest) found ∙ some_of_them (names_at s1.world name) ms manifest q (manifest_is_new s.world name items index manifest told low at) in
    put
    ∙ ap (λ ns. cond (is_among ns q) (with_namer old manifest) old) (named ∙ ap {A = Kept} (λ x. names_at x.world name manifest) stays)
    ∙ ap (λ xs. cond is_named xs old) (new_namer old manifest is_new) ∙ behind is_named old manifest
    ∙ ap (λ xs. xs ++ cond is_named (manifest ∷ []) []) found
    ∙ sym (one_more (names_at s1.world name) ms manifest q) ∙ sym (ap (λ ms. namers_among (map naming ms) q) more)

-- all manifests
pub all_manifests : (s s1 : Kept) (name : Text) (namers : Text → List Text) (items told : List Text) (index : ℕ)
    → ((q : Text) → namers q ≡ namers_among (map (naming_at s1.world name) (take index items)) q) → length items ≤ index
    → items ≡ told → told ≡ manifest_digests_at s.world name → s1 ≡ s → namers ≡ namers_among (namings_at s.world name)
all_manifests s s1 name namers items told index found over given is same i q =
    (found q
    ∙ ap (λ ms. namers_among (map (naming_at s1.world name) ms) q) (take_all index items over ∙ given ∙ is)
    ∙ ap {A = Kept} (λ x. namers_among (map (naming_at x.world name) (manifest_digests_at s.world name)) q) same) i

-- ---- what is left of them

-- those of another digest are still there
pub still_there : (yielded : List Text) (digest q : Text) (before old new : List Text) → (is_among yielded q ≡ false → old ≡ before)
    → new ≡ cond (bytes_eq digest q) [] old → is_among (yielded ++ digest ∷ []) q ≡ false → new ≡ before
still_there yielded digest q before old new kept taken is_new =
    let others : (is_among yielded q || (bytes_eq digest q || false)) ≡ false = sym (list_any-append (λ other. bytes_eq other q) yielded (digest ∷ [])) ∙ is_new in
    taken ∙ cond-false (bytes_eq digest q) [] old (or_parts _ _ (or_parts _ _ others).1).0 ∙ kept (or_parts _ _ others).0

-- what was taken is what the world's manifests say
pub taken_of : (s began : Kept) (name digest : Text) (namers : Text → List Text) (now given : List Text) → given ≡ now → now ≡ namers digest
    → namers ≡ namers_among (namings_at s.world name) → began ≡ s → given ≡ namers_among (namings_at began.world name) digest
taken_of s began name digest namers now given taken kept read same =
    taken ∙ kept ∙ (λ i. read i digest) ∙ ap {A = Kept} (λ x. namers_among (namings_at x.world name) digest) (sym same)
