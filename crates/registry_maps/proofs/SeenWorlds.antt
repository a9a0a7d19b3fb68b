-- The world that a keeper's maps stand for, at its look-ups and its changes.
use Rattle.std.proofs.Common.{◌≡◌, ◌∙◌, ℕ, List, [], ◌∷◌, Bool, true, false, cond, not, None, Some, refl, sym, ap, subst, arith, length}
use Rattle.std.specs.Prelude.{Option, option_map, nat_lt, bytes_eq, Result, Ok, Err, IfOk}
use Rattle.std.specs.Option.{option_map_or, option_copied, option_copied_mut}
use Rattle.std.specs.Borrow.{Bor, MutBor}
use Rattle.std.specs.Ordering.{eq_by_cmp, is_eq}
use Rattle.std.specs.Map.{lookup}
use Rattle.std.specs.Map.Calls.{RetainsPairs}
use Rattle.std.specs.BTreeMap.{BTreeMap, Updates, is_at}
use Rattle.std.specs.BTreeMap as btree
use Rattle.std.specs.FinMap.{get, insert, remove, empty, len, empty_of_len, len-empty, get-empty, get-insert}
use Rattle.std.specs.Cmp.{eq_by_cmp_equiv}
use Rattle.std.specs.declared.alloc.AllocError.{AllocError}
use Rattle.std.proofs.lemmas.Map.Text.{is_eq-slice_cmp}
use Rattle.oci_types.specs.Text.{Text}
use Rattle.oci_types.specs.declared.fault.Fault.{Fault}
use Rattle.registry_model.specs.declared.level.Level.{Level}
use Rattle.registry_maps.specs.declared.repository.Repository.{Repository}
use Rattle.registry_model.specs.World.{text_cmp, Repo, Grants, World, repo_at, is_known, new_repo, update_repo, with_grants}
use Rattle.registry_model.specs.Command.{set_repo, drop_repo, grant, revoke, revoke_all}
use Rattle.registry_model.specs.Keeping.{Kept, bare, nothing_held, ReadsBy, ReadsSo, Writes, WritesBy, Spends}
use Rattle.registry_maps.specs.Maps.{seen, repo_of, levels_in, grants_in, world_of, kept_of, Makes, Puts, or_memory}
use Rattle.registry_model.proofs.TextOrder.{text_total, exact_texts, bytes_same}
use Rattle.registry_maps.proofs.SeenMaps.{same_test, get_seen, seen_put, seen_removed, seen_stays, at_some, at_none, remove_empty}

abbrev pub Repos : Type 0
Repos = BTreeMap Text Repository

abbrev pub Levels : Type 0
Levels = BTreeMap Text Level

abbrev pub Granted : Type 0
Granted = BTreeMap Text Levels

-- ---- answers that may want memory

pub reads_memory : {A B : Type 0} (show : A → B) (r : Result A AllocError) (q : Result A Fault) (value : B) (s : Kept) → q ≡ or_memory r
    → IfOk r (λ v. show v ≡ value) → ReadsBy show q value s s
reads_memory show (Ok v) q value s e h = subst (λ x. ReadsBy show x value s s) (sym e) (h, refl)
reads_memory show (Err x) q value s e h = subst (λ x. ReadsBy show x value s s) (sym e) refl

pub reads_so_memory : {A : Type 0} (IsSo : A → Type 0) (r : Result A AllocError) (q : Result A Fault) (s : Kept) → q ≡ or_memory r
    → IfOk r IsSo → ReadsSo IsSo q s s
reads_so_memory IsSo (Ok v) q s e h = subst (λ x. ReadsSo IsSo x s s) (sym e) (h, refl)
reads_so_memory IsSo (Err x) q s e h = subst (λ x. ReadsSo IsSo x s s) (sym e) refl

pub spends_memory : {A : Type 0} (r : Result A AllocError) (q : Result A Fault) (s t : Kept) → q ≡ or_memory r → s.spent ≡ false → t.spent ≡ false → Spends q s t
spends_memory (Ok v) q s t e h k = subst (λ x. Spends x s t) (sym e) (h, k)
spends_memory (Err x) q s t e h k = subst (λ x. Spends x s t) (sym e) (h, k)

pub writes_memory : (m n : Repos) (g h : Granted) (r : Result (Unit {0}) AllocError) (q : Result (Unit {0}) Fault) (w : World) → q ≡ or_memory r
    → Makes r w (world_of m g) (world_of n h) → Writes q w (kept_of m g) (kept_of n h)
writes_memory m n g h (Ok v) q w e made = subst (λ x. Writes x w (kept_of m g) (kept_of n h)) (sym e) (ap {A = World} {B = Kept} (λ x. bare x) made)
writes_memory m n g h (Err x) q w e made = subst (λ y. Writes y w (kept_of m g) (kept_of n h)) (sym e) (ap {A = World} {B = Kept} (λ y. bare y) made)

module _ (m : Repos) (g : Granted) (name : Text) where
  pub repo_some : (given : Option (Bor Repository)) (b : Bor Repository) → given ≡ Some b → option_copied given ≡ btree.get text_cmp m name → repo_at (world_of m g) name ≡ Some (repo_of b.now)
  repo_some given b is e = at_some text_total exact_texts repo_of m name given b is e

  pub repo_none : (given : Option (Bor Repository)) → given ≡ None → option_copied given ≡ btree.get text_cmp m name → repo_at (world_of m g) name ≡ None
  repo_none given is e = at_none text_total exact_texts repo_of m name given is e

  -- by what a map lent to be changed
  pub repo_lent : (old : Repository) → Some old ≡ btree.get text_cmp m name → repo_at (world_of m g) name ≡ Some (repo_of old)
  repo_lent old e = get_seen text_total exact_texts repo_of m name ∙ ap (option_map repo_of) (sym e)

  pub repo_unlent : None ≡ btree.get text_cmp m name → repo_at (world_of m g) name ≡ None
  repo_unlent e = get_seen text_total exact_texts repo_of m name ∙ ap (option_map repo_of) (sym e)

-- what is lent, as a value
pub lent_some : {X : Type 0} (m : BTreeMap Text X) (name : Text) (given : Option (MutBor X)) (b : MutBor X) → given ≡ Some b → option_copied_mut given ≡ btree.get text_cmp m name → Some b.now ≡ btree.get text_cmp m name
lent_some m name given b is e = sym (ap option_copied_mut is) ∙ e

pub lent_none : {X : Type 0} (m : BTreeMap Text X) (name : Text) (given : Option (MutBor X)) → given ≡ None → option_copied_mut given ≡ btree.get text_cmp m name → None ≡ btree.get text_cmp m name
lent_none m name given is e = sym (ap option_copied_mut is) ∙ e

-- ---- what the writes make

-- a change where no repository is makes nothing
pub nothing_made : (m : Repos) (g : Granted) (name : Text) (change : Repo → Repo) → None ≡ btree.get text_cmp m name
    → kept_of m g ≡ bare (update_repo (world_of m g) name change (repo_at (world_of m g) name))
nothing_made m g name change none = ap (λ o. bare (update_repo (world_of m g) name change o)) (sym (repo_unlent m g name none))

module _ (m n : Repos) (g : Granted) (name : Text) (old new : Repository)
    (there : Some old ≡ btree.get text_cmp m name) (h : Updates text_cmp m n name (Some new)) where
  -- the repository was changed
  pub changed_by : (change : Repo → Repo) → repo_of new ≡ change (repo_of old)
      → kept_of n g ≡ bare (update_repo (world_of m g) name change (repo_at (world_of m g) name))
  changed_by change e =
      ap (λ r. bare (record { repos = r; grants = grants_in g })) (seen_put text_total exact_texts repo_of name m n new h ∙ ap (insert (seen text_cmp repo_of m.entries) name) e)
      ∙ ap (λ o. bare (update_repo (world_of m g) name change o)) (sym (repo_lent m g name old there))

  -- the repository shows as it did
  pub stays_so : repo_of new ≡ repo_of old → kept_of n g ≡ kept_of m g
  stays_so e = ap (λ r. bare (record { repos = r; grants = grants_in g })) (seen_stays text_total exact_texts repo_of name m n old new h (sym there) e)

  pub write_made : (r : Result (Unit {0}) AllocError) (q : Result (Unit {0}) Fault) (change : Repo → Repo) → q ≡ or_memory r → Makes r (change (repo_of old)) (repo_of old) (repo_of new)
      → Writes q (update_repo (world_of m g) name change (repo_at (world_of m g) name)) (kept_of m g) (kept_of n g)
  write_made (Ok v) q change e made = subst (λ x. Writes x (update_repo (world_of m g) name change (repo_at (world_of m g) name)) (kept_of m g) (kept_of n g)) (sym e) (changed_by change made)
  write_made (Err x) q change e made = subst (λ x. Writes x (update_repo (world_of m g) name change (repo_at (world_of m g) name)) (kept_of m g) (kept_of n g)) (sym e) (stays_so made)

  pub world_made : (r : Result (Unit {0}) AllocError) (change : Repo → Repo) → Makes r (change (repo_of old)) (repo_of old) (repo_of new)
      → Makes r (update_repo (world_of m g) name change (repo_at (world_of m g) name)) (world_of m g) (world_of n g)
  world_made (Ok v) change made = ap (λ (s : Kept). s.world) (changed_by change made)
  world_made (Err x) change made = ap (λ (s : Kept). s.world) (stays_so made)

  pub number_made : (r : Result ℕ AllocError) (q : Result ℕ Fault) (value : ℕ) (change : Repo → Repo) → q ≡ or_memory r → IfOk r (λ v. v ≡ value) → Makes r (change (repo_of old)) (repo_of old) (repo_of new)
      → WritesBy (λ v. v) q value (update_repo (world_of m g) name change (repo_at (world_of m g) name)) (kept_of m g) (kept_of n g)
  number_made (Ok v) q value change e is made = subst (λ x. WritesBy (λ v. v) x value (update_repo (world_of m g) name change (repo_at (world_of m g) name)) (kept_of m g) (kept_of n g)) (sym e) (is, changed_by change made)
  number_made (Err x) q value change e is made = subst (λ x. WritesBy (λ v. v) x value (update_repo (world_of m g) name change (repo_at (world_of m g) name)) (kept_of m g) (kept_of n g)) (sym e) (stays_so made)

  -- the quota was set
  pub quota_set : (quota : ℕ) → repo_of new ≡ record (repo_of old) { quota = quota } → kept_of n g ≡ bare (set_repo (world_of m g) name quota)
  quota_set quota e = rw (repo_lent m g name old there)
      (ap (λ r. bare (record { repos = r; grants = grants_in g })) (seen_put text_total exact_texts repo_of name m n new h ∙ ap (insert (seen text_cmp repo_of m.entries) name) e))

-- a repository was made
pub repo_made : (m n : Repos) (g : Granted) (name : Text) (new : Repository) (quota : ℕ) → None ≡ btree.get text_cmp m name
    → Updates text_cmp m n name (Some new) → repo_of new ≡ new_repo quota → kept_of n g ≡ bare (set_repo (world_of m g) name quota)
repo_made m n g name new quota none h e = rw (repo_unlent m g name none)
    (ap (λ r. bare (record { repos = r; grants = grants_in g })) (seen_put text_total exact_texts repo_of name m n new h ∙ ap (insert (seen text_cmp repo_of m.entries) name) e))

pub repo_puts : (m n : Repos) (g : Granted) (name key : Text) (new : Repository) (quota : ℕ) (r : Result (Unit {0}) AllocError) (q : Result (Unit {0}) Fault)
    → None ≡ btree.get text_cmp m name → key ≡ name → Puts text_cmp r key new m n → repo_of new ≡ new_repo quota → q ≡ or_memory r
    → Writes q (set_repo (world_of m g) name quota) (kept_of m g) (kept_of n g)
repo_puts m n g name key new quota (Ok x) q none is h e told =
    subst (λ y. Writes y (set_repo (world_of m g) name quota) (kept_of m g) (kept_of n g)) (sym told)
    (repo_made m n g name new quota none (subst (λ k. Updates text_cmp m n k (Some new)) is h) e)
repo_puts m n g name key new quota (Err x) q none is h e told =
    subst (λ y. Writes y (set_repo (world_of m g) name quota) (kept_of m g) (kept_of n g)) (sym told)
    (ap (λ es. bare (record { repos = seen text_cmp repo_of es; grants = grants_in g })) h)

-- ---- grants

lt_true : (n : ℕ) → (n ≡ 0 → ⊥) → nat_lt 0 n ≡ true
lt_true n h = grind arith

some_len : (m : Grants) (k : Text) (l : Level) → get m k ≡ Some l → nat_lt 0 (len m) ≡ true
some_len m k l h = lt_true (len m) (λ z. let e = sym h ∙ ap (λ x. get x k) (empty_of_len m z) ∙ get-empty text_cmp k in absurd (cc))

pub no_levels : is_known empty ≡ false
no_levels = ap (λ n. nat_lt 0 n) (len-empty text_cmp Level)

pub known_levels : (es : List (Text × Level)) (empty_is : Bool) → (empty_is ≡ true → length es ≡ 0) → (length es ≡ 0 → empty_is ≡ true) → not empty_is ≡ is_known (levels_in es)
known_levels [] true f g = sym no_levels
known_levels [] false f g = let e = g refl in absurd (cc)
known_levels (e ∷ es) true f g = absurd (omega (arith, f refl))
known_levels (e ∷ es) false f g = sym (some_len (levels_in (e ∷ es)) e.0 e.1
    (get-insert text_total (levels_in es) e.0 e.1 e.0 ∙ ap (λ b. cond b (Some e.1) (get (levels_in es) e.0)) ((eq_by_cmp_equiv text_total).refl e.0)))

module _ (g : Granted) (token : Text) where
  pub granted : (levels : Levels) → Some levels ≡ btree.get text_cmp g token → grants_in g token ≡ levels_in levels.entries
  granted levels h = ap (λ o. option_map_or (λ (l : Levels). levels_in l.entries) o empty) (sym h)

  pub ungranted : None ≡ btree.get text_cmp g token → grants_in g token ≡ empty
  ungranted h = ap (λ o. option_map_or (λ (l : Levels). levels_in l.entries) o empty) (sym h)

-- the grants after those of one token were put
grants_updated : (token : Text) (m n : Granted) (levels : Levels) → Updates text_cmp m n token (Some levels)
    → (other : Text) → grants_in n other ≡ cond (bytes_eq other token) (levels_in levels.entries) (grants_in m other)
grants_updated token m n levels h other =
    ap (λ o. option_map_or (λ (l : Levels). levels_in l.entries) o empty) (h.0 other)
    ∙ step (eq_by_cmp text_cmp token other) ∙ ap (λ b. cond b (levels_in levels.entries) (grants_in m other)) (is_eq-slice_cmp token other ∙ same_test token other)
  where
    step : (b : Bool) → option_map_or (λ (l : Levels). levels_in l.entries) (cond b (Some levels) (btree.get text_cmp m other)) empty ≡ cond b (levels_in levels.entries) (grants_in m other)
    step true = refl
    step false = refl

module _ (m : Repos) (g n : Granted) (token : Text) (levels : Levels) (h : Updates text_cmp g n token (Some levels)) where
  -- the grants of the token were changed
  pub granted_so : (grants : Grants) → levels_in levels.entries ≡ grants → kept_of m n ≡ bare (with_grants (world_of m g) token grants)
  granted_so grants e = λ i. record {
    world = record { repos = seen text_cmp repo_of m.entries; grants = λ other. (grants_updated token g n levels h other ∙ ap (λ x. cond (bytes_eq other token) x (grants_in g other)) e) i };
    spent = false;
    held = nothing_held;
  }

  -- the levels show as they did
  pub grants_stay : levels_in levels.entries ≡ grants_in g token → kept_of m n ≡ kept_of m g
  grants_stay e = λ i. record {
    world = record { repos = seen text_cmp repo_of m.entries; grants = λ other. (grants_updated token g n levels h other ∙ step other (bytes_eq other token) refl) i };
    spent = false;
    held = nothing_held;
  }
    where
      step : (other : Text) (b : Bool) → bytes_eq other token ≡ b → cond b (levels_in levels.entries) (grants_in g other) ≡ grants_in g other
      step other true k = e ∙ ap (grants_in g) (sym (bytes_same other token k))
      step other false k = refl

  pub grant_writes : (r : Result (Unit {0}) AllocError) (q : Result (Unit {0}) Fault) (old : Levels) (name : Text) (level : Level) → Some old ≡ btree.get text_cmp g token → q ≡ or_memory r
      → Makes r (insert (levels_in old.entries) name level) (levels_in old.entries) (levels_in levels.entries)
      → Writes q (grant (world_of m g) token name level) (kept_of m g) (kept_of m n)
  grant_writes (Ok v) q old name level there e made = subst (λ x. Writes x (grant (world_of m g) token name level) (kept_of m g) (kept_of m n)) (sym e)
      (granted_so (insert (grants_in g token) name level) (made ∙ ap (λ x. insert x name level) (sym (granted g token old there))))
  grant_writes (Err x) q old name level there e made = subst (λ x. Writes x (grant (world_of m g) token name level) (kept_of m g) (kept_of m n)) (sym e)
      (grants_stay (made ∙ sym (granted g token old there)))

-- a token without grants is given one level
pub first_grant : (m : Repos) (g n : Granted) (token key name : Text) (level : Level) (levels : Levels) (r : Result (Unit {0}) AllocError) (q : Result (Unit {0}) Fault)
    → None ≡ btree.get text_cmp g token → key ≡ token → Puts text_cmp r key levels g n → levels_in levels.entries ≡ insert empty name level → q ≡ or_memory r
    → Writes q (grant (world_of m g) token name level) (kept_of m g) (kept_of m n)
first_grant m g n token key name level levels (Ok x) q none is h e told =
    subst (λ y. Writes y (grant (world_of m g) token name level) (kept_of m g) (kept_of m n)) (sym told)
    (granted_so m g n token levels (subst (λ k. Updates text_cmp g n k (Some levels)) is h) (insert (grants_in g token) name level)
    (e ∙ sym (ap (λ x. insert x name level) (ungranted g token none))))
first_grant m g n token key name level levels (Err x) q none is h e told =
    subst (λ y. Writes y (grant (world_of m g) token name level) (kept_of m g) (kept_of m n)) (sym told)
    (ap {A = List (Text × Levels)} {B = Kept} (λ es. record {
      world = record { repos = seen text_cmp repo_of m.entries; grants = λ t. option_map_or (λ (l : Levels). levels_in l.entries) (lookup (is_at (text_cmp t)) es) empty };
      spent = false;
      held = nothing_held;
    }) h)

-- a token without grants has no level to take
pub nothing_revoked : (m : Repos) (g : Granted) (token name : Text) → None ≡ btree.get text_cmp g token
    → kept_of m g ≡ bare (revoke (world_of m g) token name)
nothing_revoked m g token name none = λ i. record {
  world = record { repos = seen text_cmp repo_of m.entries; grants = λ other. step other (bytes_eq other token) refl i };
  spent = false;
  held = nothing_held;
}
  where
    step : (other : Text) (b : Bool) → bytes_eq other token ≡ b → grants_in g other ≡ cond b (remove (grants_in g token) name) (grants_in g other)
    step other true k = ap (grants_in g) (bytes_same other token k) ∙ ungranted g token none ∙ sym (remove_empty text_total exact_texts name) ∙ ap (λ x. remove x name) (sym (ungranted g token none))
    step other false k = refl

-- a token whose entry went has no level
pub all_revoked : (m : Repos) (g n : Granted) (token : Text) → Updates text_cmp g n token None
    → kept_of m n ≡ bare (revoke_all (world_of m g) token)
all_revoked m g n token h = λ i. record {
  world = record { repos = seen text_cmp repo_of m.entries; grants = λ other. at other i };
  spent = false;
  held = nothing_held;
}
  where
    step : (other : Text) (b : Bool) → option_map_or (λ (l : Levels). levels_in l.entries) (cond b None (btree.get text_cmp g other)) empty ≡ cond b empty (grants_in g other)
    step other true = refl
    step other false = refl

    at : (other : Text) → grants_in n other ≡ cond (bytes_eq other token) empty (grants_in g other)
    at other = ap (λ o. option_map_or (λ (l : Levels). levels_in l.entries) o empty) (h.0 other)
        ∙ step other (eq_by_cmp text_cmp token other) ∙ ap (λ b. cond b empty (grants_in g other)) (is_eq-slice_cmp token other ∙ same_test token other)

-- ---- a repository that goes

-- each token's levels are those without the name
pub repo_dropped : (m n : Repos) (g d : Granted) (name : Text) → Updates text_cmp m n name None
    → ((token : Text) → grants_in d token ≡ remove (grants_in g token) name)
    → kept_of n d ≡ bare (drop_repo (world_of m g) name)
repo_dropped m n g d name h k = λ i. record {
  world = record { repos = seen_removed text_total exact_texts repo_of name m n h i; grants = λ token. k token i };
  spent = false;
  held = nothing_held;
}

-- the levels of each token, after one was taken from all
pub all_taken : {F : Type 0} (T : F → Text → Levels → Bool → Levels → F → Type 0) (name : Text) (f : F)
    → ((k : Text) (v : Levels) (b : Bool) (w : Levels) (f' : F) → T f k v b w f' → (b ≡ true) × (levels_in w.entries ≡ remove (levels_in v.entries) name) × (f' ≡ f))
    → (es kept : List (Text × Levels)) → RetainsPairs T f es kept → (token : Text)
    → option_map_or (λ (l : Levels). levels_in l.entries) (lookup (is_at (text_cmp token)) kept) empty ≡ remove (option_map_or (λ (l : Levels). levels_in l.entries) (lookup (is_at (text_cmp token)) es) empty) name
all_taken T name f h [] kept r token = ap (λ xs. option_map_or (λ (l : Levels). levels_in l.entries) (lookup (is_at (text_cmp token)) xs) empty) r ∙ sym (remove_empty text_total exact_texts name)
all_taken T name f h (e ∷ es) kept r token =
    let a = h e.0 e.1 r.0 r.1 r.2 r.4 in
    let rest = all_taken T name f h es r.3 (subst (λ u. RetainsPairs T u es r.3) a.2 r.5) token in
    ap (λ xs. option_map_or (λ (l : Levels). levels_in l.entries) (lookup (is_at (text_cmp token)) xs) empty) (r.6 ∙ ap (λ b. cond b ((e.0, r.1) ∷ r.3) r.3) a.0)
    ∙ step (is_eq (text_cmp token e.0)) r.1 r.3 a.1 rest
  where
    step : (t : Bool) (w : Levels) (left : List (Text × Levels)) → levels_in w.entries ≡ remove (levels_in e.1.entries) name
        → option_map_or (λ (l : Levels). levels_in l.entries) (lookup (is_at (text_cmp token)) left) empty ≡ remove (option_map_or (λ (l : Levels). levels_in l.entries) (lookup (is_at (text_cmp token)) es) empty) name
        → option_map_or (λ (l : Levels). levels_in l.entries) (cond t (Some w) (lookup (is_at (text_cmp token)) left)) empty
        ≡ remove (option_map_or (λ (l : Levels). levels_in l.entries) (cond t (Some e.1) (lookup (is_at (text_cmp token)) es)) empty) name
    step true w left taken rest = taken
    step false w left taken rest = rest
