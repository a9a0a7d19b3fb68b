-- Rows moved one after the other, as their keys are listed.
use Rattle.std.proofs.Common.{◌≡◌, ◌∙◌, ◌<◌, ◌+◌, ◌++◌, ℕ, List, [], ◌∷◌, length, map, take, get_or, Ok, Err, Result, OnOk, refl, sym, ap, subst, arith}
use Rattle.std.specs.Prelude.{string_bytes, IfOk}
use Rattle.std.specs.List.Sorted.{IsPermutation}
use Rattle.std.proofs.lemmas.List.{take_more, map-append, length-map}
use Rattle.std.proofs.lemmas.List.Sorted.{IsPermutation-sym, length_permutation}
use Rattle.sqlite.specs.Order.{Row}
use Rattle.sqlite.specs.Effect.{Database}
use Rattle.sqlite.specs.State.{State, HasCleanDisk, IsUnchanged, KeepsCommit, Survives}
use Rattle.oci_types.specs.Text.{Text}
use Rattle.store_schema.proofs.Selects.{commit_then, survives_both}
use Rattle.store_contents.specs.Layouts.{InTables}
use Rattle.store_statements.specs.Keys.{has_key, of_session}
use Rattle.store_statements.specs.Changes.{without}
use Rattle.store_statements.specs.Held.{IsReady, held, tables_in}
use Rattle.store_migration.specs.OldTables.{OldTables}
use Rattle.store_migration.specs.Listed.{key_of, session_of, left_by_keys, left_by_sessions}
use Rattle.store_migration.proofs.Listed.{keys_go, sessions_go}
use Rattle.store_migration.specs.declared.old_keys.Key.{Key}
use Rattle.store_migration.specs.declared.old_keys.SessionKey.{SessionKey}
use Rattle.store_migration.specs.Olds.{old_of}
use Rattle.store_migration.specs.Shown.{key_shown, session_shown}
use Rattle.store_migration.specs.Moving.{IsUnderway, Moves}
use Rattle.store_migration.proofs.Underway.{keeps_still, survives_still}

-- ---- so far

pub record MovedSoFar (f : OldTables → OldTables) (first now : State) : Type 0 where
  pub moved : HasCleanDisk now → IsReady InTables first → IsUnderway (held InTables first) → IsReady InTables now × Moves f (held InTables first) (held InTables now)
  pub kept : HasCleanDisk now → IsReady InTables first → IsUnderway (held InTables first) → KeepsCommit first now
  pub survives : Survives first now (λ _. ⊥)

pub none_moved : (f : OldTables → OldTables) (s : State) → f (old_of (held InTables s)) ≡ old_of (held InTables s) → MovedSoFar f s s
none_moved f s same = record {
  moved = λ clean is under. (is, record { underway = under; world = refl; left = sym same });
  kept = λ clean is under. keeps_still s;
  survives = survives_still s;
}

pub one_moved : (f g h : OldTables → OldTables) (first mid new : State) → ((old : OldTables) → g (f old) ≡ h old) → MovedSoFar f first mid
    → (HasCleanDisk new → IsReady InTables mid → IsUnderway (held InTables mid) → IsReady InTables new × Moves g (held InTables mid) (held InTables new)) → (HasCleanDisk new → IsReady InTables mid → IsUnderway (held InTables mid) → KeepsCommit mid new) → Survives mid new (λ _. ⊥) → MovedSoFar h first new
one_moved f g h first mid new both before moved kept survives = record {
  moved = λ clean is under.
      let it = before.moved (early clean) is under in
      let now = moved clean it.0 it.1.underway in
      (now.0, record { underway = now.1.underway; world = now.1.world ∙ it.1.world; left = now.1.left ∙ ap g it.1.left ∙ both (old_of (held InTables first)) });
  kept = λ clean is under.
      let it = before.moved (early clean) is under in
      commit_then first mid new (before.kept (early clean) is under) (kept clean it.0 it.1.underway);
  survives = survives_both first mid new before.survives survives;
}
  where
    early : HasCleanDisk new → HasCleanDisk mid
    early clean = omega (arith, survives.clean)

pub stopped : (f : OldTables → OldTables) (first mid new : State) → MovedSoFar f first mid → (HasCleanDisk new → IsReady InTables mid → IsUnderway (held InTables mid) → KeepsCommit mid new) → Survives mid new (λ _. ⊥) → HasCleanDisk new → IsReady InTables first → IsUnderway (held InTables first) → KeepsCommit first new
stopped f first mid new before kept survives clean is under =
    let early : HasCleanDisk mid = omega (arith, survives.clean) in
    let it = before.moved early is under in
    commit_then first mid new (before.kept early is under) (kept clean it.0 it.1.underway)

-- ---- the keys were read first

pub all_moved : {A E : Type 0} (r : Result A E) (f g : OldTables → OldTables) (old mid new : State) → IsUnchanged old mid → f (old_of (held InTables old)) ≡ g (old_of (held InTables old)) → OnOk r (IsReady InTables new × Moves f (held InTables mid) (held InTables new)) → OnOk r (IsReady InTables new × Moves g (held InTables old) (held InTables new))
all_moved (Ok x) f g old mid new u same h =
    let m : Moves f (held InTables old) (held InTables new) = subst (λ (d : Database). Moves f (tables_in InTables d) (held InTables new)) u.0.now_is h.1 in
    (h.0, record { underway = m.underway; world = m.world; left = m.left ∙ same })
all_moved (Err e) f g old mid new u same h = tt

-- ---- one key more

keys_more : (keys : List (Text × Text)) (k : Text × Text) (rows : List Row) → left_by_keys (keys ++ k ∷ []) rows ≡ without (has_key k.0 k.1) (left_by_keys keys rows)
keys_more [] k rows = refl
keys_more (x ∷ xs) k rows = keys_more xs k (without (has_key x.0 x.1) rows)

pub key_more : (keys : List Key) (i : ℕ) (key : Key) (rows : List Row) → i < length keys → key ≡ get_or keys i key
    → without (has_key (string_bytes key.repo) (string_bytes key.digest)) (left_by_keys (map key_shown (take i keys)) rows) ≡ left_by_keys (map key_shown (take (i + 1) keys)) rows
key_more keys i key rows low is =
    sym (ap (λ ks. left_by_keys (map key_shown ks) rows) (take_more keys i key low ∙ ap (λ x. take i keys ++ x ∷ []) (sym is))
    ∙ ap (λ ks. left_by_keys ks rows) (map-append key_shown (take i keys) (key ∷ [])) ∙ keys_more (map key_shown (take i keys)) (key_shown key) rows)

numbers_more : (keys : List (Text × ℕ)) (k : Text × ℕ) (rows : List Row) → left_by_sessions (keys ++ k ∷ []) rows ≡ without (of_session k.0 k.1) (left_by_sessions keys rows)
numbers_more [] k rows = refl
numbers_more (x ∷ xs) k rows = numbers_more xs k (without (of_session x.0 x.1) rows)

pub number_more : (keys : List SessionKey) (i : ℕ) (key : SessionKey) (rows : List Row) → i < length keys → key ≡ get_or keys i key
    → without (of_session (string_bytes key.repo) key.number) (left_by_sessions (map session_shown (take i keys)) rows) ≡ left_by_sessions (map session_shown (take (i + 1) keys)) rows
number_more keys i key rows low is =
    sym (ap (λ ks. left_by_sessions (map session_shown ks) rows) (take_more keys i key low ∙ ap (λ x. take i keys ++ x ∷ []) (sym is))
    ∙ ap (λ ks. left_by_sessions ks rows) (map-append session_shown (take i keys) (key ∷ [])) ∙ numbers_more (map session_shown (take i keys)) (session_shown key) rows)

-- ---- all keys

pub all_go : (keys : List Key) (rows : List Row) → IsPermutation (map key_of rows) (map key_shown keys) → left_by_keys (map key_shown keys) rows ≡ []
all_go keys rows h = keys_go (map key_shown keys) rows (IsPermutation-sym (map key_of rows) (map key_shown keys) h)

pub all_numbers_go : (keys : List SessionKey) (rows : List Row) → IsPermutation (map session_of rows) (map session_shown keys) → left_by_sessions (map session_shown keys) rows ≡ []
all_numbers_go keys rows h = sessions_go (map session_shown keys) rows (IsPermutation-sym (map session_of rows) (map session_shown keys) h)

pub counted : {X Y K E : Type 0} (r : Result ℕ E) (f : X → K) (g : Y → K) (rows : List X) (keys : List Y) → IsPermutation (map f rows) (map g keys) → IfOk r (λ n. n ≡ length keys) → IfOk r (λ n. n ≡ length rows)
counted (Ok n) f g rows keys h is = is ∙ sym (length-map keys g) ∙ length_permutation (map f rows) (map g keys) h ∙ length-map rows f
counted (Err e) f g rows keys h is = tt
