-- What a write says whose bytes were staged before it, and are given up behind it where no row names them.
use Rattle.std.proofs.Common.{◌≡◌, ◌∙◌, ◌++◌, ℕ, List, [], ◌∷◌, Bool, true, false, true≢false, Ok, Err, Result, OnOk, IfOk, ap, sym, subst, refl}
use Rattle.std.specs.Prelude.{⊤, IsErr, IsTrue, MatchResult}
use Rattle.std.specs.List.{AllByRecursion}
use Rattle.std.proofs.lemmas.List.Sorted.{IsPermutation-sym}
use Rattle.sqlite_trees.specs.declared.store.Store.{Ghosts}
use Rattle.sqlite_trees.proofs.ListLemmas.{all-permutation}
use Rattle.sqlite.specs.Effect.{Database}
use Rattle.sqlite.specs.Held.{Held, state}
use Rattle.oci_types.specs.declared.fault.Fault.{Fault}
use Rattle.oci_types.specs.Text.{Text}
use Rattle.oci_types.specs.declared.fault.Fault.TheVariants.{Memory, Storage}
use Rattle.registry_model.specs.World.{World}
use Rattle.store_contents.specs.Layouts.{Layout}
use Rattle.store_contents.specs.Places.{runs_of}
use Rattle.store_places.specs.declared.source.Source.{Source}
use Rattle.store_places.specs.Source.{runs_in}
use Rattle.store_bytes.specs.declared.contents.Contents as contents
use Rattle.store_bytes.specs.declared.staged.Staged.{Staged}
use Rattle.store_bytes.specs.Staging.{IsClear, IsStaged, runs_staged}
use Rattle.store_bytes.proofs.KeepingLemmas.{settled_too}
use Rattle.store_statements.specs.Between as between
use Rattle.store_statements.specs.Between.{RelatesBy}
use Rattle.store_statements.specs.Clauses as clauses
use Rattle.store_statements.specs.Clauses.{Lasts}
use Rattle.store_statements.specs.Held.{IsSettled, held, is_storage, tables_in, world_in}
use Rattle.store_statements.specs.PlaceChanges.{AddsRuns, KeepsPlaces, PutsPlaces}
use Rattle.store_statements.specs.Tables.{Tables}
use Rattle.store_statements.specs.World.{world_of}
use Rattle.store_statements.proofs.Crashes.{CrashLaw, crash_failed, kept_stayed, outcome_kept}
use Rattle.registry_store.specs.Kept.{IsClean, IsInOrder, world_at}
use Rattle.registry_store.specs.Staged.{Answers, IsBesides, IsGivenUp}
use Rattle.registry_store.specs.KeptWrites.{LeavesWhereSo}
use Rattle.registry_store.specs.Calls.{Leaves, WorldHas}
use Rattle.registry_store.specs.Usages.{IsKnown, Knows, StaysKnown}
use Rattle.registry_store.specs.declared.known_usages.KnownUsages.{KnownUsages}
use Rattle.registry_store.proofs.RowCalls.{LastsLaw, SparedLaw, all_are, remembered, settled_left}

pub given_itself : {C : Type 0} (c : contents.Ghosts C) (it : Staged) (k : C) → IsGivenUp c it k k
given_itself c it k = record { layout = refl; crash = λ l may. may; spares = λ run is clear. is; names = λ rows is. is }

-- the places that came, where the bytes did
abbrev pub PutsRuns : List (ℕ × ℕ) → Bool → Tables → Tables → Type 0
PutsRuns runs true t u = AddsRuns runs t u
PutsRuns runs false t u = KeepsPlaces t u

pub puts_runs : (source : Source) (came : Bool) (t u : Tables) → PutsPlaces source came t u → PutsRuns (runs_in source) came t u
puts_runs source true t u it = it
puts_runs source false t u it = it

all_both : {A : Type 0} (P : A → Type 0) (xs ys : List A) → AllByRecursion P xs → AllByRecursion P ys → AllByRecursion P (xs ++ ys)
all_both P [] ys h k = k
all_both P (x ∷ xs) ys h k = (h.0, all_both P xs ys h.1 k)

module _ {S C : Type 0} (g : Ghosts S) (c : contents.Ghosts C) (spared : SparedLaw c) where
  -- the rows are in order beside what was staged, with the same world
  pub staged_order : (conn : Held S) (old new : C) → IsBesides c old new → IsInOrder g c (conn, old)
      → IsInOrder g c (conn, new) × (held (c.layout new) (state g conn) ≡ held (c.layout old) (state g conn))
  staged_order conn old new besides is =
      let too = settled_too (c.layout old) (c.layout new) (state g conn) (besides.bytes (state g conn).now (remembered g c spared (conn, old) is)) is.settled in (
        record {
          settled = too.0;
          spared = all_are (c.spares old) (c.spares new) besides.spares _ (subst (λ (t : Tables). AllByRecursion (c.spares old) (runs_of t.places)) (sym too.1) is.spared);
          named = besides.names _ (subst (λ (t : Tables). c.names old t.packs) (sym too.1) is.named);
        },
        too.1,
      )

  module _ (old new : Held S) (k0 k1 k2 : C) (it : Staged) (besides : IsBesides c k0 k1) (runs : AllByRecursion (c.spares k1) (runs_staged it))
      (clear : (run : ℕ × ℕ) → c.remembers k0 run → IsClear it run) (given : IsGivenUp c it k1 k2) (is : IsInOrder g c (old, k0)) where
    abbrev l : Layout
    l = c.layout k1

    pub staged : IsInOrder g c (old, k1) × (held l (state g old) ≡ held (c.layout k0) (state g old))
    staged = staged_order old k0 k1 besides is

    same_world : world_in l (state g old) ≡ world_at g c (old, k0)
    same_world = ap world_of staged.1

    -- what the rows named is clear of what was staged
    clear_all : AllByRecursion (IsClear it) (runs_of (held l (state g old)).places)
    clear_all = subst (λ (t : Tables). AllByRecursion (IsClear it) (runs_of t.places)) (sym staged.1) (all_are (c.remembers k0) (IsClear it) clear _ (remembered g c spared (old, k0) is))

    both_of : (xs : List (ℕ × ℕ)) → AllByRecursion (c.spares k1) xs → AllByRecursion (IsClear it) xs → AllByRecursion (c.spares k2) xs
    both_of [] a b = tt
    both_of (x ∷ xs) a b = (given.spares x a.0 b.0, both_of xs a.1 b.1)

    -- the bytes came
    came : k2 ≡ k1 → IsSettled l (state g new) → AddsRuns (runs_staged it) (held l (state g old)) (held l (state g new)) → IsInOrder g c (new, k2)
    came same settled adds =
        subst (λ (k : C). IsInOrder g c (new, k)) (sym same) (record {
          settled = settled;
          spared = all-permutation (c.spares k1) _ _ (IsPermutation-sym _ _ adds.runs) (all_both (c.spares k1) (runs_staged it) _ runs staged.0.spared);
          named = subst (c.names k1) (sym adds.packs) staged.0.named;
        })

    -- they did not
    left : IsSettled l (state g new) → KeepsPlaces (held l (state g old)) (held l (state g new)) → IsInOrder g c (new, k2)
    left settled keeps =
        let at : held (c.layout k2) (state g new) ≡ held l (state g new) = ap (λ (m : Layout). held m (state g new)) given.layout in
        record {
          settled = subst (λ (m : Layout). IsSettled m (state g new)) (sym given.layout) settled;
          spared = subst (λ (t : Tables). AllByRecursion (c.spares k2) (runs_of t.places)) (sym at)
              (subst (λ rows. AllByRecursion (c.spares k2) (runs_of rows)) (sym keeps.places) (both_of _ staged.0.spared clear_all));
          named = subst (λ (t : Tables). c.names k2 t.packs) (sym at) (subst (c.names k2) (sym keeps.packs) (given.names _ staged.0.named));
        }

    world_then : world_at g c (new, k2) ≡ world_in l (state g new)
    world_then = ap (λ (m : Layout). world_in m (state g new)) given.layout

    module _ (f : World → World) where
      abbrev Made : Type 0
      Made = IsInOrder g c (new, k2) × (world_at g c (new, k2) ≡ f (world_at g c (old, k0)))

      pub staged_made : (put : Result Bool Fault) (r : Result ⊤ Fault) → Answers put r → (put ≡ Ok true → k2 ≡ k1)
          → OnOk put (IsSettled l (state g new) × (world_in l (state g new) ≡ f (world_in l (state g old)))) → IfOk put (λ v. PutsRuns (runs_staged it) v (held l (state g old)) (held l (state g new)))
          → OnOk r Made
      staged_made (Ok true) r answers same made puts =
          subst (λ (x : Result ⊤ Fault). OnOk x Made) (sym answers) (came (same refl) made.0 puts, world_then ∙ made.1 ∙ ap f same_world)
      staged_made (Ok false) r answers same made puts =
          subst (λ (x : Result ⊤ Fault). OnOk x Made) (sym answers) (left made.0 puts, world_then ∙ made.1 ∙ ap f same_world)
      staged_made (Err e) r answers same made puts = subst (λ (x : Result ⊤ Fault). OnOk x Made) (sym answers) tt

    pub staged_stayed : IsSettled l (state g new) → (state g new).now ≡ (state g old).now → IsInOrder g c (new, k2) × (world_at g c (new, k2) ≡ world_at g c (old, k0))
    staged_stayed settled same =
        let at : held l (state g new) ≡ held l (state g old) = ap (λ (d : Database). tables_in l d) same in (
          left settled (record { places = ap (λ (t : Tables). t.places) at; packs = ap (λ (t : Tables). t.packs) at }),
          world_then ∙ ap world_of at ∙ same_world,
        )

    -- and a crash: in each layout that it may leave the bytes are where they were staged
    pub staged_left : LastsLaw c → (f : World → World) (put : Result Bool Fault) (r : Result ⊤ Fault) → Answers put r
        → ((m : Layout) → c.may_leave k1 m → IsSettled m (state g old) → world_in m (state g old) ≡ world_at g c (old, k0) → between.Outcomes (state g old).now (state g new) (λ s. OnOk put (IsSettled m s × (world_in m s ≡ f (world_in m (state g old))))) (λ s. IsSettled m s × (world_in m s ≡ world_in m (state g old))) (λ s. IsSettled m s × (world_in m s ≡ f (world_in m (state g old)))))
        → Leaves g c (old, k0) (new, k2) r f
    staged_left law f put r answers crash m may =
        let before = given.crash m may in
        let there = settled_left g c law spared (old, k1) staged.0 m before in
        let same : world_in m (state g old) ≡ world_at g c (old, k0) = ap world_of there.1 ∙ same_world in
        let out = subst (λ (w : World). between.Outcomes (state g old).now (state g new) (λ s. OnOk put (IsSettled m s × (world_in m s ≡ f w))) (λ s. IsSettled m s × (world_in m s ≡ w)) (λ s. IsSettled m s × (world_in m s ≡ f w))) same (crash m before there.0 same) in
        λ db left_db. let it = out db left_db in (told _ put r answers it.0, it.1)
      where
        told : (T : Type 0) (x : Result Bool Fault) (y : Result ⊤ Fault) → Answers x y → OnOk x T → OnOk y T
        told T (Ok v) y answers it = subst (λ (z : Result ⊤ Fault). OnOk z T) (sym answers) it
        told T (Err e) y answers it = subst (λ (z : Result ⊤ Fault). OnOk z T) (sym answers) tt

  -- ---- what was not staged

  module _ (conn : Held S) (k0 k1 : C) (besides : IsBesides c k0 k1) (is : IsInOrder g c (conn, k0)) where
    pub unstaged_stayed : IsInOrder g c (conn, k1) × (world_at g c (conn, k1) ≡ world_at g c (conn, k0))
    unstaged_stayed = let it = staged_order conn k0 k1 besides is in (it.0, ap world_of it.1)

    unstaged_at : LastsLaw c → CrashLaw g → (f : World → World) (fault : Fault) → Leaves g c (conn, k0) (conn, k1) {A = ⊤} (Err fault) f
    unstaged_at law shut f fault m may =
        let it = staged_order conn k0 k1 besides is in
        let there = settled_left g c law spared (conn, k1) it.0 m may in
        let same : world_in m (state g conn) ≡ world_at g c (conn, k0) = ap world_of there.1 ∙ ap world_of it.1 in
        subst (λ (w : World). between.Outcomes (state g conn).now (state g conn) (λ s. ⊤) (λ s. IsSettled m s × (world_in m s ≡ w)) (λ s. IsSettled m s × (world_in m s ≡ f w))) same
        (crash_failed g conn conn f there.0 (kept_stayed g shut conn conn there.0 (there.0, refl)))

    pub unstaged_left : LastsLaw c → CrashLaw g → (f : World → World) (r : Result ⊤ Fault) → IsErr r → Leaves g c (conn, k0) (conn, k1) r f
    unstaged_left law shut f (Ok v) failed = absurd (true≢false (sym failed))
    unstaged_left law shut f (Err fault) failed = unstaged_at law shut f fault

    pub unstaged_known : (known : KnownUsages) → Knows known (world_at g c (conn, k0)) → Knows known (world_at g c (conn, k1))
    unstaged_known known knows = subst (Knows known) (sym unstaged_stayed.1) knows

-- ---- the answer to the call, by that to the write

answered : (put : Result Bool Fault) (r : Result ⊤ Fault) (fault : Fault) → Answers put r → r ≡ Err fault → put ≡ Err fault
answered (Ok v) r fault answers is = absurd (let bad = sym answers ∙ is in cc)
answered (Err e) r fault answers is = let same = sym answers ∙ is in cc

sound : (put : Result Bool Fault) (r : Result ⊤ Fault) → Answers put r → is_storage r ≡ false → is_storage put ≡ false
sound (Ok v) r answers off = refl
sound (Err Memory) r answers off = refl
sound (Err Storage) r answers off = sym (ap is_storage answers) ∙ off

pub puts_all : (source : Source) (runs : List (ℕ × ℕ)) (put : Result Bool Fault) (t u : Tables) → runs_in source ≡ runs → IfOk put (λ v. PutsPlaces source v t u) → IfOk put (λ v. PutsRuns runs v t u)
puts_all source runs (Ok v) t u is puts = subst (λ l. PutsRuns l v t u) is (puts_runs source v t u puts)
puts_all source runs (Err e) t u is puts = tt

-- ---- a write behind a stage, by what the write says of each layout that has the bytes

module _ {S C : Type 0} (g : Ghosts S) (c : contents.Ghosts C) (old new : Held S) (k0 k1 k2 : C) (it : Staged) (bytes : Text) (besides : IsBesides c k0 k1) (runs : AllByRecursion (c.spares k1) (runs_staged it))
    (clear : (run : ℕ × ℕ) → c.remembers k0 run → IsClear it run) (given : IsGivenUp c it k1 k2) (cleans : IsTrue (c.is_clean k2) → IsTrue (c.is_clean k0)) (lasts : Lasts g old new)
    (here : IsStaged (c.layout k1) bytes it) (lasting : (m : Layout) → c.may_leave k1 m → IsStaged m bytes it) (P : World → Type 0) (put : Result Bool Fault) (r : Result ⊤ Fault) (answers : Answers put r)
    (asks : WorldHas g c (old, k0) P) (clean : IsClean g c (new, k2)) (is : IsInOrder g c (old, k0)) where
  abbrev there : Layout
  there = c.layout k1

  abbrev mid : IsInOrder g c (old, k1) × (held there (state g old) ≡ held (c.layout k0) (state g old))
  mid = staged_order g c c.remembers_spared old k0 k1 besides is

  has_at : (m : Layout) → world_in m (state g old) ≡ world_at g c (old, k0) → clauses.WorldHas g m old P
  has_at m same early = subst P (sym same) (asks (early, cleans clean.1))

  same_here : world_in there (state g old) ≡ world_at g c (old, k0)
  same_here = ap world_of mid.1

  pub put_made : (f : World → World) → (put ≡ Ok true → k2 ≡ k1) → ((m : Layout) → IsStaged m bytes it → clauses.WorldHas g m old P → between.MakesWorld g m old new put f)
      → ((m : Layout) → IsStaged m bytes it → clauses.WorldHas g m old P → RelatesBy g m old new put (PutsRuns (runs_staged it)))
      → OnOk r (IsInOrder g c (new, k2) × (world_at g c (new, k2) ≡ f (world_at g c (old, k0))))
  put_made f same makes places =
      staged_made g c c.remembers_spared old new k0 k1 k2 it besides runs clear given is f put r answers same
      (makes there here (has_at there same_here) clean.0 mid.0.settled) (places there here (has_at there same_here) clean.0 mid.0.settled)

  pub put_wanted : ((m : Layout) → IsStaged m bytes it → clauses.WorldHas g m old P → between.StaysOnMemory g m old new put) → r ≡ Err Memory
      → IsInOrder g c (new, k2) × (world_at g c (new, k2) ≡ world_at g c (old, k0))
  put_wanted stays wanting =
      let then = stays there here (has_at there same_here) clean.0 mid.0.settled (answered put r Memory answers wanting) in
      staged_stayed g c c.remembers_spared old new k0 k1 k2 it besides runs clear given is then.0 then.1

  pub put_left : (f : World → World) → ((m : Layout) → IsStaged m bytes it → clauses.WorldHas g m old P → between.CrashLeaves g m old new put f) → Leaves g c (old, k0) (new, k2) r f
  put_left f crash =
      staged_left g c c.remembers_spared old new k0 k1 k2 it besides runs clear given is c.lasts f put r answers
      (λ m may settled same. crash m (lasting m may) (has_at m same) clean.0 settled)

  pub put_known : (known knew : KnownUsages) → ((m : Layout) → IsStaged m bytes it → IsKnown g m old known → clauses.WorldHas g m old P → StaysKnown g m old new knew put)
      → Knows known (world_at g c (old, k0)) → is_storage r ≡ false → Knows knew (world_at g c (new, k2))
  put_known known knew follows knows off =
      subst (Knows knew) (sym (ap (λ (m : Layout). world_in m (state g new)) given.layout))
      (follows there here (λ _. subst (Knows known) (sym same_here) knows) (has_at there same_here) clean.0 mid.0.settled (sound put r answers off))

-- ---- a write whose bytes always come

pub all_storage : (made : Result ⊤ Fault) (put : Result Bool Fault) → MatchResult made (λ _. put ≡ Ok true) (λ fault. put ≡ Err fault) → is_storage put ≡ false → is_storage made ≡ false
all_storage (Ok v) put told off = refl
all_storage (Err Memory) put told off = refl
all_storage (Err Storage) put told off = sym (ap is_storage told) ∙ off
