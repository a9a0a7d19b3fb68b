-- What the version that is found says of a database, and how it is refused.
use Rattle.std.proofs.Common.{◌≡◌, ◌≢◌, ◌⊎◌, ◌∙◌, inl, inr, ℤ, pos, List, [], ◌∷◌, Some, Ok, Err, Result, IfOk, IfErr, refl, sym, ap, subst}
use Rattle.std.specs.Prelude.{IsErrAnd, ⊤}
use Rattle.sqlite.specs.declared.types.Value.TheVariants.{Int}
use Rattle.sqlite.specs.Order.{Row}
use Rattle.sqlite.specs.Effect.{Database}
use Rattle.sqlite.specs.Listing.{understood}
use Rattle.sqlite_trees.specs.declared.store.Store.{Ghosts}
use Rattle.sqlite.specs.Tree.{Trees}
use Rattle.sqlite.specs.State.{State, IsUnchanged}
use Rattle.sqlite.specs.Held.{Held, state}
use Rattle.sqlite_schema.specs.Names.{same_name}
use Rattle.sqlite_tied.specs.Compute.{everything}
use Rattle.store_schema.specs.OldSchema.{old_schema}
use Rattle.store_schema.specs.Beside.{AreFree, names_of_two}
use Rattle.store_contents.specs.Layouts.{InTables}
use Rattle.store_statements.specs.Held.{SettlesOn, IsBack, LeavesAsWas}
use Rattle.store_opening.specs.declared.opening.OpenFault.{OpenFault}
use Rattle.store_opening.specs.declared.opening.OpenFault.TheVariants.{Memory, Storage, NotARegistry, Schema as Numbered}
use Rattle.store_opening.specs.Opening.{IsIdle, KnowsVersion, HoldsRegistry, versions_in}
use Rattle.store_opening.specs.Asking.{IsWanting, IsWantingOr, IsUnnumbered, IsOfSchema, ShowsAlone}
use Rattle.store_opening.proofs.OpeningLemmas.{knows_version as knows_new, same_alone, shows_two}
use Rattle.store_migration.specs.OldFile.{HoldsOldRegistry, olds_in, old_world_in}
use Rattle.store_migration.specs.declared.rewrite.MovedRows.{MovedRows}
use Rattle.store_migration.specs.Rewriting.{counts}
use Rattle.store_migration.specs.Migrating.{IsRefused, MigratedTo, NamesNeither, IsTold}

-- ---- a registry of schema 1, and one of schema 2

knows_version : KnowsVersion old_schema
unfolding understood everything same_name
knows_version = record { stands = record { at = 0; place = refl; stored = refl }; find = record { is = refl; plain = (refl, refl); unlisted = refl } }

pub old_known : (db : Database) → HoldsOldRegistry db → KnowsVersion db.schema
old_known db h = subst KnowsVersion (sym h.schema) knows_version

pub old_says : (db : Database) → HoldsOldRegistry db → ShowsAlone (versions_in db) (pos 1)
old_says db h = (Int (pos 1) ∷ [], h.registry.version, refl)

pub new_says : (db : Database) → HoldsRegistry db → ShowsAlone (versions_in db) (pos 2)
new_says db h = shows_two (versions_in db) h.agree.version

one_not_two : pos 1 ≡ pos 2 → ⊥
one_not_two e = absurd cc

-- ---- the number that was found is the one that the rows show

module _ (rows : List Row) (found : Result ℤ OpenFault) (alone : IfOk found (ShowsAlone rows)) where
  pub same_number : (k n : ℤ) → found ≡ Ok k → ShowsAlone rows n → k ≡ n
  same_number k n is says = same_alone rows k n (subst (λ f. IfOk f (ShowsAlone rows)) is alone) says

  pub not_said : (k : ℤ) → found ≡ Ok k → ((n : ℤ) → ShowsAlone rows n → ⊥) → ⊥
  not_said k is none = none k (subst (λ f. IfOk f (ShowsAlone rows)) is alone)

module _ (db : Database) (found : Result ℤ OpenFault) (alone : KnowsVersion db.schema → IfOk found (ShowsAlone (versions_in db))) where
  pub one_not_new : found ≡ Ok (pos 1) → HoldsRegistry db → ⊥
  one_not_new is holds = one_not_two (same_number (versions_in db) found (alone (knows_new db holds.holds)) (pos 1) (pos 2) is (new_says db holds))

  pub two_not_old : found ≡ Ok (pos 2) → HoldsOldRegistry db → ⊥
  two_not_old is holds = one_not_two (sym (same_number (versions_in db) found (alone (old_known db holds)) (pos 2) (pos 1) is (old_says db holds)))

-- ---- it is refused

module _ (rows : List Row) (found : Result ℤ OpenFault) (alone : IfOk found (ShowsAlone rows)) where
  pub refused_wanting : (e : OpenFault) → IsRefused found e → (n : ℤ) → (n ≡ pos 1) ⊎ (n ≡ pos 2) → ShowsAlone rows n → IfErr found IsWanting → IsWanting e
  refused_wanting e refused n either says wanting = go found alone refused wanting
    where
      never : (m : ℤ) → m ≡ n → m ≢ pos 1 → m ≢ pos 2 → (n ≡ pos 1) ⊎ (n ≡ pos 2) → ⊥
      never m same one two (inl is) = one (same ∙ is)
      never m same one two (inr is) = two (same ∙ is)

      go : (f : Result ℤ OpenFault) → IfOk f (ShowsAlone rows) → IsRefused f e → IfErr f IsWanting → IsWanting e
      go (Ok m) shows is wanting = absurd (never m (same_alone rows m n shows says) is.0.0 is.0.1 either)
      go (Err k) shows is wanting = subst IsWanting (sym is.1) wanting

  pub refused_other : (e : OpenFault) → IsRefused found e → (n : ℤ) → ShowsAlone rows n → IfErr found IsWanting → IsWantingOr (Numbered n) e
  refused_other e refused n says wanting = go found alone refused wanting
    where
      go : (f : Result ℤ OpenFault) → IfOk f (ShowsAlone rows) → IsRefused f e → IfErr f IsWanting → IsWantingOr (Numbered n) e
      go (Ok m) shows is wanting = inr (is.0.2 ∙ ap Numbered (same_alone rows m n shows says))
      go (Err k) shows is wanting = inl (subst IsWanting (sym is.1) wanting)

  pub refused_unsaid : (e : OpenFault) → IsRefused found e → ((n : ℤ) → ShowsAlone rows n → ⊥) → IfErr found (IsWantingOr NotARegistry) → IsWantingOr NotARegistry e
  refused_unsaid e refused none or = go found alone refused or
    where
      go : (f : Result ℤ OpenFault) → IfOk f (ShowsAlone rows) → IsRefused f e → IfErr f (IsWantingOr NotARegistry) → IsWantingOr NotARegistry e
      go (Ok m) shows is or = absurd (none m shows)
      go (Err k) shows is or = subst (IsWantingOr NotARegistry) (sym is.1) or

-- ---- which number a refusal names

pub names_neither : (e : OpenFault) → IsUnnumbered e → NamesNeither e
names_neither Memory none = tt
names_neither Storage none = tt
names_neither NotARegistry none = tt
names_neither (Numbered n) none = absurd none

-- a fault is passed on
pub passed_on : {A : Type 0} (P : OpenFault → Type 0) (r : Result A OpenFault) (fault : OpenFault) → IsErrAnd r (λ e. e ≡ fault) → P fault → IfErr r P
passed_on P (Ok v) fault is it = tt
passed_on P (Err e) fault is it = subst P (sym is) it

pub is_told : (s : State) (e : OpenFault) → IsUnnumbered e → IsTold s e
is_told s Memory none = tt
is_told s Storage none = tt
is_told s NotARegistry none = tt
is_told s (Numbered n) none = absurd none

pub refused_another : (found : Result ℤ OpenFault) (e : OpenFault) → IsRefused found e → IfErr found IsUnnumbered → NamesNeither e
refused_another (Ok m) e is none = subst NamesNeither (sym is.0.2) (is.0.0, is.0.1)
refused_another (Err k) e is none = subst NamesNeither (sym is.1) (names_neither k none)

pub refused_told : (s : State) (found : Result ℤ OpenFault) (e : OpenFault) → IsRefused found e → IfOk found (IsOfSchema s) → IfErr found IsUnnumbered → IsTold s e
refused_told s (Ok m) e is of none = subst (IsTold s) (sym is.0.2) (is.0.0, is.0.1, of)
refused_told s (Err k) e is of none = subst (IsTold s) (sym is.1) (is_told s k none)

-- ---- it was only read

pub old_read : (old mid : State) → IsUnchanged old mid → HoldsOldRegistry old.now → HoldsOldRegistry mid.now
old_read old mid u holds = subst HoldsOldRegistry (sym u.0.now_is) holds

idle_read : (old mid : State) → IsIdle old → IsUnchanged old mid → IsIdle mid
idle_read old mid idle u = record { is_open = u.0.is_open; autocommit = u.0.mode ∙ idle.autocommit; committed = u.0.now_is ∙ idle.committed ∙ sym u.0.committed_is }

-- what is then done is done to what was there
module _ (old mid new : State) (u : IsUnchanged old mid) where
  pub settles_read : HoldsOldRegistry old.now → (HoldsOldRegistry mid.now → SettlesOn InTables new (old_world_in mid.now)) → SettlesOn InTables new (old_world_in old.now)
  settles_read holds done = subst (λ (d : Database). SettlesOn InTables new (old_world_in d)) u.0.now_is (done (old_read old mid u holds))

  pub counts_read : (m : MovedRows) → HoldsOldRegistry old.now → (HoldsOldRegistry mid.now → m ≡ counts (olds_in mid.now)) → Some m ≡ Some (counts (olds_in old.now))
  counts_read m holds done = ap Some (done (old_read old mid u holds) ∙ ap (λ (d : Database). counts (olds_in d)) u.0.now_is)

  pub free_read : AreFree mid.now.schema names_of_two → AreFree old.now.schema names_of_two
  free_read free = subst (λ (d : Database). AreFree d.schema names_of_two) u.0.now_is free

  pub back_read : IsIdle old → HoldsOldRegistry old.now → (IsIdle mid → HoldsOldRegistry mid.now → IsBack mid new) → IsBack old new
  back_read idle holds done open_now =
      let it = done (idle_read old mid idle u) (old_read old mid u holds) open_now in
      (it.0 ∙ u.0.now_is, it.1 ∙ u.0.committed_is)

-- and a crash leaves of it what it leaves of what was there
abbrev LeftOf : Database → Trees → Type 0
LeftOf d trees = (trees ≡ d.trees) ⊎ MigratedTo (old_world_in d) trees

module _ {S : Type 0} (g : Ghosts S) (old mid new : Held S) (u : IsUnchanged (state g old) (state g mid)) (idle : IsIdle (state g old)) (holds : HoldsOldRegistry (state g old).now) where
  pub crash_done : (IsIdle (state g mid) → HoldsOldRegistry (state g mid).now → (trees : Trees) → (state g new).may_leave trees → MigratedTo (old_world_in (state g mid).now) trees × LeftOf (state g mid).now trees)
      → (trees : Trees) → (state g new).may_leave trees → MigratedTo (old_world_in (state g old).now) trees × LeftOf (state g old).now trees
  crash_done crash trees may =
      subst (λ (d : Database). MigratedTo (old_world_in d) trees × LeftOf d trees) u.0.now_is (crash (idle_read (state g old) (state g mid) idle u) (old_read (state g old) (state g mid) u holds) trees may)

  pub crash_undone : (IsIdle (state g mid) → HoldsOldRegistry (state g mid).now → (trees : Trees) → (state g new).may_leave trees → ⊤ × LeftOf (state g mid).now trees)
      → (trees : Trees) → (state g new).may_leave trees → ⊤ × LeftOf (state g old).now trees
  crash_undone crash trees may =
      subst (λ (d : Database). ⊤ × LeftOf d trees) u.0.now_is (crash (idle_read (state g old) (state g mid) idle u) (old_read (state g old) (state g mid) u holds) trees may)

-- or the reading failed
pub left_back : (old mid : State) → IsIdle old → LeavesAsWas old mid → IsBack old mid
left_back old mid idle (inl u) is_open = (u.0.now_is, u.0.committed_is)
left_back old mid idle (inr h) is_open = ((h.undone is_open).0 ∙ sym idle.committed, (h.undone is_open).1)
