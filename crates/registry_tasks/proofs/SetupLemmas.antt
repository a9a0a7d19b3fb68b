-- What comes of a setup: a world from which is served, or a reason for which nobody is.
use Rattle.std.proofs.Common.{◌≡◌, ◌⊎◌, ◌∙◌, true, false, List, [], ◌∷◌, Result, Ok, Err, inl, inr, ap, sym, subst}
use Rattle.std.specs.Prelude.{MatchResult, Bool, if◌then◌else◌}
use Rattle.registry_model.specs.World.{World, no_world, has_repo}
use Rattle.registry_model.specs.Command.{set_repo, grant}
use Rattle.registry_model.specs.Keeping.{State}
use Rattle.registry_orders.specs.declared.failure.Failure.{Failure}
use Rattle.registry_orders.specs.declared.failure.Failure.TheVariants as failure
use Rattle.registry_orders.specs.declared.options.Setup.{Setup}
use Rattle.registry_orders.specs.declared.options.RepoOption.{RepoOption}
use Rattle.registry_orders.specs.declared.options.GrantOption.{GrantOption}
use Rattle.registry_orders.specs.Failures.{status_of}
use Rattle.registry_orders.specs.Setting.{with_repos, with_levels, levels_if, world_by, SetsUp}

-- ---- what a setup is refused for is told by 1

there_fault : (there : Bool) (next : Result World Failure) (f : Failure) → (next ≡ Err f → status_of f ≡ 1)
    → (if there then Err failure.RepoThere else next) ≡ Err f → status_of f ≡ 1
there_fault true next f later e = ap status_of (sym (let same : failure.RepoThere ≡ f = cc in same))
there_fault false next f later e = later e

missing_fault : (there : Bool) (next : Result World Failure) (f : Failure) → (next ≡ Err f → status_of f ≡ 1)
    → (if there then next else Err failure.NoRepo) ≡ Err f → status_of f ≡ 1
missing_fault true next f later e = later e
missing_fault false next f later e = ap status_of (sym (let same : failure.NoRepo ≡ f = cc in same))

repos_fault : (os : List RepoOption) (w : World) (f : Failure) → with_repos w os ≡ Err f → status_of f ≡ 1
repos_fault [] w f e = absurd (let x : Ok w ≡ Err f = e in cc)
repos_fault (o ∷ os) w f e = there_fault (has_repo w o.name) (with_repos (set_repo w o.name o.quota.bytes) os) f (repos_fault os (set_repo w o.name o.quota.bytes) f) e

levels_fault : (os : List GrantOption) (w : World) (f : Failure) → with_levels w os ≡ Err f → status_of f ≡ 1
levels_fault [] w f e = absurd (let x : Ok w ≡ Err f = e in cc)
levels_fault (o ∷ os) w f e = missing_fault (has_repo w o.name) (with_levels (grant w o.token o.name o.level) os) f (levels_fault os (grant w o.token o.name o.level) f) e

pub setup_fault : (setup : Setup) (f : Failure) → world_by setup ≡ Err f → status_of f ≡ 1
setup_fault setup f e = go (with_repos no_world setup.repos.items) (repos_fault setup.repos.items no_world f) e
  where
    go : (r : Result World Failure) → (r ≡ Err f → status_of f ≡ 1) → levels_if r setup.grants.items ≡ Err f → status_of f ≡ 1
    go (Ok w) first e = levels_fault setup.grants.items w f e
    go (Err x) first e = first e

-- ---- what comes of it, where no storage fails

module _ (Serves : World → Type 0) (Stops : Failure → Type 0) (setup : Setup) where
  abbrev pub Comes : Type 0
  Comes = Stops failure.OutOfMemory ⊎ MatchResult (world_by setup) Serves Stops

  pub served : (w : World) → world_by setup ≡ Ok w → Serves w → Comes
  served w m s = inr (subst (λ r. MatchResult r Serves Stops) (sym m) s)

  refused : (f : Failure) → world_by setup ≡ Err f → Stops f → Comes
  refused f m g = inr (subst (λ r. MatchResult r Serves Stops) (sym m) g)

  pub stopped : (f : Failure) (s : State) → SetsUp (world_by setup) (Err f) s → s.spent ≡ false → Stops f → Comes
  stopped failure.OutOfMemory s m spent g = inl g
  stopped failure.StorageFailure s m spent g = absurd (let x : true ≡ false = sym m ∙ spent in cc)
  stopped failure.NoRepo s m spent g = refused failure.NoRepo m g
  stopped failure.NoGrant s m spent g = refused failure.NoGrant m g
  stopped failure.RepoThere s m spent g = refused failure.RepoThere m g
  stopped failure.InvalidName s m spent g = refused failure.InvalidName m g
  stopped failure.InvalidToken s m spent g = refused failure.InvalidToken m g
  stopped failure.InvalidOptions s m spent g = refused failure.InvalidOptions m g
  stopped (failure.Schema n) s m spent g = refused (failure.Schema n) m g
  stopped failure.NotARegistry s m spent g = refused failure.NotARegistry m g
  stopped failure.Damaged s m spent g = refused failure.Damaged m g
  stopped failure.ConnectionFailure s m spent g = refused failure.ConnectionFailure m g
