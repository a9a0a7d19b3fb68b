-- What a team sees of a world, as that changes.
use Rattle.std.proofs.Common.{◌≡◌, ◌∙◌, Bool, true, false, cond, Option, Some, None, OnSome, refl, sym, ap}
use Rattle.std.specs.Prelude.{is_some, bytes_eq}
use Rattle.std.specs.FinMap.{get, remove, retain_keys, empty, get-retain_keys}
use Rattle.oci_types.specs.Text.{Text}
use Rattle.registry_model.specs.declared.level.Level.{Level}
use Rattle.registry_model.specs.World.{Repo, Grants, World, repo_at, update_repo, level_at, with_repo, with_grants}
use Rattle.registry_model.specs.Judging.{changed}
use Rattle.registry_model.specs.Command.{drop_repo}
use Rattle.registry_model.specs.Team.{Team, IsTeamOf, view}
use Rattle.registry_model.proofs.TextOrder.{bytes_same, tie, retain_inside, retain_outside, removed_outside, remove_absent}

module _ (w : World) (team : Team) where
  pub with_repo_inside : (name : Text) (r : Repo) → team.names name ≡ true → view (with_repo w name r) team ≡ with_repo (view w team) name r
  with_repo_inside name r h = ap (λ m. let v : World = record { repos = m; grants = (view w team).grants } in v) (retain_inside w.repos team.names name r h)

  pub with_repo_outside : (name : Text) (r : Repo) → team.names name ≡ false → view (with_repo w name r) team ≡ view w team
  with_repo_outside name r h = ap (λ m. let v : World = record { repos = m; grants = (view w team).grants } in v) (retain_outside w.repos team.names name r h)

  pub changed_inside : (target : Option Text) (c : Option Repo) → ((name : Text) → target ≡ Some name → OnSome c (team.names name ≡ true))
      → view (changed w target c) team ≡ changed (view w team) target c
  changed_inside None None h = refl
  changed_inside None (Some r) h = refl
  changed_inside (Some name) None h = refl
  changed_inside (Some name) (Some r) h = with_repo_inside name r (h name refl)

  pub changed_outside : (target : Option Text) (c : Option Repo) → ((name : Text) → target ≡ Some name → team.names name ≡ false)
      → view (changed w target c) team ≡ view w team
  changed_outside None None h = refl
  changed_outside None (Some r) h = refl
  changed_outside (Some name) None h = refl
  changed_outside (Some name) (Some r) h = with_repo_outside name r (h name refl)

  pub updated_outside : (name : Text) (change : Repo → Repo) (o : Option Repo) → team.names name ≡ false → view (update_repo w name change o) team ≡ view w team
  updated_outside name change None h = refl
  updated_outside name change (Some r) h = with_repo_outside name (change r) h

  -- the grants of a token that is not the team's
  pub with_grants_outside : (token : Text) (g : Grants) → team.tokens token ≡ false → view (with_grants w token g) team ≡ view w team
  with_grants_outside token g out = λ i. record { repos = retain_keys w.repos team.names; grants = λ other. by other (team.tokens other) refl (bytes_eq other token) refl i }
    where
      by : (other : Text) (b : Bool) → team.tokens other ≡ b → (e : Bool) → bytes_eq other token ≡ e
          → cond b (cond e g (w.grants other)) empty ≡ cond b (w.grants other) empty
      by other false t e k = refl
      by other true t true k = let same = bytes_same other token k in absurd (let bad : true ≡ false = sym t ∙ ap team.tokens same ∙ out in cc)
      by other true t false k = refl

  -- the look-ups of a view in the team's names
  pub seen_repo : (name : Text) → team.names name ≡ true → repo_at w name ≡ repo_at (view w team) name
  seen_repo name h = sym (get-retain_keys w.repos team.names name (tie team.names name) ∙ ap (λ b. cond b (get w.repos name) None) h)

  pub own_grants : (token : Text) → team.tokens token ≡ true → (view w team).grants token ≡ w.grants token
  own_grants token h = ap (λ b. cond b (w.grants token) empty) h

  -- a name outside has no level of the team's
  pub no_level : IsTeamOf w team → (token name : Text) → team.tokens token ≡ true → team.names name ≡ false → level_at w token name ≡ None
  no_level mine token name t out = by (level_at w token name) refl
    where
      by : (o : Option Level) → level_at w token name ≡ o → o ≡ None
      by None e = refl
      by (Some level) e = absurd (let bad = sym (mine token name t (ap is_some e)) ∙ out in cc)

  pub dropped_outside : IsTeamOf w team → (name : Text) → team.names name ≡ false → view (drop_repo w name) team ≡ view w team
  dropped_outside mine name out = λ i. record { repos = removed_outside w.repos team.names name out i; grants = λ token. by token (team.tokens token) refl i }
    where
      by : (token : Text) (b : Bool) → team.tokens token ≡ b → cond b (remove (w.grants token) name) empty ≡ cond b (w.grants token) empty
      by token false t = refl
      by token true t = remove_absent (w.grants token) name (no_level mine token name t out)
