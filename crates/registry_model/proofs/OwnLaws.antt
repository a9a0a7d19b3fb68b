-- A team's own requests, answered from what the team sees.
use Rattle.std.proofs.Common.{◌≡◌, ◌∙◌, Bool, true, false, cond, nat_le, Option, Some, None, OnSome, refl, sym, ap}
use Rattle.std.specs.Prelude.{is_some}
use Rattle.oci_types.specs.Text.{Text}
use Rattle.oci_types.specs.Token.{is_token}
use Rattle.registry_model.specs.declared.level.Level.{Level}
use Rattle.registry_model.specs.World.{Repo, World, repo_at, level_at}
use Rattle.registry_model.specs.Ask.{Ask}
use Rattle.registry_model.specs.Decision.{refuses}
use Rattle.registry_model.specs.Operation.{addressed, rank_of}
use Rattle.registry_model.specs.Judging.{decision, judged, decided_at, decided, changed, reply_to, after_request, unnamed}
use Rattle.registry_model.specs.Team.{Team, IsTeamOf, view, is_own}
use Rattle.registry_model.proofs.JudgingLaws.{decision_same, decision_changes, MayPush}
use Rattle.registry_model.proofs.ResourceLaws.{change_at}
use Rattle.registry_model.proofs.ViewLaws.{changed_inside, seen_repo, own_grants}

push_some : (o : Option Level) → nat_le 2 (rank_of o) ≡ true → is_some o ≡ true
push_some None e = absurd (cc)
push_some (Some level) e = refl

module _ (w : World) (team : Team) (mine : IsTeamOf w team) where
  judged_as : (token : Text) → team.tokens token ≡ true → (q : Ask) → judged w (Some token) q ≡ judged (view w team) (Some token) q
  judged_as token h q =
      ap (λ x. cond (is_token token) x (unnamed q)) (
      decision_same (w.grants token) (repo_at w) (repo_at (view w team)) (λ name some. seen_repo w team name (mine token name h some)) q
      ∙ ap (λ g. decision g (repo_at (view w team)) q) (sym (own_grants w team token h)))

  same_judged : (o : Option Text) → is_own team o ≡ true → (q : Ask) → judged w o q ≡ judged (view w team) o q
  same_judged None h q = absurd (cc)
  same_judged (Some token) h q = judged_as token h q

  pub own_reply : (q : Ask) → is_own team q.token ≡ true → reply_to w q ≡ reply_to (view w team) q
  own_reply q h = ap (λ d. (decided_at q.resource q d).reply) (same_judged q.token h q)

  inside : (o : Option Text) → is_own team o ≡ true → (q : Ask) (name : Text) → addressed q.form ≡ Some name
      → OnSome (judged w o q).change (team.names name ≡ true)
  inside None h q name e = absurd (cc)
  inside (Some token) h q name e = by (is_token token)
    where
      named : (c : Option Repo) → OnSome c (MayPush (w.grants token) name) → OnSome c (team.names name ≡ true)
      named None k = tt
      named (Some r) k = mine token name h (push_some (level_at w token name) k)

      by : (b : Bool) → OnSome (cond b (decision (w.grants token) (repo_at w) q) (unnamed q)).change (team.names name ≡ true)
      by true = named _ (decision_changes (w.grants token) (repo_at w) q name e)
      by false = tt

  pub own_after : (q : Ask) → is_own team q.token ≡ true → view (after_request w q) team ≡ after_request (view w team) q
  own_after q h =
      changed_inside w team (addressed q.form) (decided w q).change
      (λ name e. change_at (λ c. OnSome c (team.names name ≡ true)) tt q.resource q (judged w q.token q) (inside q.token h q name e))
      ∙ ap (λ d. changed (view w team) (addressed q.form) (decided_at q.resource q d).change) (same_judged q.token h q)
