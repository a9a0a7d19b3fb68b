-- Steps aside leave what a team sees, in each world that their list reaches.
use Rattle.std.proofs.Common.{◌≡◌, ◌∙◌, ℕ, ◌≤◌, ◌⊎◌, inl, inr, Bool, true, false, cond, nat_le, List, All, Option, Some, None, IfSome, OnSome, refl, sym, ap, subst, arith}
use Rattle.std.specs.Prelude.{is_some, bytes_eq}
use Rattle.std.specs.Ordering.{eq_by_cmp}
use Rattle.std.specs.FinMap.{get, insert, remove, empty, get-empty, get-insert, get-remove}
use Rattle.std.proofs.lemmas.Bool.Decides.{nat_tests}
use Rattle.oci_types.specs.Text.{Text}
use Rattle.oci_types.specs.Token.{is_token}
use Rattle.registry_model.specs.declared.level.Level.{Level}
use Rattle.registry_model.specs.declared.admin.AdminCommand.{AdminCommand}
use Rattle.registry_model.specs.declared.admin.AdminCommand.TheVariants.{AddRepo, SetQuota, DropRepo, Grant, Revoke, RevokeAll, DropSessions, Prune, Clear}
use Rattle.registry_model.specs.declared.admin.AdminFault.{AdminFault}
use Rattle.registry_model.specs.World.{text_cmp, Repo, Grants, World, repo_at, level_at, update_repo}
use Rattle.registry_model.specs.Ask.{Ask}
use Rattle.registry_model.specs.Decision.{refuses}
use Rattle.registry_model.specs.Operation.{addressed, rank, rank_of}
use Rattle.registry_model.specs.Command.{with_quota, grant, revoke, revoke_all, drop_repo, without_sessions, refusal_of, carried_out, after_command}
use Rattle.registry_model.specs.Pruning.{pruned}
use Rattle.registry_model.specs.Judging.{decision, judged, decided, changed, after_request, unnamed}
use Rattle.registry_model.specs.Team.{Team, IsTeamOf, view, Step, asks, orders, is_reading, GivesNoPush, NeverPushes, MayNotPush, IsElsewhere, OwnOrAside}
use Rattle.registry_model.specs.Runs.{after}
use Rattle.registry_model.proofs.TextOrder.{text_total, bytes_same, same_key, remove_absent}
use Rattle.registry_model.proofs.JudgingLaws.{reading_changes, decision_changes}
use Rattle.registry_model.proofs.ResourceLaws.{change_at, unchanged}
use Rattle.registry_model.proofs.ViewLaws.{changed_outside, updated_outside, with_repo_outside, with_grants_outside, no_level, dropped_outside}

-- what stays since the first world of a list
pub record Since (first : World) (all : List Step) (team : Team) (w : World) : Type 0 where
  pub same : (token : Text) → team.tokens token ≡ true → w.grants token ≡ first.grants token
  pub low : (u name : Text) → NeverPushes first all u name → rank_of (level_at w u name) ≤ 1

pub still_team : (first : World) (all : List Step) (team : Team) (w : World) → Since first all team w → IsTeamOf first team → IsTeamOf w team
still_team first all team w s mine token name t some = mine token name t (subst (λ g. is_some (get g name) ≡ true) (s.same token t) some)

same_grants : (w : World) (t : Option Text) (c : Option Repo) → (changed w t c).grants ≡ w.grants
same_grants w None None = refl
same_grants w None (Some r) = refl
same_grants w (Some t) None = refl
same_grants w (Some t) (Some r) = refl

pub updated_grants : (w : World) (name : Text) (change : Repo → Repo) (o : Option Repo) → (update_repo w name change o).grants ≡ w.grants
updated_grants w name change None = refl
updated_grants w name change (Some r) = refl

-- the grants stayed
kept_grants : (first : World) (all : List Step) (team : Team) (w v : World) → v.grants ≡ w.grants → Since first all team w → Since first all team v
kept_grants first all team w v e s = record {
  same = λ token t. ap (λ g. g token) e ∙ s.same token t;
  low = λ u name h. subst (λ g. rank_of (get (g u) name) ≤ 1) (sym e) (s.low u name h);
}

-- a level that was set, and the others
level_low : (w : World) (token name : Text) (level : Level) (u n : Text) (b c : Bool) → bytes_eq u token ≡ b → eq_by_cmp text_cmp n name ≡ c
    → (token ≡ u → name ≡ n → rank level ≤ 1) → rank_of (level_at w u n) ≤ 1 → rank_of (level_at (grant w token name level) u n) ≤ 1
level_low w token name level u n true true e f gives low =
    rw (e, get-insert text_total, f) (gives (sym (bytes_same u token e)) (sym (same_key n name f)))
level_low w token name level u n true false e f gives low =
    rw (e, get-insert text_total, f) (subst (λ x. rank_of (level_at w x n) ≤ 1) (bytes_same u token e) low)
level_low w token name level u n false c e f gives low = rw e low

-- a level that was taken away, and the others
removed_low : (g : Grants) (name n : Text) (c : Bool) → eq_by_cmp text_cmp n name ≡ c → rank_of (get g n) ≤ 1 → rank_of (get (remove g name) n) ≤ 1
removed_low g name n true f low = rw (get-remove text_total, f) (omega arith)
removed_low g name n false f low = rw (get-remove text_total, f) low

revoked_low : (w : World) (token name u n : Text) (b : Bool) → bytes_eq u token ≡ b → rank_of (level_at w u n) ≤ 1 → rank_of (level_at (revoke w token name) u n) ≤ 1
revoked_low w token name u n true e low =
    rw e (removed_low (w.grants token) name n _ refl (subst (λ x. rank_of (level_at w x n) ≤ 1) (bytes_same u token e) low))
revoked_low w token name u n false e low = rw e low

-- of a token whose levels all went, and of the others
emptied_low : (w : World) (token u n : Text) (b : Bool) → bytes_eq u token ≡ b → rank_of (level_at w u n) ≤ 1 → rank_of (level_at (revoke_all w token) u n) ≤ 1
emptied_low w token u n true e low = rw (e, get-empty text_cmp) (omega arith)
emptied_low w token u n false e low = rw e low

other_token : (team : Team) (token other : Text) → team.tokens token ≡ false → team.tokens other ≡ true → (b : Bool) → bytes_eq other token ≡ b → b ≡ false
other_token team token other out in_team true e = absurd (let bad : true ≡ false = sym in_team ∙ ap team.tokens (bytes_same other token e) ∙ out in cc)
other_token team token other out in_team false e = refl

-- a command that is refused, or one that is not
by_refusal : (P : World → Type 0) (w : World) (a : AdminCommand) → P w → P (carried_out w a) → P (after_command w a)
by_refusal P w a refused done = by (refusal_of w a)
  where
    by : (o : Option AdminFault) → P (elim o as (λ _. World) [ None ↦ carried_out w a | Some e ↦ w ])
    by None = done
    by (Some e) = refused

module _ (first : World) (all : List Step) (team : Team) (mine : IsTeamOf first team) (w : World) (s : Since first all team w) where
  now_mine : IsTeamOf w team
  now_mine = still_team first all team w s mine

  since_grant : (token name : Text) (level : Level) → team.tokens token ≡ false
      → ((u n : Text) → All (GivesNoPush u n) all → token ≡ u → name ≡ n → rank level ≤ 1)
      → Since first all team (grant w token name level)
  since_grant token name level out gives = record {
    same = λ other t. ap (λ b. cond b (insert (w.grants token) name level) (w.grants other)) (other_token team token other out t (bytes_eq other token) refl) ∙ s.same other t;
    low = λ u n h. level_low w token name level u n _ _ refl refl (gives u n h.1) (s.low u n h);
  }

  since_revoke : (token name : Text) → team.tokens token ≡ false → Since first all team (revoke w token name)
  since_revoke token name out = record {
    same = λ other t. ap (λ b. cond b (remove (w.grants token) name) (w.grants other)) (other_token team token other out t (bytes_eq other token) refl) ∙ s.same other t;
    low = λ u n h. revoked_low w token name u n _ refl (s.low u n h);
  }

  since_revoke_all : (token : Text) → team.tokens token ≡ false → Since first all team (revoke_all w token)
  since_revoke_all token out = record {
    same = λ other t. ap (λ b. cond b empty (w.grants other)) (other_token team token other out t (bytes_eq other token) refl) ∙ s.same other t;
    low = λ u n h. emptied_low w token u n _ refl (s.low u n h);
  }

  since_drop : (name : Text) → team.names name ≡ false → Since first all team (drop_repo w name)
  since_drop name out = record {
    same = λ token t. remove_absent (w.grants token) name (no_level w team now_mine token name t out) ∙ s.same token t;
    low = λ u n h. removed_low (w.grants u) name n _ refl (s.low u n h);
  }

  since_order : (a : AdminCommand) → OwnOrAside first all team (orders a) → ((u n : Text) → All (GivesNoPush u n) all → GivesNoPush u n (orders a))
      → Since first all team (carried_out w a)
  since_order (AddRepo name quota) h gives = kept_grants first all team w _ refl s
  since_order (SetQuota name quota) h gives = kept_grants first all team w _ refl s
  since_order (DropRepo name) h gives = since_drop name.now h
  since_order (Grant token name level) h gives = since_grant token.now name.now level h gives
  since_order (Revoke token name) h gives = since_revoke token.now name.now h
  since_order (RevokeAll token) h gives = since_revoke_all token.now h
  since_order (DropSessions name) h gives = kept_grants first all team w _ (updated_grants w name.now without_sessions (repo_at w name.now)) s
  since_order (Prune name) h gives = kept_grants first all team w _ (updated_grants w name.now pruned (repo_at w name.now)) s
  since_order Clear h gives = s

  pub since : (st : Step) → OwnOrAside first all team st → ((u n : Text) → All (GivesNoPush u n) all → GivesNoPush u n st) → Since first all team (after w st)
  since (asks q) h gives = kept_grants first all team w _ (same_grants w (addressed q.form) (decided w q).change) s
  since (orders a) h gives = by_refusal (λ v. Since first all team v) w a s (since_order a h gives)

  -- ---- requests

  none_of_reading : (o : Option Text) (q : Ask) → is_reading q.verb ≡ true → (judged w o q).change ≡ None
  none_of_reading None q r = refl
  none_of_reading (Some token) q r = by (is_token token)
    where
      by : (b : Bool) → (cond b (decision (w.grants token) (repo_at w) q) (unnamed q)).change ≡ None
      by true = reading_changes (w.grants token) (repo_at w) q r
      by false = refl

  no_change : (c : Option Repo) (n : ℕ) → OnSome c (nat_le 2 n ≡ true) → n ≤ 1 → c ≡ None
  no_change None n h low = refl
  no_change (Some r) n h low = absurd (grind (arith, nat_tests))

  none_pushed : (u : Text) (q : Ask) (name : Text) → addressed q.form ≡ Some name → NeverPushes first all u name → (judged w (Some u) q).change ≡ None
  none_pushed u q name e never = by (is_token u)
    where
      by : (b : Bool) → (cond b (decision (w.grants u) (repo_at w) q) (unnamed q)).change ≡ None
      by true = no_change (decision (w.grants u) (repo_at w) q).change (rank_of (level_at w u name)) (decision_changes (w.grants u) (repo_at w) q name e) (s.low u name never)
      by false = refl

  elsewhere : (q : Ask) → IsElsewhere team q.form → (name : Text) → addressed q.form ≡ Some name → team.names name ≡ false
  elsewhere q h name e = subst (λ o. IfSome o (λ n. team.names n ≡ false)) e h

  may_not : (o : Option Text) (q : Ask) (name : Option Text) → addressed q.form ≡ name
      → MayNotPush first all o name → changed w name (judged w o q).change ≡ w
  may_not None q name a h = unchanged w name
  may_not (Some u) q None a h = same_world (judged w (Some u) q).change
    where
      same_world : (c : Option Repo) → changed w None c ≡ w
      same_world None = refl
      same_world (Some r) = refl
  may_not (Some u) q (Some name) a h = ap (λ c. changed w (Some name) c) (none_pushed u q name a h)

  pub aside_request : (q : Ask) → IsElsewhere team q.form ⊎ ((is_reading q.verb ≡ true) ⊎ MayNotPush first all q.token (addressed q.form))
      → view (after_request w q) team ≡ view w team
  aside_request q (inl h) = changed_outside w team (addressed q.form) (decided w q).change (λ name e. elsewhere q h name e)
  aside_request q (inr (inl r)) =
      ap (λ c. view (changed w (addressed q.form) c) team) (change_at (λ c. c ≡ None) refl q.resource q (judged w q.token q) (none_of_reading q.token q r)) ∙ ap (λ v. view v team) (unchanged w (addressed q.form))
  aside_request q (inr (inr h)) = ap (λ v. view v team)
      (change_at (λ c. changed w (addressed q.form) c ≡ w) (unchanged w (addressed q.form)) q.resource q (judged w q.token q) (may_not q.token q (addressed q.form) refl h))

  -- ---- commands

  carried_aside : (a : AdminCommand) → OwnOrAside first all team (orders a) → view (carried_out w a) team ≡ view w team
  carried_aside (AddRepo name quota) h = with_repo_outside w team name.now (with_quota (repo_at w name.now) quota.bytes) h
  carried_aside (SetQuota name quota) h = with_repo_outside w team name.now (with_quota (repo_at w name.now) quota.bytes) h
  carried_aside (DropRepo name) h = dropped_outside w team now_mine name.now h
  carried_aside (Grant token name level) h = with_grants_outside w team token.now (insert (w.grants token.now) name.now level) h
  carried_aside (Revoke token name) h = with_grants_outside w team token.now (remove (w.grants token.now) name.now) h
  carried_aside (RevokeAll token) h = with_grants_outside w team token.now empty h
  carried_aside (DropSessions name) h = updated_outside w team name.now without_sessions (repo_at w name.now) h
  carried_aside (Prune name) h = updated_outside w team name.now pruned (repo_at w name.now) h
  carried_aside Clear h = refl

  pub aside_order : (a : AdminCommand) → OwnOrAside first all team (orders a) → view (after w (orders a)) team ≡ view w team
  aside_order a h = by_refusal (λ v. view v team ≡ view w team) w a refl (carried_aside a h)
