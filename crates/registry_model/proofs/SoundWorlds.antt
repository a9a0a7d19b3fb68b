-- Requests and commands keep a sound world sound.
use Rattle.std.proofs.Common.{◌≡◌, ◌∙◌, inl, inr, ℕ, ◌≤◌, Bool, true, false, cond, List, [], ◌∷◌, Option, Some, None, IfSome, refl, sym, ap, subst, arith}
use Rattle.std.specs.Prelude.{is_some, bytes_eq}
use Rattle.std.specs.FinMap.{get, insert, remove, empty, get-empty}
use Rattle.oci_types.specs.Text.{Text}
use Rattle.oci_types.specs.RepoName.{is_repo_name}
use Rattle.oci_types.specs.Token.{is_token}
use Rattle.registry_model.specs.declared.level.Level.{Level}
use Rattle.registry_model.specs.declared.quota.Quota.{Quota}
use Rattle.registry_model.specs.declared.request.Verb.{Verb}
use Rattle.registry_model.specs.declared.request.Verb.TheVariants as verb
use Rattle.registry_model.specs.declared.admin.AdminCommand.{AdminCommand}
use Rattle.registry_model.specs.declared.admin.AdminCommand.TheVariants.{AddRepo, SetQuota, DropRepo, Grant, Revoke, RevokeAll, DropSessions, Prune, Clear}
use Rattle.registry_model.specs.declared.admin.AdminFault.{AdminFault}
use Rattle.registry_model.specs.declared.admin.AdminFault.TheVariants.{NoRepo}
use Rattle.registry_model.specs.World.{text_cmp, Repo, Grants, World, no_world, repo_at, has_repo, is_known, with_repo, update_repo, with_grants}
use Rattle.registry_model.specs.Limits.{largest}
use Rattle.registry_model.specs.Soundness.{IsSoundRepo, IsSound}
use Rattle.registry_model.specs.Form.{Form, no_form, base, blob, uploads, session, manifest, tags, referrers}
use Rattle.registry_model.specs.Ask.{Ask}
use Rattle.registry_model.specs.Operation.{Operation, operation_of, addressed}
use Rattle.registry_model.specs.Decision.{in_repo}
use Rattle.registry_model.specs.Judging.{operate, allows, granted, decide, at_base, served_on, decision, judged, decided, changed, after_request}
use Rattle.registry_model.specs.Command.{with_quota, set_repo, grant, revoke, revoke_all, drop_repo, without_sessions, refusal_of, after_command}
use Rattle.registry_model.specs.Pruning.{pruned}
use Rattle.registry_model.specs.Team.{Step, asks, orders}
use Rattle.registry_model.specs.Runs.{Outcome, after, after_all}
use Rattle.registry_model.proofs.ResourceLaws.{change_at}
use Rattle.registry_model.proofs.TextOrder.{text_total, exact_texts}
use Rattle.registry_model.proofs.ChangedMaps.{not_Some, got_insert, stays_there, got_remove, left_there}
use Rattle.registry_model.proofs.SoundRepositories.{sound_new, sound_quota, sound_without_sessions}
use Rattle.registry_model.proofs.PruningLaws.{sound_pruned}
use Rattle.registry_model.proofs.SoundOperations.{IsSoundDecision, by_test, sound_operation}

-- ---- requests

module _ (grants : Grants) (repos : Text → Option Repo) (all : (name : Text) (r : Repo) → repos name ≡ Some r → IsSoundRepo r) where
  sound_in : (name : Text) (op : Operation) (body : Text) (o : Option Repo) → repos name ≡ o → IsSoundDecision (in_repo o (λ r. operate grants repos r name op body))
  sound_in name op body None e = tt
  sound_in name op body (Some r) e = sound_operation r (all name r e) grants repos all name op body

  sound_granted : (name : Text) (form : Form) (op : Option Operation) (body : Text) → IsSoundDecision (granted grants repos name form op body)
  sound_granted name form None body = tt
  sound_granted name form (Some op) body = by_test (allows grants name op) _ _ (λ _. sound_in name op body (repos name) refl) (λ _. tt)

  sound_decided : (name : Text) (q : Ask) → IsSoundDecision (decide grants repos name q)
  sound_decided name q = by_test (is_repo_name name) _ _ (λ _. sound_granted name q.form (operation_of q) q.body) (λ _. tt)

  sound_base : (v : Verb) → IsSoundDecision (at_base v)
  sound_base verb.Get = tt
  sound_base verb.Head = tt
  sound_base verb.Post = tt
  sound_base verb.Patch = tt
  sound_base verb.Put = tt
  sound_base verb.Delete = tt
  sound_base verb.Other = tt

  sound_served : (form : Form) (q : Ask) → IsSoundDecision (served_on grants repos form q)
  sound_served no_form q = tt
  sound_served base q = sound_base q.verb
  sound_served (blob name digest) q = sound_decided name q
  sound_served (uploads name) q = sound_decided name q
  sound_served (session name reference) q = sound_decided name q
  sound_served (manifest name reference) q = sound_decided name q
  sound_served (tags name) q = sound_decided name q
  sound_served (referrers name digest) q = sound_decided name q

  sound_decision : (q : Ask) → IsSoundDecision (decision grants repos q)
  sound_decision q = by_test (is_known grants) _ _ (λ _. sound_served q.form q) (λ _. tt)

module _ (w : World) (s : IsSound w) where
  sound_judged : (token : Option Text) (q : Ask) → IsSoundDecision (judged w token q)
  sound_judged None q = tt
  sound_judged (Some token) q = by_test (is_token token) _ _ (λ _. sound_decision (w.grants token) (repo_at w) s.repos q) (λ _. tt)

  -- a repository that is sound, under its name
  sound_with_repo : (name : Text) (r : Repo) → IsSoundRepo r → IsSound (with_repo w name r)
  sound_with_repo name r k = record {
    repos = λ other x e. elim (got_insert text_total exact_texts w.repos name r other x e) as (λ _. IsSoundRepo x) [
      | inl p ↦ subst (λ y. IsSoundRepo y) p.1 k
      | inr p ↦ s.repos other x p
    ];
    grants = λ token other level e. stays_there text_total exact_texts w.repos name r other (s.grants token other level e);
  }

  sound_changed : (name : Option Text) (c : Option Repo) → IfSome c IsSoundRepo → IsSound (changed w name c)
  sound_changed None None h = s
  sound_changed None (Some r) h = s
  sound_changed (Some name) None h = s
  sound_changed (Some name) (Some r) h = sound_with_repo name r h

  pub sound_after_request : (q : Ask) → IsSound (after_request w q)
  sound_after_request q = sound_changed (addressed q.form) (decided w q).change
      (change_at (λ c. IfSome c IsSoundRepo) tt q.resource q (judged w q.token q) (sound_judged q.token q))

  -- ---- commands

  sound_with_quota : (name : Text) (quota : ℕ) → quota ≤ largest → (o : Option Repo) → repo_at w name ≡ o → IsSoundRepo (with_quota o quota)
  sound_with_quota name quota q None e = sound_new quota q
  sound_with_quota name quota q (Some r) e = sound_quota r (s.repos name r e) quota q

  sound_set : (name : Text) (quota : ℕ) → quota ≤ largest → IsSound (set_repo w name quota)
  sound_set name quota q = sound_with_repo name (with_quota (repo_at w name) quota) (sound_with_quota name quota q (repo_at w name) refl)

  sound_with_grants : (token : Text) (g : Grants) → ((name : Text) (level : Level) → get g name ≡ Some level → has_repo w name ≡ true) → IsSound (with_grants w token g)
  sound_with_grants token g h = record { repos = s.repos; grants = λ other name level e. by other name level (bytes_eq other token) e }
    where
      by : (other name : Text) (level : Level) (b : Bool) → get (cond b g (w.grants other)) name ≡ Some level → has_repo w name ≡ true
      by other name level true e = h name level e
      by other name level false e = s.grants other name level e

  sound_grant : (token name : Text) (level : Level) → has_repo w name ≡ true → IsSound (grant w token name level)
  sound_grant token name level there = sound_with_grants token (insert (w.grants token) name level) (λ other x e.
      elim (got_insert text_total exact_texts (w.grants token) name level other x e) as (λ _. has_repo w other ≡ true) [
        | inl p ↦ subst (λ n. has_repo w n ≡ true) (sym p.0) there
        | inr p ↦ s.grants token other x p
      ])

  sound_revoke : (token name : Text) → IsSound (revoke w token name)
  sound_revoke token name = sound_with_grants token (remove (w.grants token) name) (λ other x e. s.grants token other x (got_remove text_total exact_texts (w.grants token) name other x e).0)

  sound_revoke_all : (token : Text) → IsSound (revoke_all w token)
  sound_revoke_all token = sound_with_grants token empty (λ other x e. absurd (not_Some x (sym (get-empty text_cmp other) ∙ e)))

  sound_drop : (name : Text) → IsSound (drop_repo w name)
  sound_drop name = record {
    repos = λ other r e. s.repos other r (got_remove text_total exact_texts w.repos name other r e).0;
    grants = λ token other level e.
        let k = got_remove text_total exact_texts (w.grants token) name other level e in
        left_there text_total exact_texts w.repos name other (s.grants token other level k.0) k.1;
  }

  sound_update : (name : Text) (change : Repo → Repo) → ((r : Repo) → IsSoundRepo r → IsSoundRepo (change r)) → (o : Option Repo) → repo_at w name ≡ o
      → IsSound (update_repo w name change o)
  sound_update name change kept None e = s
  sound_update name change kept (Some r) e = sound_with_repo name (change r) (kept r (s.repos name r e))

  -- unless it is refused
  unless : (o : Option AdminFault) (v : World) → (o ≡ None → IsSound v) → IsSound (elim o as (λ _. World) [ None ↦ v | Some e ↦ w ])
  unless None v h = h refl
  unless (Some e) v h = s

  is_there : (b : Bool) → cond b None (Some NoRepo) ≡ None → b ≡ true
  is_there true e = refl
  is_there false e = absurd (let bad : true ≡ false = ap is_some e in cc)

  in_range : (quota : Quota) → quota.bytes ≤ largest
  in_range quota = let low = quota.in_range in omega (arith, low)

  pub sound_after_command : (a : AdminCommand) → IsSound (after_command w a)
  sound_after_command (AddRepo name quota) = unless (refusal_of w (AddRepo name quota)) _ (λ _. sound_set name.now quota.bytes (in_range quota))
  sound_after_command (SetQuota name quota) = unless (refusal_of w (SetQuota name quota)) _ (λ _. sound_set name.now quota.bytes (in_range quota))
  sound_after_command (DropRepo name) = unless (refusal_of w (DropRepo name)) _ (λ _. sound_drop name.now)
  sound_after_command (Grant token name level) = unless (refusal_of w (Grant token name level)) _ (λ e. sound_grant token.now name.now level (is_there (has_repo w name.now) e))
  sound_after_command (Revoke token name) = unless (refusal_of w (Revoke token name)) _ (λ _. sound_revoke token.now name.now)
  sound_after_command (RevokeAll token) = unless (refusal_of w (RevokeAll token)) _ (λ _. sound_revoke_all token.now)
  sound_after_command (DropSessions name) = unless (refusal_of w (DropSessions name)) _ (λ _. sound_update name.now without_sessions sound_without_sessions (repo_at w name.now) refl)
  sound_after_command (Prune name) = unless (refusal_of w (Prune name)) _ (λ _. sound_update name.now pruned sound_pruned (repo_at w name.now) refl)
  sound_after_command Clear = s

-- ---- from the empty world on

pub sound_no_world : IsSound no_world
sound_no_world = record {
  repos = λ name r e. absurd (not_Some r (sym (get-empty text_cmp name) ∙ e));
  grants = λ token name level e. absurd (not_Some level (sym (get-empty text_cmp name) ∙ e));
}

sound_after : (w : World) → IsSound w → (st : Step) → IsSound (after w st)
sound_after w s (asks q) = sound_after_request w s q
sound_after w s (orders a) = sound_after_command w s a

pub sound_after_all : (w : World) (pairs : List (Step × Outcome)) → IsSound w → IsSound (after_all w pairs)
sound_after_all w [] s = s
sound_after_all w (p ∷ others) s = sound_after_all (after w p.0) others (sound_after w s p.0)
