-- The order of refusals, and the operation behind it.
use Rattle.std.proofs.Common.{◌≡◌, ◌∙◌, true, false, cond, nat_le, Option, Some, None, inl, inr, refl, sym, ap, subst}
use Rattle.std.specs.Prelude.{Result, Ok, Err, is_some, ◌⊎◌}
use Rattle.std.specs.Result.{IsErr, IsErrAnd}
use Rattle.oci_types.specs.Text.{Text}
use Rattle.oci_types.specs.RepoName.{is_repo_name}
use Rattle.oci_types.specs.declared.fault.Fault.{Fault}
use Rattle.oci_types.specs.declared.fault.Fault.TheVariants.{Memory, Storage}
use Rattle.oci_types.specs.declared.fault.NameFault.{NameFault}
use Rattle.oci_types.specs.declared.fault.NameFault.TheVariants as fault
use Rattle.registry_model.specs.declared.level.Level.{Level}
use Rattle.registry_model.specs.declared.refusal.Refusal.TheVariants.{InvalidName, AccessDenied}
use Rattle.registry_model.specs.declared.reply.Reply.{Reply}
use Rattle.std.specs.FinMap.{get}
use Rattle.registry_model.specs.World.{World, Repo, Grants, repo_at}
use Rattle.registry_model.specs.Heads.{is_sent}
use Rattle.registry_model.specs.Answer.{Answer, answer_of, refused}
use Rattle.registry_model.specs.Ask.{Ask}
use Rattle.registry_model.specs.Decision.{Decision, refuses, tells, in_repo}
use Rattle.registry_model.specs.Doing.{course_of_answer, answered}
use Rattle.registry_model.specs.Operation.{Operation, valid_name, operation_of, needed_level, rank, rank_of}
use Rattle.registry_model.specs.Judging.{operate, granted, decide, changed}
use Rattle.registry_model.specs.Keeping.{Kept, goes_on, WritesBy, Spends}
use Rattle.operation_parts.specs.Operating.{Answers, Carries, Comes, ComesOn, Operates}
use Rattle.operation_parts.proofs.FailedCalls.{Failed}

-- the clauses of a reply that is to be this, with this world behind it
abbrev pub Replies : Result Reply Fault → Answer → World → Type 0 → Kept → Kept → Type 0 → Type 0 → Type 0
Replies r a w whole s s' before after =
    record { comes : after → WritesBy answer_of r a w s s'; answers : Answers r; carries : whole → Carries r; spends : Spends r s s'; honest : after → before }

-- the error of a read is passed on
pub gave_up : {A : Type 0} (v : A) (r : Result Reply Fault) (e : Fault) (a : Answer) (w : World) (whole : Type 0) (s s' : Kept) (before after : Type 0)
    → IsErr r × IsErrAnd r (λ f. f ≡ e) → Failed v e s s' before after → Replies r a w whole s s' before after
gave_up v (Ok x) e a w whole s s' before after is h = absurd is.1
gave_up v (Err f) e a w whole s s' before after is h = by_fault f (subst (λ x. Failed v x s s' before after) (sym is.1) h)
  where
    by_fault : (f : Fault) → Failed v f s s' before after → Replies (Err f) a w whole s s' before after
    by_fault Memory h = record { comes = h.found; answers = tt; carries = λ _. tt; spends = h.spends; honest = h.honest }
    by_fault Storage h = record { comes = λ honest. tt; answers = tt; carries = λ _. tt; spends = h.spends; honest = h.honest }

-- memory ran out before anything was asked of the keeper
pub ran_out : (r : Result Reply Fault) (e : Fault) (a : Answer) (w : World) (whole : Type 0) (s : Kept) (honest : Type 0)
    → IsErr r × IsErrAnd r (λ f. f ≡ e) → e ≡ Memory → s.spent ≡ false → Replies r a w whole s s honest honest
ran_out (Ok x) e a w whole s honest is memory unspent = absurd is.1
ran_out (Err f) e a w whole s honest is memory unspent =
    subst (λ x. Replies (Err x) a w whole s s honest honest) (sym (is.1 ∙ memory))
    (let it : Replies (Err Memory) a w whole s s honest honest = record { comes = λ _. refl; answers = tt; carries = λ _. tt; spends = (unspent, unspent); honest = λ honest. honest } in it)

-- an answer that changes nothing
pub told : (reply : Reply) (b : Answer) (n : Option Text) (d : Decision) (whole : Type 0) (s s' : Kept) (before after : Type 0)
    → answer_of reply ≡ b → course_of_answer b ≡ answered → is_sent b.body ≡ true → s.spent ≡ false → s'.spent ≡ false → (after → s' ≡ s) → (after → before)
    → (after → d ≡ tells b) → Replies (Ok reply) d.reply (changed s.world n d.change) whole s s' before after
told reply b n d whole s s' before after e course sent unspent late same honest out = record {
  comes = λ h. (
    e ∙ sym (ap (λ x. x.reply) (out h)),
    same h ∙ (λ i. record { world = s.world; spent = unspent i; held = s.held }) ∙ ap (λ (x : Decision). goes_on s (changed s.world n x.change)) (sym (out h)),
  );
  answers = ap course_of_answer e ∙ course;
  carries = λ _. ap (λ (x : Answer). is_sent x.body) e ∙ sent;
  spends = (unspent, late);
  honest = honest;
}

-- ---- in a repository

-- an operation whose keeper's state was the same before
pub same_start : (r : Result Reply Fault) (name : Text) (act : Kept → Repo → Decision) (s t s' : Kept) → t ≡ s → Operates r name (act t) t s' → Operates r name (act s) s s'
same_start r name act s t s' e h = subst (λ x. Operates r name (act x) x s') e h

pub absent : (o : Option Repo) (act : Repo → Decision) → is_some o ≡ false → in_repo o act ≡ tells (refused AccessDenied)
absent None act e = refl
absent (Some r) act e = absurd (cc)

-- ---- by the level

abbrev pub at_level : Grants → (Text → Option Repo) → Text → Ask → Decision
at_level g f name q = granted g f name q.form (operation_of q) q.body

module _ (g : Grants) (f : Text → Option Repo) (name : Text) (q : Ask) (op : Operation) (level : Option Level) (found : operation_of q ≡ Some op) (at : level ≡ get g name) where
  pub denied : nat_le (rank (needed_level op)) (rank_of level) ≡ false → at_level g f name q ≡ tells (refused AccessDenied)
  denied below =
      ap (λ o. granted g f name q.form o q.body) found
      ∙ ap (λ b. cond b (in_repo (f name) (λ r. operate g f r name op q.body)) (refuses AccessDenied)) (ap (λ l. nat_le (rank (needed_level op)) (rank_of l)) (sym at) ∙ below)

  pub allowed : nat_le (rank (needed_level op)) (rank_of level) ≡ true → at_level g f name q ≡ in_repo (f name) (λ r. operate g f r name op q.body)
  allowed may =
      ap (λ o. granted g f name q.form o q.body) found
      ∙ ap (λ b. cond b (in_repo (f name) (λ r. operate g f r name op q.body)) (refuses AccessDenied)) (ap (λ l. nat_le (rank (needed_level op)) (rank_of l)) (sym at) ∙ may)

-- the operation, after the level was read
pub operated : (r : Result Reply Fault) (token name : Text) (q : Ask) (op : Operation) (level : Option Level) (s t s' : Kept) → operation_of q ≡ Some op
    → level ≡ get (s.world.grants token) name → nat_le (rank (needed_level op)) (rank_of level) ≡ true → t ≡ s
    → Operates r name (λ x. operate (t.world.grants token) (repo_at t.world) x name op q.body) t s'
    → Comes r name (at_level (s.world.grants token) (repo_at s.world) name q) s s'
operated r token name q op level s t s' found at may same h =
    subst (λ d. Comes r name d s s') (sym (allowed (s.world.grants token) (repo_at s.world) name q op level found at may))
    (same_start r name (λ (x : Kept) y. operate (x.world.grants token) (repo_at x.world) y name op q.body) s t s' same h)

-- ---- by the name

pub named : (r : Result Reply Fault) (g : Grants) (f : Text → Option Repo) (name' name : Text) (q : Ask) (s s' : Kept) → name' ≡ name → is_repo_name name ≡ true
    → Comes r name' (at_level g f name' q) s s' → ComesOn r (valid_name name) (decide g f name q) s s'
named r g f name' name q s s' same valid h =
    subst (λ b. ComesOn r (cond b (Some name) None) (cond b (at_level g f name q) (refuses InvalidName)) s s') (sym valid)
    (subst (λ n. Comes r n (at_level g f n q) s s') same h)

unnamed : (g : Grants) (f : Text → Option Repo) (name : Text) (q : Ask) → is_repo_name name ≡ false → decide g f name q ≡ tells (refused InvalidName)
unnamed g f name q invalid = ap (λ b. cond b (at_level g f name q) (refuses InvalidName)) invalid

-- no name was read, and memory was not wanting
pub not_named : (e : NameFault) (name : Text) → (e ≡ fault.Memory → ⊥) → ((e ≡ fault.Memory) × (is_repo_name name ≡ true)) ⊎ ((e ≡ fault.Name) × (is_repo_name name ≡ false)) → is_repo_name name ≡ false
not_named e name other (inl h) = absurd (other h.0)
not_named e name other (inr h) = h.1

-- which is refused
pub misnamed : (reply : Reply) (token name : Text) (q : Ask) (whole : Type 0) (s : Kept) (honest : Type 0) → answer_of reply ≡ refused InvalidName → s.spent ≡ false → is_repo_name name ≡ false
    → Replies (Ok reply) (decide (s.world.grants token) (repo_at s.world) name q).reply (changed s.world (valid_name name) (decide (s.world.grants token) (repo_at s.world) name q).change) whole s s honest honest
misnamed reply token name q whole s honest e unspent invalid =
    told reply (refused InvalidName) (valid_name name) (decide (s.world.grants token) (repo_at s.world) name q) whole s s honest honest e refl refl unspent unspent (λ _. refl) (λ h. h)
    (λ _. unnamed (s.world.grants token) (repo_at s.world) name q invalid)
