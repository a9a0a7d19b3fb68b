-- What comes of an operation on a repository that is there.
use Rattle.std.proofs.Common.{◌≡◌, ◌∙◌, true, false, None, Some, Ok, Err, refl, sym, ap, subst}
use Rattle.std.specs.Prelude.{Option, Result, is_some}
use Rattle.oci_types.specs.Text.{Text}
use Rattle.oci_types.specs.declared.fault.Fault.{Fault}
use Rattle.oci_types.specs.declared.fault.Fault.TheVariants.{Memory, Storage}
use Rattle.registry_model.specs.declared.reply.Reply.{Reply}
use Rattle.registry_model.specs.World.{Repo, repo_at, update_repo}
use Rattle.registry_model.specs.Answer.{Answer}
use Rattle.registry_model.specs.Decision.{Decision, tells, makes, in_repo}
use Rattle.registry_model.specs.Judging.{changed}
use Rattle.registry_model.specs.Keeping.{Kept, goes_on, Spends}
use Rattle.operation_parts.specs.Operating.{Comes, Operates}

pub there_is : (o : Option Repo) → is_some o ≡ true → (r : Repo) × (o ≡ Some r)
there_is None h = absurd (cc)
there_is (Some r) h = (r, refl)

-- the outcome's reply, and its change to the repository
abbrev pub Done : Answer → Text → (Repo → Decision) → Kept → Kept → Type 0
Done a name act s s' =
    (a ≡ (in_repo (repo_at s.world name) act).reply) × (s' ≡ goes_on s (changed s.world (Some name) (in_repo (repo_at s.world name) act).change))

module _ (s s' : Kept) (name : Text) (act : Repo → Decision) (r : Repo) (at : repo_at s.world name ≡ Some r) (a b : Answer) (e : a ≡ b) where
  -- an answer that changes nothing
  pub told : s.spent ≡ false → s' ≡ s → act r ≡ tells b → Done a name act s s'
  told unspent stays out =
      let o : in_repo (repo_at s.world name) act ≡ tells b = ap (λ x. in_repo x act) at ∙ out in (
        e ∙ sym (ap (λ x. x.reply) o),
        stays ∙ (λ i. record { world = s.world; spent = unspent i; held = s.held }) ∙ ap (λ (x : Decision). goes_on s (changed s.world (Some name) x.change)) (sym o),
      )

  -- an answer to a change of the repository
  pub made : (change : Repo → Repo) → s' ≡ goes_on s (update_repo s.world name change (repo_at s.world name)) → act r ≡ makes b (change r) → Done a name act s s'
  made change after out =
      let o : in_repo (repo_at s.world name) act ≡ makes b (change r) = ap (λ x. in_repo x act) at ∙ out in (
        e ∙ sym (ap (λ x. x.reply) o),
        after ∙ ap (λ x. goes_on s (update_repo s.world name change x)) at
            ∙ ap (λ (x : Decision). goes_on s (changed s.world (Some name) x.change)) (sym o),
      )

-- what comes of one operation comes of another that is the same there
pub same_act : (result : Result Reply Fault) (name : Text) (act other : Repo → Decision) (s s1 s' : Kept) (r : Repo) → s1 ≡ s → repo_at s.world name ≡ Some r → other r ≡ act r
    → Operates result name act s1 s' → Operates result name other s s'
same_act result name act other s s1 s' r stays at same comes =
    subst (λ x. Comes result name x s s') (ap (λ x. in_repo x act) at ∙ sym same ∙ ap (λ x. in_repo x other) (sym at)) (subst (λ x. Operates result name act x s') stays comes)

-- what a call after others spends, where the storage had not failed before them
pub spends_after : {A : Type 0} (r : Result A Fault) (s mid s' : Kept) → s.spent ≡ false → Spends r mid s' → Spends r s s'
spends_after (Ok v) s mid s' unspent h = (unspent, h.1)
spends_after (Err Memory) s mid s' unspent h = (unspent, h.1)
spends_after (Err Storage) s mid s' unspent h = h
