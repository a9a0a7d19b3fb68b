-- What is answered beside the registry's endpoints is the request's alone, and changes nothing.
use Rattle.std.proofs.Common.{◌≡◌, ◌∙◌, Option, Some, None, refl, ap}
use Rattle.oci_types.specs.Text.{Text}
use Rattle.registry_model.specs.declared.request.Verb.{Verb}
use Rattle.registry_model.specs.declared.request.Verb.TheVariants as verb
use Rattle.registry_model.specs.declared.request.Resource.{Resource}
use Rattle.registry_model.specs.declared.request.Resource.TheVariants as resource
use Rattle.registry_model.specs.World.{Repo, World}
use Rattle.registry_model.specs.Answer.{Answer}
use Rattle.registry_model.specs.Login.{login_answer, health_answer}
use Rattle.registry_model.specs.Ask.{Ask}
use Rattle.registry_model.specs.Decision.{Decision}
use Rattle.registry_model.specs.Operation.{addressed}
use Rattle.registry_model.specs.Judging.{judged, read_alone, decided_at, decided, changed, reply_to, after_request}

pub reads_none : (v : Verb) (a : Answer) → (read_alone v a).change ≡ None
reads_none verb.Get a = refl
reads_none verb.Head a = refl
reads_none verb.Post a = refl
reads_none verb.Patch a = refl
reads_none verb.Put a = refl
reads_none verb.Delete a = refl
reads_none verb.Other a = refl

-- what holds of no change and of the registry's holds of the decision's
module _ (P : Option Repo → Type 0) (none : P None) where
  by_verb : (v : Verb) (a : Answer) → P (read_alone v a).change
  by_verb verb.Get a = none
  by_verb verb.Head a = none
  by_verb verb.Post a = none
  by_verb verb.Patch a = none
  by_verb verb.Put a = none
  by_verb verb.Delete a = none
  by_verb verb.Other a = none

  pub change_at : (r : Resource) (q : Ask) (d : Decision) → P d.change → P (decided_at r q d).change
  change_at resource.Registry q d h = h
  change_at resource.Tokens q d h = by_verb q.verb (login_answer q.basic)
  change_at resource.Health q d h = by_verb q.verb health_answer

pub unchanged : (w : World) (name : Option Text) → changed w name None ≡ w
unchanged w None = refl
unchanged w (Some name) = refl

-- ---- the laws

module _ (w : World) (q : Ask) where
  abbrev inner : Decision
  inner = judged w q.token q

  -- of a request that leads elsewhere
  after_none : (o : Option Repo) → o ≡ None → changed w (addressed q.form) o ≡ w
  after_none o e = ap (changed w (addressed q.form)) e ∙ unchanged w (addressed q.form)

  pub told_tokens : q.resource ≡ resource.Tokens → reply_to w q ≡ (read_alone q.verb (login_answer q.basic)).reply
  told_tokens r i = (decided_at (r i) q inner).reply

  pub told_health : q.resource ≡ resource.Health → reply_to w q ≡ (read_alone q.verb health_answer).reply
  told_health r i = (decided_at (r i) q inner).reply

  none_elsewhere : (r : Resource) → (r ≡ resource.Registry → ⊥) → (decided_at r q inner).change ≡ None
  none_elsewhere resource.Registry h = absurd (h refl)
  none_elsewhere resource.Tokens h = reads_none q.verb (login_answer q.basic)
  none_elsewhere resource.Health h = reads_none q.verb health_answer

  pub after_elsewhere : (q.resource ≡ resource.Registry → ⊥) → after_request w q ≡ w
  after_elsewhere h = after_none (decided w q).change (none_elsewhere q.resource h)
