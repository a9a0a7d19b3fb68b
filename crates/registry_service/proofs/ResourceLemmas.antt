-- What is told beside the registry's endpoints, and to a request without a known token.
use Rattle.std.proofs.Common.{◌≡◌, true, false, Option, Some, None, refl, sym, subst}
use Rattle.std.specs.Prelude.{Result, Ok, Err, MatchResult}
use Rattle.oci_types.specs.Text.{Text}
use Rattle.oci_types.specs.declared.fault.Fault.{Fault}
use Rattle.oci_types.specs.declared.fault.Fault.TheVariants.{Memory}
use Rattle.registry_model.specs.declared.reply.Reply.{Reply}
use Rattle.registry_model.specs.declared.request.Verb.{Verb}
use Rattle.registry_model.specs.declared.request.Verb.TheVariants as verb
use Rattle.registry_model.specs.declared.request.Resource.{Resource}
use Rattle.registry_model.specs.Heads.{is_sent}
use Rattle.registry_model.specs.Answer.{Answer, answer_of}
use Rattle.registry_model.specs.Ask.{Ask}
use Rattle.registry_model.specs.Login.{login_by, login_answer, password_of, health_answer}
use Rattle.registry_model.specs.Decision.{Decision, tells}
use Rattle.registry_model.specs.Doing.{course_of_answer, answered}
use Rattle.registry_model.specs.Operation.{addressed}
use Rattle.registry_model.specs.Judging.{judged, read_alone, decided_at, changed, reply_to, after_request}
use Rattle.registry_model.specs.Keeping.{Kept, WritesBy}
use Rattle.operation_parts.specs.Operating.{ComesOn}
use Rattle.registry_service.proofs.JudgingLemmas.{Replies, told}

pub at_resource : (r : Result Reply Fault) (q : Ask) (x : Resource) (s s' : Kept) → q.resource ≡ x
    → ComesOn r (addressed q.form) (decided_at x q (judged s.world q.token q)) s s' → WritesBy answer_of r (reply_to s.world q) (after_request s.world q) s s'
at_resource r q x s s' is h = subst (λ y. ComesOn r (addressed q.form) (decided_at y q (judged s.world q.token q)) s s') (sym is) h

-- an answer that changes nothing, or memory is wanting for it
pub told_if : (r : Result Reply Fault) (b : Answer) (n : Option Text) (d : Decision) (whole : Type 0) (s s' : Kept) (before after : Type 0)
    → MatchResult r (λ reply. answer_of reply ≡ b) (λ fault. fault ≡ Memory) → course_of_answer b ≡ answered → is_sent b.body ≡ true
    → s.spent ≡ false → s'.spent ≡ false → (after → s' ≡ s) → (after → before) → (after → d ≡ tells b)
    → Replies r d.reply (changed s.world n d.change) whole s s' before after
told_if (Ok reply) b n d whole s s' before after e course sent unspent late same honest out =
    told reply b n d whole s s' before after e course sent unspent late same honest out
told_if (Err f) b n d whole s s' before after e course sent unspent late same honest out =
    subst (λ x. Replies (Err x) d.reply (changed s.world n d.change) whole s s' before after) (sym e)
    (let it : Replies (Err Memory) d.reply (changed s.world n d.change) whole s s' before after =
    record { comes = same; answers = tt; carries = λ _. tt; spends = (unspent, late); honest = honest } in it)

-- ---- what is read alone

module _ (a : Answer) where
  pub alone_tells : (v : Verb) → read_alone v a ≡ tells (read_alone v a).reply
  alone_tells verb.Get = refl
  alone_tells verb.Head = refl
  alone_tells verb.Post = refl
  alone_tells verb.Patch = refl
  alone_tells verb.Put = refl
  alone_tells verb.Delete = refl
  alone_tells verb.Other = refl

  pub alone_answers : (v : Verb) → course_of_answer a ≡ answered → course_of_answer (read_alone v a).reply ≡ answered
  alone_answers verb.Get h = h
  alone_answers verb.Head h = h
  alone_answers verb.Post h = refl
  alone_answers verb.Patch h = refl
  alone_answers verb.Put h = refl
  alone_answers verb.Delete h = refl
  alone_answers verb.Other h = refl

  pub alone_sent : (v : Verb) → is_sent a.body ≡ true → is_sent (read_alone v a).reply.body ≡ true
  alone_sent verb.Get h = h
  alone_sent verb.Head h = h
  alone_sent verb.Post h = refl
  alone_sent verb.Patch h = refl
  alone_sent verb.Put h = refl
  alone_sent verb.Delete h = refl
  alone_sent verb.Other h = refl

  -- the same of a reply to it
  pub told_alone : (r : Result Reply Fault) (v : Verb) (n : Option Text) (whole : Type 0) (s : Kept) (honest : Type 0)
      → MatchResult r (λ reply. answer_of reply ≡ (read_alone v a).reply) (λ fault. fault ≡ Memory)
      → course_of_answer a ≡ answered → is_sent a.body ≡ true → s.spent ≡ false
      → Replies r (read_alone v a).reply (changed s.world n (read_alone v a).change) whole s s honest honest
  told_alone r v n whole s honest e course sent unspent =
      told_if r (read_alone v a).reply n (read_alone v a) whole s s honest honest e (alone_answers v course) (alone_sent v sent) unspent unspent
      (λ _. refl) (λ h. h) (λ _. alone_tells v)

login_by_answers : (o : Option Text) → course_of_answer (login_by o) ≡ answered
login_by_answers None = refl
login_by_answers (Some token) = refl

login_by_sent : (o : Option Text) → is_sent (login_by o).body ≡ true
login_by_sent None = refl
login_by_sent (Some token) = refl

pub told_login : (r : Result Reply Fault) (v : Verb) (basic n : Option Text) (whole : Type 0) (s : Kept) (honest : Type 0)
    → MatchResult r (λ reply. answer_of reply ≡ (read_alone v (login_answer basic)).reply) (λ fault. fault ≡ Memory) → s.spent ≡ false
    → Replies r (read_alone v (login_answer basic)).reply (changed s.world n (read_alone v (login_answer basic)).change) whole s s honest honest
told_login r v basic n whole s honest e unspent =
    told_alone (login_answer basic) r v n whole s honest e (login_by_answers (password_of basic)) (login_by_sent (password_of basic)) unspent

pub told_health : (reply : Reply) (v : Verb) (n : Option Text) (whole : Type 0) (s : Kept) (honest : Type 0)
    → answer_of reply ≡ (read_alone v health_answer).reply → s.spent ≡ false
    → Replies (Ok reply) (read_alone v health_answer).reply (changed s.world n (read_alone v health_answer).change) whole s s honest honest
told_health reply v n whole s honest e unspent = told_alone health_answer (Ok reply) v n whole s honest e refl refl unspent
