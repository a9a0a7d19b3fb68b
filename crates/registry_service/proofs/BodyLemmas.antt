-- Requests whose body is told apart: what changes nothing that is staged is so from what was kept but for a stage.
use Rattle.std.proofs.Common.{◌≡◌, ◌∙◌, ℕ, Option, None, Some, Ok, Err, refl, sym, ap, subst}
use Rattle.std.specs.Prelude.{Result, []}
use Rattle.oci_types.specs.Text.{Text}
use Rattle.oci_types.specs.declared.fault.Fault.{Fault}
use Rattle.oci_types.specs.declared.fault.Fault.TheVariants.{Memory, Storage}
use Rattle.registry_model.specs.declared.reply.Reply.{Reply}
use Rattle.registry_model.specs.World.{World}
use Rattle.registry_model.specs.Answer.{answer_of}
use Rattle.registry_model.specs.Decision.{Decision}
use Rattle.registry_model.specs.Judging.{changed}
use Rattle.registry_model.specs.Keeping.{Kept, goes_on, WritesBy, Spends}
use Rattle.registry_holding.proofs.ShownLemmas.{put_nothing}
use Rattle.operation_parts.specs.Operating.{Answers, Carries, ComesOn}
use Rattle.registry_service.specs.Bodies.{from_body}
use Rattle.registry_service.proofs.JudgingLemmas.{Replies}

-- where what is held stays, nothing was kept otherwise
pub kept_from : (stage : Option ℕ) (s s' : Kept) → s'.held ≡ s.held → s ≡ from_body stage s s'
kept_from None s s' e = refl
kept_from (Some key) s s' e = λ i. record {
  world = s.world;
  spent = s.spent;
  held = record {
    stages = (sym (ap (λ x. x.stages) e) ∙ put_nothing s.held.stages key s'.held.stages (ap (λ x. x.stages) e)) i;
    pins = s.held.pins;
  };
}

pub any_from : {A B : Type 0} (stage : Option ℕ) (show : A → B) (r : Result A Fault) (value : B) (w : World) (s s' : Kept)
    → WritesBy show r value w s s' → WritesBy show r value w (from_body stage s s') s'
any_from stage show (Ok v) value w s s' h =
    (h.0, subst (λ (x : Kept). s' ≡ goes_on x w) (kept_from stage s s' (ap (λ (x : Kept). x.held) h.1)) h.1)
any_from stage show (Err Memory) value w s s' h = h ∙ kept_from stage s s' (ap (λ (x : Kept). x.held) h)
any_from stage show (Err Storage) value w s s' h = tt

-- the clauses of a reply to each request with such a body
abbrev pub RepliesTo : Option ℕ → (Text → Type 0) → Result Reply Fault → Option Text → (Text → Decision) → Type 0 → Kept → Kept → Type 0 → Type 0 → Type 0
RepliesTo stage IsBody r n d whole s s' before after =
    record {
      comes : after → (t : Text) → IsBody t → ComesOn r n (d t) (from_body stage s s') s';
      answers : Answers r;
      carries : whole → Carries r;
      spends : Spends r s s';
      honest : after → before;
    }

-- which is the same whatever the body is, but for the decision
pub to_each : (stage : Option ℕ) (IsBody : Text → Type 0) (r : Result Reply Fault) (n : Option Text) (d : Text → Decision) (whole : Type 0) (s s' : Kept) (before after : Type 0)
    → ((t : Text) → Replies r (d t).reply (changed s.world n (d t).change) whole s s' before after) → RepliesTo stage IsBody r n d whole s s' before after
to_each stage IsBody r n d whole s s' before after h = record {
  comes = λ honest t is. any_from stage answer_of r (d t).reply (changed s.world n (d t).change) s s' ((h t).comes honest);
  answers = (h []).answers;
  carries = (h []).carries;
  spends = (h []).spends;
  honest = (h []).honest;
}

-- from what was kept after a read
pub same_from : (stage : Option ℕ) (s t s' : Kept) → t ≡ s → from_body stage t s' ≡ from_body stage s s'
same_from stage s t s' e = ap (λ x. from_body stage x s') e

-- with what is answered where no token is named
pub with_token_to : (stage : Option ℕ) (IsBody : Text → Type 0) (r : Result Reply Fault) (n : Option Text) (d : Text → Decision) (whole : Type 0) (s s' : Kept) (before after none : Type 0)
    → RepliesTo stage IsBody r n d whole s s' before after → none
    → record {
      comes : after → (t : Text) → IsBody t → ComesOn r n (d t) (from_body stage s s') s';
      answers : Answers r;
      carries : whole → Carries r;
      spends : Spends r s s';
      no_token : none;
      honest : after → before;
    }
with_token_to stage IsBody r n d whole s s' before after none h told =
    record { comes = h.comes; answers = h.answers; carries = h.carries; spends = h.spends; no_token = told; honest = h.honest }

pub spends_from : {A : Type 0} (r : Result A Fault) (stage : Option ℕ) (s t s' : Kept) → Spends r s s' → Spends r (from_body stage s t) s'
spends_from (Ok v) stage s t s' h = h
spends_from (Err Memory) stage s t s' h = h
spends_from (Err Storage) stage s t s' h = h
