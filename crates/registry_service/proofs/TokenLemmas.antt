-- A request by the token that it names.
use Rattle.std.proofs.Common.{◌≡◌, ◌∙◌, Bool, true, false, cond, Option, Some, None, Ok, Err, refl, sym, ap, subst}
use Rattle.std.proofs.lemmas.Option.{none-some, same_Some}
use Rattle.std.specs.Prelude.{Result}
use Rattle.oci_types.specs.Text.{Text}
use Rattle.oci_types.specs.Token.{is_token}
use Rattle.oci_types.specs.declared.fault.Fault.{Fault}
use Rattle.registry_model.specs.declared.reply.Reply.{Reply}
use Rattle.registry_model.specs.World.{World, Repo, Grants, repo_at, is_known}
use Rattle.registry_model.specs.Ask.{Ask}
use Rattle.registry_model.specs.Decision.{Decision}
use Rattle.registry_model.specs.Judging.{served, decision, judged, unnamed}
use Rattle.registry_model.specs.Operation.{addressed}
use Rattle.registry_model.specs.Keeping.{Kept}
use Rattle.operation_parts.specs.Operating.{ComesOn}
use Rattle.registry_model.specs.Login.{token_in}

by_text : (b : Bool) (text token : Text) (d : Text → Decision) (other : Decision) → Some token ≡ cond b (Some text) None → cond b (d text) other ≡ d token
by_text true text token d other e = ap d (sym (same_Some token text e))
by_text false text token d other e = absurd (cc)

pub by_token : (w : World) (o : Option Text) (token : Text) (q : Ask) → Some token ≡ token_in o → judged w o q ≡ decision (w.grants token) (repo_at w) q
by_token w None token q e = absurd (cc)
by_token w (Some text) token q e = by_text (is_token text) text token (λ t. decision (w.grants t) (repo_at w) q) (unnamed q) e

by_no_text : (b : Bool) (text : Text) (d other : Decision) → None ≡ cond b (Some text) None → cond b d other ≡ other
by_no_text true text d other e = absurd (cc)
by_no_text false text d other e = refl

pub by_none : (w : World) (o : Option Text) (q : Ask) → None ≡ token_in o → judged w o q ≡ unnamed q
by_none w None q e = refl
by_none w (Some text) q e = by_no_text (is_token text) text (decision (w.grants text) (repo_at w) q) (unnamed q) e

module _ (g : Grants) (f : Text → Option Repo) (q : Ask) where
  pub unknown : is_known g ≡ false → decision g f q ≡ unnamed q
  unknown e = ap (λ b. cond b (served g f q) (unnamed q)) e

  known : is_known g ≡ true → decision g f q ≡ served g f q
  known e = ap (λ b. cond b (served g f q) (unnamed q)) e

-- a known token is served, after it was looked up
pub known_served : (r : Result Reply Fault) (token : Text) (q : Ask) (s t s' : Kept) → t ≡ s → is_known (s.world.grants token) ≡ true
    → ComesOn r (addressed q.form) (served (t.world.grants token) (repo_at t.world) q) t s' → ComesOn r (addressed q.form) (decision (s.world.grants token) (repo_at s.world) q) s s'
known_served r token q s t s' same is h =
    subst (λ d. ComesOn r (addressed q.form) d s s') (sym (known (s.world.grants token) (repo_at s.world) q is))
    (subst (λ (x : Kept). ComesOn r (addressed q.form) (served (x.world.grants token) (repo_at x.world) q) x s') same h)

-- where no token is named none is found
pub no_fault : (e : Fault) (o : Option Text) → Err e ≡ Ok o → ⊥
no_fault e o h = absurd (cc)

abbrev found_by : Result (Option Text) Fault → Option Text
found_by (Ok o) = o
found_by (Err e) = None

pub not_both : (r : Result (Option Text) Fault) (o : Option Text) (token : Text) → r ≡ Ok o → r ≡ Ok None → o ≡ Some token → ⊥
not_both r o token is none some = none-some token (sym (ap found_by (sym is ∙ none)) ∙ some)
