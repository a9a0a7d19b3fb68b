-- A request of a known token, by its path.
use Rattle.std.proofs.Common.{◌≡◌, Option, Some, None, Result, refl, sym, ap, subst}
use Rattle.std.proofs.lemmas.Option.{none-some, same_Some}
use Rattle.oci_types.specs.Text.{Text}
use Rattle.oci_types.specs.declared.fault.Fault.{Fault}
use Rattle.registry_model.specs.declared.reply.Reply.{Reply}
use Rattle.registry_model.specs.declared.request.Verb.{Verb}
use Rattle.registry_model.specs.declared.request.Verb.TheVariants as verb
use Rattle.registry_model.specs.World.{Repo, Grants, repo_at}
use Rattle.registry_model.specs.Form.{Form, no_form, base, blob, uploads, session, manifest, tags, referrers}
use Rattle.registry_model.specs.Ask.{Ask}
use Rattle.registry_model.specs.Operation.{valid_name, addressed}
use Rattle.registry_model.specs.Judging.{at_base, decide, served_on, served}
use Rattle.registry_model.specs.Keeping.{Kept}
use Rattle.operation_parts.specs.Operating.{ComesOn}
use Rattle.registry_service.specs.Serving.{beside, name_at}

at_base_none : (v : Verb) → (at_base v).change ≡ None
at_base_none verb.Get = refl
at_base_none verb.Head = refl
at_base_none verb.Post = refl
at_base_none verb.Patch = refl
at_base_none verb.Put = refl
at_base_none verb.Delete = refl
at_base_none verb.Other = refl

module _ (g : Grants) (f : Text → Option Repo) (q : Ask) where
  -- where the path leads to a repository
  on_name : (form : Form) (name : Text) → name_at form ≡ Some name → (served_on g f form q ≡ decide g f name q) × (addressed form ≡ valid_name name)
  on_name no_form name e = absurd (none-some name e)
  on_name base name e = absurd (none-some name e)
  on_name (blob x y) name e = let k = same_Some x name e in (ap (λ n. decide g f n q) k, ap valid_name k)
  on_name (uploads x) name e = let k = same_Some x name e in (ap (λ n. decide g f n q) k, ap valid_name k)
  on_name (session x y) name e = let k = same_Some x name e in (ap (λ n. decide g f n q) k, ap valid_name k)
  on_name (manifest x y) name e = let k = same_Some x name e in (ap (λ n. decide g f n q) k, ap valid_name k)
  on_name (tags x) name e = let k = same_Some x name e in (ap (λ n. decide g f n q) k, ap valid_name k)
  on_name (referrers x y) name e = let k = same_Some x name e in (ap (λ n. decide g f n q) k, ap valid_name k)

  -- where it leads to none
  pub on_none : (form : Form) → name_at form ≡ None → (served_on g f form q ≡ beside form q.verb) × ((beside form q.verb).change ≡ None)
  on_none no_form e = (refl, refl)
  on_none base e = (refl, at_base_none q.verb)
  on_none (blob x y) e = absurd (none-some x (sym e))
  on_none (uploads x) e = absurd (none-some x (sym e))
  on_none (session x y) e = absurd (none-some x (sym e))
  on_none (manifest x y) e = absurd (none-some x (sym e))
  on_none (tags x) e = absurd (none-some x (sym e))
  on_none (referrers x y) e = absurd (none-some x (sym e))

module _ (r : Result Reply Fault) (q : Ask) (s s' : Kept) where
  pub served_by : (token name : Text) → name_at q.form ≡ Some name
      → ComesOn r (valid_name name) (decide (s.world.grants token) (repo_at s.world) name q) s s'
      → ComesOn r (addressed q.form) (served (s.world.grants token) (repo_at s.world) q) s s'
  served_by token name at h =
      let k = on_name (s.world.grants token) (repo_at s.world) q q.form name at in
      subst (λ n. ComesOn r n (served (s.world.grants token) (repo_at s.world) q) s s') (sym k.1)
      (subst (λ d. ComesOn r (valid_name name) d s s') (sym k.0) h)
