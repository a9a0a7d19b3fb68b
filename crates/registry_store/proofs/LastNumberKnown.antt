-- A last number that is set changes no usage.
use Rattle.std.proofs.Common.{◌≡◌, ◌∙◌, ℕ, Bool, true, false, cond, Option, None, Some, refl, sym, ap}
use Rattle.std.specs.Option.{option_map_or}
use Rattle.std.specs.Ordering.{eq_by_cmp}
use Rattle.std.specs.FinMap.{get-insert}
use Rattle.oci_types.specs.Text.{Text}
use Rattle.registry_model.specs.World.{Repo, World, text_cmp, repo_at, update_repo}
use Rattle.registry_model.specs.Usage.{usage_of}
use Rattle.registry_model.specs.Lookups.{no_usage, usage_at}
use Rattle.registry_model.proofs.TextOrder.{text_total, same_key}
use Rattle.registry_copy.specs.Restoring.{set_last}
use Rattle.registry_store.specs.declared.known_usages.KnownUsages.{KnownUsages}
use Rattle.registry_store.specs.Usages.{Knows}

usage_kept : (w : World) (name q : Text) (number : ℕ) → usage_at (set_last w name number) q ≡ usage_at w q
usage_kept w name q number = go (repo_at w name) refl
  where
    at : (r : Repo) → repo_at w name ≡ Some r → (b : Bool) → eq_by_cmp text_cmp q name ≡ b → option_map_or usage_of (cond b (Some (record r { last = number })) (repo_at w q)) no_usage ≡ usage_at w q
    at r e true t = sym (ap (λ o. option_map_or usage_of o no_usage) (ap (repo_at w) (same_key q name t) ∙ e))
    at r e false t = refl

    go : (o : Option Repo) → repo_at w name ≡ o → usage_at (update_repo w name (λ r. record r { last = number }) o) q ≡ usage_at w q
    go None e = refl
    go (Some r) e =
        ap (λ o. option_map_or usage_of o no_usage) (get-insert text_total w.repos name (record r { last = number }) q)
        ∙ at r e (eq_by_cmp text_cmp q name) refl

pub last_known : (known : KnownUsages) (w : World) (name : Text) (number : ℕ) → Knows known w → Knows known (set_last w name number)
last_known known w name number knows q u at = knows q u at ∙ sym (usage_kept w name q number)
