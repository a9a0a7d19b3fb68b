-- What is known of usages, once one is added.
use Rattle.std.proofs.Common.{◌≡◌, ◌≢◌, ◌∙◌, Bool, true, false, None, Some, Ok, Err, Result, OnOk, refl, sym, ap}
use Rattle.std.specs.Prelude.{OnErr}
use Rattle.std.specs.Ordering.{is_eq}
use Rattle.std.specs.Cmp.{Equal-is}
use Rattle.std.specs.Map.{lookup}
use Rattle.std.specs.BTreeMap.{is_at, Updates, IsUnchanged}
use Rattle.oci_types.specs.Text.{Text}
use Rattle.registry_model.specs.World.{text_cmp}
use Rattle.registry_model.specs.declared.quota.Usage.{Usage}
use Rattle.registry_model.proofs.TextOrder.{exact_texts}
use Rattle.registry_model.proofs.ChangedMaps.{same_Some, not_Some}
use Rattle.registry_store.specs.declared.known_usages.KnownUsages.{KnownUsages}
use Rattle.registry_store.specs.Usages.{known_at, Sets}

-- the order's test tells names apart
untied : (name other : Text) → other ≢ name → is_eq (text_cmp name other) ≡ false
untied name other apart = by (is_eq (text_cmp name other)) refl
  where
    by : (b : Bool) → is_eq (text_cmp name other) ≡ b → b ≡ false
    by true e = absurd (apart (sym (exact_texts name other ((Equal-is _).0 e))))
    by false e = refl

pub added : {A B : Type 0} (old new : KnownUsages) (name : Text) (usage : Usage) (r : Result A B) → known_at old name ≡ None
    → OnOk r (Updates text_cmp old.usages new.usages name (Some usage)) → OnErr r (IsUnchanged old.usages new.usages) → Sets old new name (λ u. u ≡ usage)
added old new name usage (Ok v) none made kept = record {
  here = λ u is. same_Some u usage (sym is ∙ made.1);
  others = λ other u apart is. sym (made.2 other (untied name other apart)) ∙ is;
}
added old new name usage (Err e) none made kept = record {
  here = λ u is. absurd (not_Some u (sym none ∙ ap (lookup (is_at (text_cmp name))) (sym kept) ∙ is));
  others = λ other u apart is. ap (lookup (is_at (text_cmp other))) (sym kept) ∙ is;
}
