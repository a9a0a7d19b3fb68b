-- What the two copies of the head say together.
use Rattle.std.proofs.Common.{◌≡◌, ◌⊎◌, inl, inr, ℕ, List, Bool, true}
use Rattle.registry_pack.specs.declared.head.HeadCopy.{HeadCopy}
use Rattle.registry_pack.specs.declared.head.HeadCopy.TheVariants.{First, Second}
use Rattle.registry_pack.specs.Opening.{Belongs, IsChecked, IsNoNewer}

either_copy : (P : HeadCopy → Type 0) → P First → P Second → (copy : HeadCopy) → P copy
either_copy P first second First = first
either_copy P first second Second = second

pub Belongs-either : (file mark : List ℕ) (age : ℕ) (a b : Bool) → IsChecked file mark age First a → IsChecked file mark age Second b
    → (a ≡ true) ⊎ (b ≡ true) → Belongs file mark age
Belongs-either file mark age a b first second some =
    record {
      some = elim some [ inl x ↦ (First, first.some x) | inr x ↦ (Second, second.some x) ];
      each = either_copy (IsNoNewer file mark age) first.each second.each;
    }
