-- Numbers that are one.
use Rattle.std.proofs.Common.{◌≡◌, ◌==◌, ℕ, Bool, true, false, refl, sym}
use Rattle.std.proofs.lemmas.Bool.{eqb-true, eq-eqb}

pub same_truth : (p q : Bool) → (p ≡ true → q ≡ true) → (q ≡ true → p ≡ true) → p ≡ q
same_truth true q f g = sym (f refl)
same_truth false true f g = g refl
same_truth false false f g = refl

pub number_turned : (m n : ℕ) → (m == n) ≡ (n == m)
number_turned m n = same_truth _ _ (λ e. eq-eqb n m (sym (eqb-true m n e))) (λ e. eq-eqb m n (sym (eqb-true n m e)))
