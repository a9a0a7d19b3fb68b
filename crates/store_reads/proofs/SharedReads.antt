-- What is read of bytes that several may hold.
use Rattle.std.proofs.Common.{◌≡◌, ◌∙◌, Ok, Err, subst}
use Rattle.std.specs.Prelude.{ℕ, Vec, Option, Result, IfOk}
use Rattle.std.specs.declared.alloc.Global.{Global}
use Rattle.std.specs.declared.rc.Rc.{Rc}
use Rattle.oci_types.specs.Text.{Text}
use Rattle.oci_types.specs.declared.fault.Fault.{Fault}
use Rattle.registry_model.specs.Keeping.{bytes_in, shared_in}

pub told_shared : (read : Result (Option (Vec ℕ Global)) Fault) (r : Result (Option (Rc (Vec ℕ Global) Global)) Fault) (value : Option Text)
    → IfOk r (λ v. (b : Option (Vec ℕ Global)) × (read ≡ Ok b) × (shared_in v ≡ bytes_in b)) → IfOk read (λ b. bytes_in b ≡ value) → IfOk r (λ v. shared_in v ≡ value)
told_shared read (Ok v) value is told = is.2 ∙ subst (λ x. IfOk x (λ b. bytes_in b ≡ value)) is.1 told
told_shared read (Err e) value is told = tt
