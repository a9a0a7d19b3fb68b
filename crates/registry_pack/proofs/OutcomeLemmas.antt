-- What follows at each outcome of a call.
use Rattle.std.proofs.Common.{◌≡◌, List, sym, subst}
use Rattle.std.specs.Prelude.{Option, Some, None, IfSome, Result, Ok, Err, IfOk, OnOk, OnErr}
use Rattle.registry_pack.specs.declared.extent.Extent.{Extent}

pub IfSome-then : {X : Type 0} (o : Option X) (P Q : X → Type 0) → ((x : X) → P x → Q x) → IfSome o P → IfSome o Q
IfSome-then None P Q then was = tt
IfSome-then (Some x) P Q then was = then x was

pub IfOk-then : {X E : Type 0} (r : Result X E) (P Q : X → Type 0) → ((x : X) → P x → Q x) → IfOk r P → IfOk r Q
IfOk-then (Ok x) P Q then was = then x was
IfOk-then (Err x) P Q then was = tt

pub OnOk-then : {E : Type 0} (r : Result (Unit {0}) E) (P Q : Type 0) → (P → Q) → OnOk r P → OnOk r Q
OnOk-then (Ok x) P Q then was = then was
OnOk-then (Err x) P Q then was = tt

-- after a call that changes a list or fails, what held of it holds still
pub kept_either : {E : Type 0} (r : Result (Unit {0}) E) (P : List Extent → Type 0) (old new : List Extent) → (OnErr r (new ≡ old)) → P old
    → (OnOk r (P new)) → P new
kept_either (Ok x) P old new err was ok = ok
kept_either (Err x) P old new err was ok = subst P (sym err) was
