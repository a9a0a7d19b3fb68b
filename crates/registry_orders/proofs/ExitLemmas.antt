-- What the exit of a `?` returns is why a command line is not read, where what it passes on is.
use Rattle.std.proofs.Common.{◌≡◌, Result, Ok, Err, IfErr, IsErrAnd, sym, subst}
use Rattle.registry_orders.specs.declared.failure.Failure.{Failure}
use Rattle.registry_orders.specs.Failures.{IsOfWords}

pub words_failed : {T : Type 0} (r : Result T Failure) (failure : Failure) → IsOfWords failure → IsErrAnd r (λ f. f ≡ failure) → IfErr r IsOfWords
words_failed (Ok x) failure of is = tt
words_failed (Err f) failure of is = subst IsOfWords (sym is) of
