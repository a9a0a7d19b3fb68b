-- What a transaction is after a call that changed nothing.
use Rattle.std.proofs.Common.{sym, subst}
use Rattle.std.specs.Prelude.{IsTrue}
use Rattle.sqlite.specs.State.{State, IsUnchanged}
use Rattle.store_contents.specs.Contents.{IsInside, HoldsContents}

pub inside_still : (old new : State) → IsInside old → IsUnchanged old new → IsInside new
inside_still old new is same = record { inside = subst IsTrue (sym same.0.mode) is.inside; contents = subst HoldsContents (sym same.0.now_is) is.contents }
