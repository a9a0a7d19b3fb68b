use Rattle.std.proofs.Common.{◌∷◌, [], arith, append-nil, subst}
use Rattle.std.specs.Io.KnownBytes.{Consumes}
use Rattle.std.proofs.KnownBytes.{Consumes-trans}
use Rattle.std.proofs.lemmas.Result.{IfOk-from_err}
use Rattle.registry_orders.specs.declared.failure.Failure.TheVariants.{OutOfMemory}
use Rattle.registry_orders.proofs.ExitLemmas.{words_failed}
use Rattle.registry_orders.proofs.TokenLemmas.{at_end, at_line_end, longer_line, longer_by_one, within_open, within_ended, within_kept}
use Rattle.registry_orders.proofs.tokens.first_line.Goals as goal

pub loop-preserved : goal.loop-preserved
loop-preserved g c =
    let given = rw c.in-Some.is at c.in_ok-next_byte.ensures.given in
    rw c.in_ok-push-in-Some.ensures.items (record {
      read = Consumes-trans _ _ _ c.loop.line.items (c.in-Some.byte ∷ []) c.loop.invariant.read given;
      is_line = longer_line c.loop.line.items c.in-Some.byte c.loop.invariant.is_line c.in-Some.byte-test.1;
      short = longer_by_one c.loop.line.items c.in-Some.byte c.loop.counter c.loop.invariant.short;
    })

pub returns-in-None : goal.returns-in-None
returns-in-None g c =
    let given = rw c.in-None.is at c.in_ok-next_byte.ensures.given in
    let before = c.loop.invariant in
    record {
      given = at_end _ _ _ c.loop.line.items before.read given.0 given.1;
      refused = tt;
      within = within_open _ _ c.loop.line.items (subst (Consumes _ _) (append-nil c.loop.line.items) (Consumes-trans _ _ _ c.loop.line.items [] before.read given.0)) before.is_line (omega arith);
    }

pub returns-in_err-next_byte : goal.returns-in_err-next_byte
returns-in_err-next_byte g c = record {
  given = IfOk-from_err c.from_residual.result _ c.from_residual.ensures.0;
  refused = words_failed c.from_residual.result _ c.in_err-next_byte.ensures.refused c.from_residual.ensures.1;
  within = within_kept _ _ _ c.loop.line.items c.loop.invariant.read c.loop.invariant.is_line (omega arith) c.in_err-next_byte.ensures.spared;
}

pub returns-in-Some-eq10 : goal.returns-in-Some-eq10
returns-in-Some-eq10 g c =
    let given = rw (c.in-Some-eq10.is, c.in-Some-eq10.field-0-test) at c.in_ok-next_byte.ensures.given in
    record {
      given = at_line_end _ _ _ c.loop.line.items c.loop.invariant.read given;
      refused = tt;
      within = within_ended _ _ _ c.loop.line.items c.loop.invariant.read c.loop.invariant.is_line (omega arith) given;
    }

pub returns-in_err-push-in-Some : goal.returns-in_err-push-in-Some
returns-in_err-push-in-Some g c =
    let given = rw c.in-Some.is at c.in_ok-next_byte.ensures.given in
    let byte = c.in-Some.byte in
    record {
      given = IfOk-from_err c.from_residual-in_err-push-in-Some.result _ c.from_residual-in_err-push-in-Some.ensures.0;
      refused = words_failed c.from_residual-in_err-push-in-Some.result OutOfMemory tt c.from_residual-in_err-push-in-Some.ensures.1;
      within = within_open _ _ _ (Consumes-trans _ _ _ c.loop.line.items (byte ∷ []) c.loop.invariant.read given)
          (longer_line c.loop.line.items byte c.loop.invariant.is_line c.in-Some.byte-test.1)
          (let more = longer_by_one c.loop.line.items byte c.loop.counter c.loop.invariant.short in omega arith);
    }

pub returns : goal.returns
returns g c = record {
  given = tt;
  refused = tt;
  within = within_open _ _ c.loop.line.items c.loop.invariant.read c.loop.invariant.is_line (omega arith);
}
