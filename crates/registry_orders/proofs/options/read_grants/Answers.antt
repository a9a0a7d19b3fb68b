use Rattle.std.proofs.Common.{arith, subst}
use Rattle.std.proofs.lemmas.List.{take_all}
use Rattle.std.proofs.lemmas.Result.{IfOk-from_err}
use Rattle.registry_orders.specs.declared.failure.Failure.TheVariants.{OutOfMemory}
use Rattle.registry_orders.specs.Options.{EachPair, SpellsGrant}
use Rattle.registry_orders.proofs.ExitLemmas.{words_failed}
use Rattle.registry_orders.proofs.SplittingLemmas.{GrantAt, one_pair_more, pairs_of_texts}
use Rattle.registry_orders.proofs.options.read_grants.Goals as goal

pub loop-text-preserved : goal.loop-text-preserved
loop-text-preserved c =
    rw c.in_ok-push.ensures.items
    (one_pair_more GrantAt c.args.texts.now c.loop-text.text-index _ c.loop-text.grants.items c.in_ok-grant.grant c.loop-text-test.true c.loop-text.invariant c.in_ok-grant.ensures.read)

pub returns : goal.returns
returns c = record {
  read = pairs_of_texts SpellsGrant c.args.texts.now c.loop-text.grants.items
      (subst (λ texts. EachPair GrantAt texts c.loop-text.grants.items) (take_all c.loop-text.text-index c.args.texts.now (omega arith)) c.loop-text.invariant);
  refused = tt;
}

pub returns-in_err-grant : goal.returns-in_err-grant
returns-in_err-grant c = record {
  read = IfOk-from_err c.from_residual.result _ c.from_residual.ensures.0;
  refused = words_failed c.from_residual.result _ c.in_err-grant.ensures.refused c.from_residual.ensures.1;
}

pub returns-in_err-push : goal.returns-in_err-push
returns-in_err-push c = record {
  read = IfOk-from_err c.from_residual-in_err-push.result _ c.from_residual-in_err-push.ensures.0;
  refused = words_failed c.from_residual-in_err-push.result OutOfMemory tt c.from_residual-in_err-push.ensures.1;
}
