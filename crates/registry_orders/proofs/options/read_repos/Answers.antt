use Rattle.std.proofs.Common.{arith, subst}
use Rattle.std.proofs.lemmas.List.{take_all}
use Rattle.std.proofs.lemmas.Result.{IfOk-from_err}
use Rattle.registry_orders.specs.declared.failure.Failure.TheVariants.{OutOfMemory}
use Rattle.registry_orders.specs.Options.{EachPair, SpellsRepo}
use Rattle.registry_orders.proofs.ExitLemmas.{words_failed}
use Rattle.registry_orders.proofs.SplittingLemmas.{RepoAt, one_pair_more, pairs_of_texts}
use Rattle.registry_orders.proofs.options.read_repos.Goals as goal

pub loop-text-preserved : goal.loop-text-preserved
loop-text-preserved c =
    rw c.in_ok-push.ensures.items
    (one_pair_more RepoAt c.args.texts.now c.loop-text.text-index _ c.loop-text.repos.items c.in_ok-repo.repo c.loop-text-test.true c.loop-text.invariant c.in_ok-repo.ensures.read)

pub returns : goal.returns
returns c = record {
  read = pairs_of_texts SpellsRepo c.args.texts.now c.loop-text.repos.items
      (subst (λ texts. EachPair RepoAt texts c.loop-text.repos.items) (take_all c.loop-text.text-index c.args.texts.now (omega arith)) c.loop-text.invariant);
  refused = tt;
}

pub returns-in_err-repo : goal.returns-in_err-repo
returns-in_err-repo c = record {
  read = IfOk-from_err c.from_residual.result _ c.from_residual.ensures.0;
  refused = words_failed c.from_residual.result _ c.in_err-repo.ensures.refused c.from_residual.ensures.1;
}

pub returns-in_err-push : goal.returns-in_err-push
returns-in_err-push c = record {
  read = IfOk-from_err c.from_residual-in_err-push.result _ c.from_residual-in_err-push.ensures.0;
  refused = words_failed c.from_residual-in_err-push.result OutOfMemory tt c.from_residual-in_err-push.ensures.1;
}
