use Rattle.std.proofs.Common.{take}
use Rattle.registry_orders.specs.Options.{EachPair}
use Rattle.registry_orders.proofs.SplittingLemmas.{RepoAt}
use Rattle.registry_orders.proofs.options.read_repos.Given as goal

abbrev pub invariant-loop-text : goal.invariant-loop-text
invariant-loop-text l = EachPair RepoAt (take l.text-index l.texts) l.repos.items
