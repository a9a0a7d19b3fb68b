use Rattle.std.proofs.Common.{take}
use Rattle.registry_orders.specs.Options.{EachPair}
use Rattle.registry_orders.proofs.SplittingLemmas.{GrantAt}
use Rattle.registry_orders.proofs.options.read_grants.Given as goal

abbrev pub invariant-loop-text : goal.invariant-loop-text
invariant-loop-text l = EachPair GrantAt (take l.text-index l.texts) l.grants.items
