use Rattle.std.specs.Prelude.{None}
use Rattle.order_carrying.proofs.NamingLemmas.{after_change}
use Rattle.order_carrying.proofs.naming.Namers.take.Goals as goal

pub returns-in-Some-clause-left : goal.returns-in-Some-clause-left
returns-in-Some-clause-left c = after_change c.args.self.now.manifests c.remove.new.self None c.args.digest.now c.remove.ensures.updates
