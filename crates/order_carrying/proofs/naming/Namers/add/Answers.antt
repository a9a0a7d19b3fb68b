use Rattle.std.proofs.Common.{rules}
use Rattle.std.proofs.lemmas.Iterator.Adapters.{YieldsList-from_vec}
use Rattle.std.proofs.lemmas.Iterator.Consumers.{YieldsList-end}
use Rattle.order_carrying.specs.Naming.{namers_in}
use Rattle.order_carrying.proofs.NamingLemmas.{name_more, all_named}
use Rattle.order_carrying.proofs.naming.Namers.add.Goals as goal

pub loop-digest-preserved : goal.loop-digest-preserved
loop-digest-preserved c = λ q.
    let l = c.loop-digest in
    name_more l.yielded c.in-Some.digest q c.args.manifest.now (namers_in c.args.self.now q) (namers_in l.self q) (namers_in c.put.new.self q) (l.invariant q) (c.in_ok-put.ensures q)

pub returns : goal.returns
returns c = λ q.
    let l = c.loop-digest in
    let given = c.into_iter-digest-iterator.ensures.into_iter_gives in
    let road = YieldsList-from_vec c.args.names.items given.0 (search (rules, given)) in
    let all = YieldsList-end road l.yielded l.digest-iterator l.yielded_by c.next.result c.next.new.self c.in-None.is c.next.ensures.steps in
    all_named l.yielded c.args.names.items q c.args.manifest.now (namers_in c.args.self.now q) (namers_in l.self q) all.0 (l.invariant q)
