use Rattle.std.proofs.Common.{ap}
use Rattle.order_sockets.specs.Calls.{called}
use Rattle.order_sockets.proofs.CallingLemmas.{told}
use Rattle.order_sockets.proofs.caller.Caller.attend.Goals as goal

pub returns-clause-attends : goal.returns-clause-attends
returns-clause-attends g c honest =
    let said = c.tell.ensures in
    told (called c.args.self.now) (called c.go_on.new.self) (called c.tell.new.self) _ _ (ap (λ v. v.items) said.heard) said.answered (ap (λ v. v.items) said.answer)
    said.over said.unsaid said.stops (c.go_on.ensures.attends honest)
