use Rattle.clap.specs.Words.{found_of, rows_of}
use Rattle.registry_orders.proofs.TokenLemmas.{with_token}
use Rattle.registry_orders.proofs.orders.order_of_token.Goals as goal

pub returns-clause-read : goal.returns-clause-read
returns-clause-read c =
    let options = rows_of (found_of c.args.matches.now) in
    rw c.with.ensures
    (with_token c.args.word.now options c.in_ok-order.order c.in_ok-token.token c.in_ok-order.ensures.read c.in_ok-token.ensures.found)
