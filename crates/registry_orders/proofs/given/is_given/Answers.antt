use Rattle.clap.specs.Words.{found_of, one_of, rows_of}
use Rattle.clap.proofs.WalkLemmas.{one_text-rows}
use Rattle.registry_orders.proofs.GivenLemmas.{flag_read}
use Rattle.registry_orders.proofs.given.is_given.Goals as goal

pub returns : goal.returns
returns c =
    let same = one_text-rows (found_of c.args.matches.now) c.args.flag.now in
    let value = one_of c.args.flag.now (rows_of (found_of c.args.matches.now)) in
    rw c.unwrap_or.ensures
    (flag_read _ value c.get_one.result (rw same at c.get_one.ensures.none, rw same at c.get_one.ensures.value))
