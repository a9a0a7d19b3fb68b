use Rattle.std.specs.Str.Parse.{ParsesUnsigned, ExplainsUnsignedError, HasUnsignedDigitsIfOk}
use Rattle.clap.specs.Words.{found_of, one_of, rows_of}
use Rattle.clap.proofs.WalkLemmas.{one_text-rows}
use Rattle.registry_orders.proofs.GivenLemmas.{number_read}
use Rattle.registry_orders.proofs.given.number_given.Goals as goal

pub returns-clause-found : goal.returns-clause-found
returns-clause-found c =
    let same = one_text-rows (found_of c.args.matches.now) c.args.option.now in
    let value = one_of c.args.option.now (rows_of (found_of c.args.matches.now)) in
    rw c.ok_or.ensures.value
    (number_read _ (λ t x. ParsesUnsigned 64 10 t x × ExplainsUnsignedError 10 t x × HasUnsignedDigitsIfOk t x) value c.get_one.result _ (λ u x g. g.0) (rw same at c.get_one.ensures.none, rw same at c.get_one.ensures.value))
