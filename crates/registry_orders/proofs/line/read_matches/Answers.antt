use Rattle.std.proofs.Common.{sym, subst}
use Rattle.clap.specs.Words.{found_of, rows_of}
use Rattle.registry_orders.specs.Tasks.{IsTaskOf}
use Rattle.registry_orders.proofs.FoundLemmas.{subcommand_found}
use Rattle.registry_orders.proofs.line.read_matches.Goals as goal

pub returns-in-Ok-clause-read : goal.returns-in-Ok-clause-read
returns-in-Ok-clause-read c =
    let options = rows_of (found_of c.in-Some.matches.now) in
    let met = subcommand_found c.args.matches.now c.in-Some.word.now options (sym c.in-Some.ensures.name) (sym c.in-Some.ensures.rows) in
    subst (λ o. IsTaskOf o c.in-Ok.task) (sym met) c.in-Ok.ensures.read

pub returns-in-Err-clause-refused : goal.returns-in-Err-clause-refused
returns-in-Err-clause-refused c words = c.told_of.ensures words c.in-Err.ensures.refused
