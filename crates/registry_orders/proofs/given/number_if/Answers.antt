use Rattle.std.proofs.Common.{◌∙◌, sym, ap}
use Rattle.std.specs.Prelude.{option_map}
use Rattle.clap.specs.Words.{found_of, rows_of}
use Rattle.registry_orders.proofs.GivenLemmas.{no_text}
use Rattle.registry_orders.proofs.given.number_if.Goals as goal

pub returns-in-None-clause-found : goal.returns-in-None-clause-found
returns-in-None-clause-found c =
    no_text c.args.option.now (rows_of (found_of c.args.matches.now))
    (sym c.text_given.ensures ∙ ap (option_map (λ text. text.now)) c.in-None.is)
