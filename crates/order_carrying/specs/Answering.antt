-- What answering a line comes to (profile).
use Rattle.std.specs.Prelude.{◌≡◌, ◌≢◌, ◌⊎◌, [], ◌++◌, Some, Result, Ok, Err}
use Rattle.oci_types.specs.Text.{Text}
use Rattle.registry_model.specs.declared.admin.AdminCommand.{AdminCommand}
use Rattle.registry_model.specs.declared.admin.AdminFault.{AdminFault}
use Rattle.registry_model.specs.Keeping.{Kept, state_of, HeldStays}
use Rattle.registry_model.specs.Runs.{did, Takes}
use Rattle.registry_model.specs.Team.{orders}
use Rattle.registry_orders.specs.declared.failure.Failure.{Failure}
use Rattle.registry_orders.specs.declared.failure.Failure.TheVariants.{InvalidOptions, OutOfMemory, ConnectionFailure}
use Rattle.registry_orders.specs.declared.orders.Order.{Order}
use Rattle.registry_orders.specs.Outputs.{output}
use Rattle.order_carrying.specs.Carrying.{CarriesOrder}
use Rattle.registry_orders.specs.Failures.{status_if, text_of}
use Rattle.registry_orders.specs.Outputs.{newline}
use Rattle.order_texts.specs.Answers.{answer_text, failure_text}
use Rattle.order_texts.specs.Lines.{Spells, SpellsNone}

-- what the order wrote to standard output, or what is said of its failure on standard error
abbrev pub said : Result (Unit {0}) Failure → Text → Text
said (Ok v) written = written
said (Err failure) written = text_of failure ++ newline

-- the order was carried out, or why not, and the bytes are its answer. That writing failed is never said: it
-- would be memory that is wanting, for which there is no answer
pub record IsAnswered (s : Kept) (o : Order) (bytes : Text) (s' : Kept) : Type 0 where
  pub result : Result (Unit {0}) Failure
  pub written : Text
  pub carried : CarriesOrder s o result (output (Some []) (Some written)) s'
  pub whole : result ≢ Err ConnectionFailure
  pub is : bytes ≡ answer_text (status_if result) (said result written)

-- the line spells an order, which is answered; it spells none, which is said; or memory was wanting to read
-- it, which is said
abbrev pub AnswersLine : Kept → Text → Text → Kept → Type 0
AnswersLine s line bytes s' =
    ((o : Order) × Spells line o × IsAnswered s o bytes s')
    ⊎ (SpellsNone line × (s' ≡ s) × (bytes ≡ failure_text InvalidOptions))
    ⊎ ((s' ≡ s) × (bytes ≡ failure_text OutOfMemory))

-- nothing happened, or one command was carried out, refused or lost, and what is held stays. A table that the
-- storage does not give loses it as any command does that is lost
abbrev pub IsOneStep : Kept → Kept → Type 0
IsOneStep s s' =
    (s' ≡ s) ⊎ ((a : AdminCommand) × (r : Result (Unit {0}) AdminFault)
    × Takes (state_of s) (orders a) (did r) (state_of s') × HeldStays s s')
