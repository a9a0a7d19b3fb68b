-- What the service's steps and outcomes show.
use Rattle.registry_model.specs.Answer.{answer_of}
use Rattle.registry_model.specs.Ask.{ask_of}
use Rattle.registry_model.specs.Team as team
use Rattle.registry_model.specs.Team.{asks, orders}
use Rattle.registry_model.specs.Runs as runs
use Rattle.registry_model.specs.Runs.{told, did}
use Rattle.registry_service.specs.declared.run.Step.{Step}
use Rattle.registry_service.specs.declared.run.Step.TheVariants.{Request, Admin}
use Rattle.registry_service.specs.declared.run.Outcome.{Outcome}
use Rattle.registry_service.specs.declared.run.Outcome.TheVariants as outcome

abbrev pub shown_step : Step → team.Step
shown_step (Request q) = asks (ask_of q)
shown_step (Admin a) = orders a

abbrev pub shown_outcome : Outcome → runs.Outcome
shown_outcome (outcome.Reply r) = told (answer_of r)
shown_outcome (outcome.Admin r) = did r
