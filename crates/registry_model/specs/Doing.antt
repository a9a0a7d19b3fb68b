-- What one request or command comes to: an answer, want of memory, or the end at a storage failure.
use Rattle.std.specs.Prelude.{◌≡◌, true, false, Option, Some, None, Result, Ok, Err}
use Rattle.registry_model.specs.declared.admin.AdminCommand.{AdminCommand}
use Rattle.registry_model.specs.declared.admin.AdminFault.{AdminFault}
use Rattle.registry_model.specs.declared.admin.AdminFault.TheVariants.{Memory, Storage}
use Rattle.registry_model.specs.declared.reply.Status.{Status}
use Rattle.registry_model.specs.declared.reply.Status.TheVariants.{InternalServerError, ServiceUnavailable}
use Rattle.registry_model.specs.World.{World}
use Rattle.registry_model.specs.Answer.{Answer, busy_answer, failed_answer}
use Rattle.registry_model.specs.Ask.{Ask}
use Rattle.registry_model.specs.Judging.{reply_to, after_request}
use Rattle.registry_model.specs.Command.{refusal_of, after_command}
use Rattle.registry_model.specs.State.{State}

pub data Course : Type 0 where
  answered missed lost : Course

abbrev pub course_of_status : Status → Course
course_of_status InternalServerError = lost
course_of_status ServiceUnavailable = missed
course_of_status _ = answered

abbrev pub course_of_answer : Answer → Course
course_of_answer a = course_of_status a.status

-- the keeper goes on with this world
abbrev pub keeps : World → State
keeps w = record { world = w; spent = false }

-- a request that was answered got the definitions' answer and made their change; where memory was wanting
-- nothing changed; of a keeper that is lost nothing is known
abbrev pub DoesAs : Course → State → Ask → Answer → State → Type 0
DoesAs answered s q a s' =
    (s.spent ≡ false) × (a ≡ reply_to s.world q) × (s' ≡ keeps (after_request s.world q))
DoesAs missed s q a s' = (s.spent ≡ false) × (a ≡ busy_answer) × (s' ≡ s)
DoesAs lost s q a s' = (a ≡ failed_answer) × (s'.spent ≡ true)

abbrev pub Does : State → Ask → Answer → State → Type 0
Does s q a s' = DoesAs (course_of_answer a) s q a s'

-- the storage is lost exactly where the reply says so
abbrev pub SpendsAs : Course → State → State → Type 0
SpendsAs answered s s' = (s.spent ≡ false) × (s'.spent ≡ false)
SpendsAs missed s s' = (s.spent ≡ false) × (s'.spent ≡ false)
SpendsAs lost s s' = s'.spent ≡ true

-- ---- commands

abbrev pub course_of_result : Result (Unit {0}) AdminFault → Course
course_of_result (Err Memory) = missed
course_of_result (Err Storage) = lost
course_of_result _ = answered

-- the refusal as the command's outcome
abbrev pub outcome_of : Option AdminFault → Result (Unit {0}) AdminFault
outcome_of None = Ok tt
outcome_of (Some e) = Err e

abbrev pub CarriesOutAs : Course → State → AdminCommand → Result (Unit {0}) AdminFault → State → Type 0
CarriesOutAs answered s a r s' =
    (s.spent ≡ false) × (r ≡ outcome_of (refusal_of s.world a)) × (s' ≡ keeps (after_command s.world a))
CarriesOutAs missed s a r s' = (s.spent ≡ false) × (s' ≡ s)
CarriesOutAs lost s a r s' = s'.spent ≡ true

abbrev pub CarriesOut : State → AdminCommand → Result (Unit {0}) AdminFault → State → Type 0
CarriesOut s a r s' = CarriesOutAs (course_of_result r) s a r s'
