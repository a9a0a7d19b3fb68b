-- Steps one after the other, and what a team is told among them (profile).
use Rattle.std.specs.Prelude.{◌≡◌, ◌≢◌, true, false, if◌then◌else◌, List, [], ◌∷◌, map, length, All, ⊤, Result}
use Rattle.registry_model.specs.declared.admin.AdminFault.{AdminFault}
use Rattle.registry_model.specs.World.{World}
use Rattle.registry_model.specs.Answer.{Answer}
use Rattle.registry_model.specs.Ask.{Ask}
use Rattle.registry_model.specs.Judging.{reply_to, after_request}
use Rattle.registry_model.specs.Command.{refusal_of, after_command}
use Rattle.registry_model.specs.State.{State}
use Rattle.registry_model.specs.Doing.{Course, answered, missed, lost, course_of_answer, course_of_result, outcome_of, Does, CarriesOut, SpendsAs}
use Rattle.registry_model.specs.Team.{Team, IsTeamOf, view, Step, asks, orders, is_own, OwnOrAside}

-- what came of a step
pub data Outcome : Type 0 where
  told : Answer → Outcome
  did : Result (Unit {0}) AdminFault → Outcome

-- what a step comes to, and the world after it
abbrev pub comes_to : World → Step → Outcome
comes_to w (asks q) = told (reply_to w q)
comes_to w (orders a) = did (outcome_of (refusal_of w a))

abbrev pub after : World → Step → World
after w (asks q) = after_request w q
after w (orders a) = after_command w a

-- an answer, want of memory, or the end at a storage failure
abbrev pub course : Outcome → Course
course (told a) = course_of_answer a
course (did r) = course_of_result r

-- one step of a keeper's state
abbrev pub Takes : State → Step → Outcome → State → Type 0
Takes s (asks q) (told a) s' = Does s q a s'
Takes s (orders a) (did r) s' = CarriesOut s a r s'
Takes s (asks q) (did r) s' = ⊥
Takes s (orders a) (told r) s' = ⊥

-- a reply comes of a request and a result of a command, and each says by its kind whether the storage is lost
abbrev pub Shows : State → Step → Outcome → State → Type 0
Shows s (asks q) (told a) s' = SpendsAs (course_of_answer a) s s'
Shows s (orders a) (did r) s' = SpendsAs (course_of_result r) s s'
Shows s (asks q) (did r) s' = ⊥
Shows s (orders a) (told r) s' = ⊥

-- steps one after the other, each from the state that the one before it left
abbrev pub OneByOne : (State → Step → Outcome → State → Type 0)
    → State → List Step → List Outcome → State → Type 0
OneByOne One s [] [] s' = s' ≡ s
OneByOne One s (st ∷ steps) (o ∷ outcomes) s' =
    (mid : State) × One s st o mid × OneByOne One mid steps outcomes s'
OneByOne One s [] (o ∷ outcomes) s' = ⊥
OneByOne One s (st ∷ steps) [] s' = ⊥

abbrev pub TakesAll : State → List Step → List Outcome → State → Type 0
TakesAll s steps outcomes s' = OneByOne Takes s steps outcomes s'

abbrev pub ShowsAll : State → List Step → List Outcome → State → Type 0
ShowsAll s steps outcomes s' = OneByOne Shows s steps outcomes s'

-- ---- what remains of a list of steps

-- the steps that were answered before the first storage failure, with their outcomes; those for which memory
-- was wanting are left out
abbrev pub kept_as : Course → Step → Outcome → List (Step × Outcome) → List (Step × Outcome)
kept_as answered st o others = (st, o) ∷ others
kept_as missed st o others = others
kept_as lost st o others = []

abbrev pub kept : List Step → List Outcome → List (Step × Outcome)
kept [] outcomes = []
kept (st ∷ steps) [] = []
kept (st ∷ steps) (o ∷ outcomes) = kept_as (course o) st o (kept steps outcomes)

-- each outcome is that of its step, one after the other
abbrev pub Follow : World → List (Step × Outcome) → Type 0
Follow w [] = ⊤
Follow w (p ∷ others) = (p.1 ≡ comes_to w p.0) × Follow (after w p.0) others

abbrev pub after_all : World → List (Step × Outcome) → World
after_all w [] = w
after_all w (p ∷ others) = after_all (after w p.0) others

-- once a step is lost, so is each after it
abbrev pub AllLost : List Outcome → Type 0
AllLost outcomes = All (λ o. course o ≡ lost) outcomes

abbrev pub LostToTheEnd : List Outcome → Type 0
LostToTheEnd [] = ⊤
LostToTheEnd (o ∷ outcomes) = (course o ≡ lost → AllLost outcomes) × LostToTheEnd outcomes

-- ---- what a team is told

-- a request of the team goes to the front, with its reply
abbrev pub own_of : Team → Step → Outcome → List (Ask × Answer) → List (Ask × Answer)
own_of team (asks q) (told a) others = if is_own team q.token then (q, a) ∷ others else others
own_of team st o others = others

-- the team's own requests, with the replies to them
abbrev pub own : Team → List (Step × Outcome) → List (Ask × Answer)
own team [] = []
own team (p ∷ others) = own_of team p.0 p.1 (own team others)

-- what the team asks among the steps
abbrev pub requests_of : Team → List Step → List Ask
requests_of team [] = []
requests_of team (asks q ∷ steps) =
    if is_own team q.token then q ∷ requests_of team steps else requests_of team steps
requests_of team (orders a ∷ steps) = requests_of team steps

-- what the team asked and was answered, and the replies
abbrev pub asked : Team → List Step → List Outcome → List Ask
asked team steps outcomes = map (λ p. p.0) (own team (kept steps outcomes))

abbrev pub answers_to : Team → List Step → List Outcome → List Answer
answers_to team steps outcomes = map (λ p. p.1) (own team (kept steps outcomes))

-- no request of the team failed for want of memory
abbrev pub NoneMissed : Team → List Step → List Outcome → Type 0
NoneMissed team (asks q ∷ steps) (o ∷ outcomes) =
    (is_own team q.token ≡ true → course o ≢ missed) × NoneMissed team steps outcomes
NoneMissed team (orders a ∷ steps) (o ∷ outcomes) = NoneMissed team steps outcomes
NoneMissed team steps outcomes = ⊤

-- the replies to requests, one after the other
abbrev pub replies : World → List Ask → List Answer
replies w [] = []
replies w (q ∷ requests) = reply_to w q ∷ replies (after_request w q) requests

-- the team is told what it would be told in its own view, alone
abbrev pub IsToldAlone : World → Team → List (Step × Outcome) → Type 0
IsToldAlone w team pairs =
    map (λ p. p.1) (own team pairs) ≡ replies (view w team) (map (λ p. p.0) (own team pairs))

-- isolation: so it is for each team whose steps are its own or aside
abbrev pub IsPrivate : World → List Step → List Outcome → Type 0
IsPrivate w steps outcomes =
    (team : Team) → IsTeamOf w team → All (OwnOrAside w steps team) steps
    → IsToldAlone w team (kept steps outcomes)

-- what a run says: one outcome for each step; up to the first storage failure they are the definitions'; and
-- each team is told what it would be told alone
pub record RunSays (s : State) (steps : List Step) (outcomes : List Outcome) (s' : State) : Type 0 where
  pub count : length outcomes ≡ length steps
  pub lost_to_the_end : LostToTheEnd outcomes
  pub follow : Follow s.world (kept steps outcomes)
  pub ends : s'.spent ≡ false → s'.world ≡ after_all s.world (kept steps outcomes)
  pub private : IsPrivate s.world steps outcomes
