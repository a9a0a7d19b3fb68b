-- What an operation asks of its keeper, and what it comes to.
use Rattle.std.specs.Prelude.{◌≡◌, true, false, Option, Some, Result, IfOk}
use Rattle.oci_types.specs.Text.{Text}
use Rattle.oci_types.specs.declared.fault.Fault.{Fault}
use Rattle.registry_model.specs.declared.reply.Reply.{Reply}
use Rattle.registry_model.specs.World.{World, Repo, repo_at, has_repo}
use Rattle.registry_model.specs.Answer.{answer_of}
use Rattle.registry_model.specs.Heads.{is_sent}
use Rattle.registry_model.specs.Decision.{Decision, in_repo}
use Rattle.registry_model.specs.Judging.{changed}
use Rattle.registry_model.specs.Doing.{course_of_answer, answered}
use Rattle.registry_model.specs.Keeping.{Kept, WritesBy}

-- the storage has not failed
abbrev pub IsUnspent : Kept → Type 0
IsUnspent s = s.spent ≡ false

-- the repository of the name is there
abbrev pub HasRepo : Kept → Text → Type 0
HasRepo s name = has_repo s.world name ≡ true

-- a reply, if there is one, answers: it is not that of a fault
abbrev pub Answers : Result Reply Fault → Type 0
Answers r = IfOk r (λ reply. course_of_answer (answer_of reply) ≡ answered)

-- a reply, if there is one, has its content itself, and not its length alone
abbrev pub Carries : Result Reply Fault → Type 0
Carries r = IfOk r (λ reply. is_sent (answer_of reply).body ≡ true)

-- the reply of the decision, and its change to the repository of the name, if there is one
abbrev pub ComesOn : Result Reply Fault → Option Text → Decision → Kept → Kept → Type 0
ComesOn r name decision s s' =
    WritesBy answer_of r decision.reply (changed s.world name decision.change) s s'

abbrev pub Comes : Result Reply Fault → Text → Decision → Kept → Kept → Type 0
Comes r name decision s s' = ComesOn r (Some name) decision s s'

-- the same of an operation on that repository
abbrev pub Operates : Result Reply Fault → Text → (Repo → Decision) → Kept → Kept → Type 0
Operates r name act s s' = Comes r name (in_repo (repo_at s.world name) act) s s'

-- and of one that looks at the rest of the world too
abbrev pub OperatesWith : Result Reply Fault → Text → (World → Repo → Decision) → Kept → Kept → Type 0
OperatesWith r name act s s' = Operates r name (act s.world) s s'
