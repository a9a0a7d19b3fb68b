-- The answer where memory is wanting, or of a service that is spent.
use Rattle.std.proofs.Common.{◌≡◌, ℕ, Option, Bool, true, false, if◌then◌else◌, refl, sym}
use Rattle.registry_model.specs.Answer.{Answer, busy_answer, failed_answer}
use Rattle.registry_model.specs.Ask.{Ask}
use Rattle.registry_model.specs.Doing.{Does}
use Rattle.registry_model.specs.Heads.{is_sent}
use Rattle.registry_model.specs.Keeping.{State, Kept, HeldStays}
use Rattle.registry_model.proofs.HeldLaws.{held_rests}
use Rattle.registry_service.specs.Bodies.{from_body}
use Rattle.registry_service.proofs.BodyLemmas.{kept_from}

pub wanting : (s : State) (q : Ask) (a : Answer) (spent : Bool) → a ≡ (if spent then failed_answer else busy_answer) → spent ≡ s.spent → Does s q a s
wanting s q a true e is = rw e (refl, sym is)
wanting s q a false e is = rw e (sym is, refl, refl)

pub whole : (a : Answer) (spent : Bool) → a ≡ (if spent then failed_answer else busy_answer) → is_sent a.body ≡ true
whole a true e = rw e refl
whole a false e = rw e refl

-- where nothing was asked of the service, what is held stays
pub rests_from : (stage : Option ℕ) (k : Kept) → HeldStays (from_body stage k k) k
rests_from stage k = held_rests (from_body stage k k) k (kept_from stage k k refl)
