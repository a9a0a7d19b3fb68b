-- What a request comes to, by the reply.
use Rattle.std.proofs.Common.{◌≡◌, false, true, refl, sym, subst}
use Rattle.registry_model.specs.Answer.{Answer, busy_answer, failed_answer}
use Rattle.registry_model.specs.Ask.{Ask}
use Rattle.registry_model.specs.Judging.{reply_to, after_request}
use Rattle.registry_model.specs.Doing.{Does, DoesAs, SpendsAs, course_of_answer, answered, keeps}
use Rattle.registry_model.specs.Keeping.{State}

module _ (s s' : State) (a : Answer) where
  pub does_answered : (q : Ask) → course_of_answer a ≡ answered → s.spent ≡ false → a ≡ reply_to s.world q → s' ≡ keeps (after_request s.world q) → Does s q a s'
  does_answered q k unspent e after = subst (λ x. DoesAs x s q a s') (sym k) (unspent, e, after)

  pub does_missed : (q : Ask) → a ≡ busy_answer → s.spent ≡ false → s' ≡ s → Does s q a s'
  does_missed q e unspent same = subst (λ x. Does s q x s') (sym e) (unspent, refl, same)

  pub does_lost : (q : Ask) → a ≡ failed_answer → s'.spent ≡ true → Does s q a s'
  does_lost q e spent = subst (λ x. Does s q x s') (sym e) (refl, spent)

  pub spends_answered : course_of_answer a ≡ answered → s.spent ≡ false → s'.spent ≡ false → SpendsAs (course_of_answer a) s s'
  spends_answered k before after = subst (λ x. SpendsAs x s s') (sym k) (before, after)

  pub spends_missed : a ≡ busy_answer → s.spent ≡ false → s'.spent ≡ false → SpendsAs (course_of_answer a) s s'
  spends_missed e before after = subst (λ x. SpendsAs (course_of_answer x) s s') (sym e) (before, after)

  pub spends_lost : a ≡ failed_answer → s'.spent ≡ true → SpendsAs (course_of_answer a) s s'
  spends_lost e spent = subst (λ x. SpendsAs (course_of_answer x) s s') (sym e) spent
