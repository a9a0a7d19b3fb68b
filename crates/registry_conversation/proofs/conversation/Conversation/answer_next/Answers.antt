use Rattle.std.proofs.Common.{subst, sym, ◌∙◌}
use Rattle.registry_conversation.specs.declared.phase.Phase.{Phase}
use Rattle.registry_conversation.specs.Holding.{HoldsAs}
use Rattle.registry_conversation.specs.ConversationShowing.{shown}
use Rattle.registry_conversation.proofs.conversation.Conversation.answer_next.Goals as goal

pub returns-in-Head : goal.returns-in-Head
returns-in-Head g c = record {
  honest = c.begin.ensures.honest;
  holds = c.begin.ensures.holds;
  finished = c.begin.ensures.finished;
  fewer = c.begin.ensures.fewer;
  leads = c.begin.ensures.leads;
  over = λ e ended. absurd (let both = sym c.in-Head.is ∙ ended in cc);
  acts = λ honest b said x. (c.begin.ensures.acts honest b said x).0;
  tells = c.begin.ensures.acts;
}

pub returns-in-Body : goal.returns-in-Body
returns-in-Body g c =
    let old = shown c.args.self.now in
    record {
      honest = c.go_on.ensures.honest;
      holds = c.go_on.ensures.holds;
      finished = c.go_on.ensures.finished;
      fewer = c.go_on.ensures.fewer;
      leads = c.go_on.ensures.leads;
      over = λ e ended. absurd (let both = sym c.in-Body.is ∙ ended in cc);
      acts = λ honest b said x.
          (c.go_on.ensures.acts honest b said (subst (λ (p : Phase). HoldsAs c.args.settings p old.taken old.unread b said) c.in-Body.is x)).0;
      tells = λ honest b said x.
          c.go_on.ensures.acts honest b said (subst (λ (p : Phase). HoldsAs c.args.settings p old.taken old.unread b said) c.in-Body.is x);
    }
