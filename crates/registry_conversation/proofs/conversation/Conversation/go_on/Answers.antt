use Rattle.std.proofs.Common.{inl, refl, subst, sym, le_trans, arith}
use Rattle.httparse.specs.Grammar.{print_request}
use Rattle.oci_types.specs.Text.{Text}
use Rattle.registry_http.specs.Buffering.{before, behind}
use Rattle.registry_http.specs.Framing.{framing}
use Rattle.registry_http.specs.Expecting.{IsBefore}
use Rattle.registry_conversation.specs.ConversationShowing.{shown}
use Rattle.registry_conversation.specs.declared.part.Taken.TheVariants as all
use Rattle.registry_conversation.proofs.PartLemmas.{takes_here}
use Rattle.registry_conversation.proofs.HoldingLemmas.{cut_there}
use Rattle.registry_conversation.proofs.SteppingLemmas.{refused, body_never, waited_cut, waited_same, none_left, leads_from, leads_waited, leads_refused}
use Rattle.registry_model.proofs.HeldLaws.{held_rests}
use Rattle.registry_conversation.proofs.conversation.Conversation.go_on.Goals as goal

pub returns-in-Whole : goal.returns-in-Whole
returns-in-Whole g c = record {
  honest = c.reply.ensures.honest;
  holds = c.reply.ensures.holds;
  finished = c.reply.ensures.finished;
  fewer = le_trans c.reply.ensures.fewer c.take_body.ensures.fewer;
  leads = leads_from c.reply.result (shown c.args.self.now) _ (shown c.reply.new.self) (omega (arith, c.take_body.ensures.fewer)) c.reply.ensures.leads;
  acts = λ honest b said x.
      c.reply.ensures.acts honest b said (record {
        head = x.0;
        behind = x.1;
        there = x.2;
        said_is = x.3;
        body = (takes_here c.args.settings c.args.part (all.Whole _) _ _ _ _ c.in-Whole.ensures.takes (framing c.args.settings x.0) (print_request x.0) x.1 x.4).0;
      });
}

pub returns-in-Missing : goal.returns-in-Missing
returns-in-Missing g c =
    let same = waited_same c.wait.result _ _ (shown c.wait.new.self) c.wait.ensures.waits in
    record {
      honest = λ honest. honest;
      holds = λ honest. held_rests (g.K.Keeper.kept c.args.service.now) (g.K.Keeper.kept c.args.service.now) refl;
      finished = same.0;
      fewer = le_trans same.1 c.take_body.ensures.fewer;
      leads = leads_waited c.wait.result _ (shown c.args.self.now) _ (shown c.wait.new.self) c.wait.ensures.waits refl (omega (arith, c.take_body.ensures.fewer));
      acts = λ honest b said x.
          let it = takes_here c.args.settings c.args.part (all.Missing c.in-Missing.next) _ _ _ _ c.in-Missing.ensures.takes (framing c.args.settings x.0) (print_request x.0) x.1 x.4 in
          waited_cut c.args.settings c.wait.result b said _ (shown c.wait.new.self) _ _ _ c.wait.ensures.waits c.wait.ensures.report (cut_there c.args.settings x.0 b x.1 x.2 it.1)
          (subst (λ (y : Text). IsBefore c.args.settings b y) (sym x.3) (inl (x.0, x.1, x.2.begins, x.2.few, refl))) (x.0, x.1, x.2, x.3, it.0);
    }

pub returns-in-Refused : goal.returns-in-Refused
returns-in-Refused g c = record {
  honest = λ honest. honest;
  holds = λ honest. held_rests (g.K.Keeper.kept c.args.service.now) (g.K.Keeper.kept c.args.service.now) refl;
  finished = c.refuse.ensures.refuses.finished;
  fewer = none_left (shown c.args.self.now) (shown c.refuse.new.self) c.refuse.ensures.refuses.none_held;
  leads = leads_refused c.refuse.result _ (shown c.args.self.now) _ (shown c.refuse.new.self) c.refuse.ensures.refuses;
  acts = λ honest b said x.
      refused c.args.settings c.refuse.result c.in-Refused.refusal b said _ (shown c.refuse.new.self) _ _ _ c.refuse.ensures.refuses c.refuse.ensures.tells
      (body_never c.args.settings c.args.part _ _ b said c.in-Refused.refusal x (takes_here c.args.settings c.args.part (all.Refused c.in-Refused.refusal) _ _ (before c.take_body.new.buffer) (behind c.take_body.new.buffer) c.in-Refused.ensures.takes (framing c.args.settings x.0) (print_request x.0) x.1 x.4));
}
