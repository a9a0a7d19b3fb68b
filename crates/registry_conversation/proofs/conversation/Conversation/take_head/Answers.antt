use Rattle.std.proofs.Common.{refl, [], subst, le_trans, arith}
use Rattle.oci_types.specs.Text.{Text}
use Rattle.registry_conversation.specs.ConversationShowing.{shown}
use Rattle.registry_conversation.specs.Stepping.{IsRefusedThere}
use Rattle.registry_conversation.proofs.HoldingLemmas.{length_begins, chunks_begin}
use Rattle.registry_conversation.proofs.SteppingLemmas.{refused_at, none_before, refused, passed, none_left, leads_from, leads_refused}
use Rattle.registry_model.proofs.HeldLaws.{held_rests}
use Rattle.registry_conversation.proofs.conversation.Conversation.take_head.Goals as goal

pub returns-in-Length : goal.returns-in-Length
returns-in-Length g c =
    let few = passed c.args.heading.len (shown c.args.self.now) _ _ c.pass.ensures.before c.pass.ensures.behind in
    record {
      honest = c.begin_body.ensures.honest;
      holds = c.begin_body.ensures.holds;
      finished = c.begin_body.ensures.finished;
      fewer = le_trans c.begin_body.ensures.fewer few;
      leads = leads_from c.begin_body.result (shown c.args.self.now) _ (shown c.begin_body.new.self) (omega (arith, few)) c.begin_body.ensures.leads;
      acts = λ honest b begins none all.
          c.begin_body.ensures.acts honest b
          (length_begins c.args.settings c.args.heading b _ _ _ _ _ begins c.in-Length.is none all c.pass.ensures.before c.pass.ensures.behind);
    }

pub returns-in-Chunked : goal.returns-in-Chunked
returns-in-Chunked g c =
    let few = passed c.args.heading.len (shown c.args.self.now) _ _ c.pass.ensures.before c.pass.ensures.behind in
    record {
      honest = c.begin_body-in-Chunked.ensures.honest;
      holds = c.begin_body-in-Chunked.ensures.holds;
      finished = c.begin_body-in-Chunked.ensures.finished;
      fewer = le_trans c.begin_body-in-Chunked.ensures.fewer few;
      leads = leads_from c.begin_body-in-Chunked.result (shown c.args.self.now) _ (shown c.begin_body-in-Chunked.new.self) (omega (arith, few)) c.begin_body-in-Chunked.ensures.leads;
      acts = λ honest b begins none all.
          c.begin_body-in-Chunked.ensures.acts honest b
          (chunks_begin c.args.settings c.args.heading b _ _ _ _ begins c.in-Chunked.is none all c.pass.ensures.before c.pass.ensures.behind);
    }

pub returns-in-Refused : goal.returns-in-Refused
returns-in-Refused g c = record {
  honest = λ honest. honest;
  holds = λ honest. held_rests (g.K.Keeper.kept c.args.service.now) (g.K.Keeper.kept c.args.service.now) refl;
  finished = c.refuse.ensures.refuses.finished;
  fewer = none_left (shown c.args.self.now) (shown c.refuse.new.self) c.refuse.ensures.refuses.none_held;
  leads = leads_refused c.refuse.result _ (shown c.args.self.now) _ (shown c.refuse.new.self) c.refuse.ensures.refuses;
  acts = λ honest b begins none all.
      refused c.args.settings c.refuse.result c.in-Refused.refusal b [] _ (shown c.refuse.new.self) _ _ _ c.refuse.ensures.refuses c.refuse.ensures.tells
      (subst (λ (said : Text). IsRefusedThere c.args.settings b said c.in-Refused.refusal) (none_before c.args.settings c.args.heading b begins c.in-Refused.refusal c.in-Refused.is)
      (refused_at c.args.settings c.args.heading b begins c.in-Refused.refusal c.in-Refused.is));
}
