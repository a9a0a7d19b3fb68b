use Rattle.std.proofs.Common.{Some, None, sym, subst}
use Rattle.registry_model.specs.Keeping.{State, HeldStays, state_of}
use Rattle.registry_service.specs.Bodies.{from_body}
use Rattle.registry_conversation.specs.ConversationShowing.{shown}
use Rattle.registry_conversation.specs.Telling.{Tells}
use Rattle.registry_conversation.specs.Receiving.{LiesApart}
use Rattle.registry_conversation.specs.declared.body_place.BodyPlace.{BodyPlace}
use Rattle.registry_conversation.proofs.ApartLemmas.{head_of, held_at, held_from_all, held_through, same_at}
use Rattle.registry_conversation.proofs.receiver.Receiver.reply.Goals as goal
use Rattle.registry_conversation.proofs.receiver.Receiver.reply.Goals.{in-Stage, in_default}

pub returns-clause-acts : goal.returns-clause-acts
returns-clause-acts g c = λ honest so apart b said lies size w.
    let old = c.args.self.now in
    let k = g.K.Keeper.kept c.args.service.now in
    let mid = g.K.Keeper.kept c.match-self.service in
    let head = head_of old.place c.args.key k (shown old.conversation).taken apart so lies in
    let honest_mid = c.unstage.ensures.honest honest in
    let first : HeldStays (from_body (Some c.args.key) k mid) mid
    × Tells c.args.settings c.match-self.step b said (shown old.conversation) (state_of k) (state_of mid) (shown c.match-self.self.conversation) old.conversation.outbox.report
    c.match-self.self.conversation.outbox.report =
    elim c.match-self.branch [
      | in-Stage x ↦
          let there = subst (λ s. g.K.Keeper.is_honest s) x.service-is honest_mid in
          let staged = subst (λ (p : BodyPlace). LiesApart p c.args.key k (shown old.conversation).taken apart) x.in-Stage.is lies in
          rw (x.self-is, x.service-is, x.step-is)
          (x.reply_to_head-step.ensures.holds there apart (staged.1, size), x.reply_to_head-step.ensures.acts there apart b said head (staged.1, size) w)
      | in_default x ↦
          let there = subst (λ s. g.K.Keeper.is_honest s) x.service-is honest_mid in
          rw (x.self-is, x.service-is, x.step-is) (
            held_from_all c.args.key k (g.K.Keeper.kept x.reply_to_head-step-in_default.new.service) (x.reply_to_head-step-in_default.ensures.holds there apart size),
            x.reply_to_head-step-in_default.ensures.acts there apart b said head size w,
          )
    ] in
    let k' = g.K.Keeper.kept c.unstage.new.self in
    let gone = c.unstage.ensures.gone honest in (
      held_through c.args.key k mid k' first.0 (held_at c.args.key None mid k' gone),
      subst (λ (s : State). Tells c.args.settings c.match-self.step b said (shown old.conversation) (state_of k) s (shown c.match-self.self.conversation) old.conversation.outbox.report
          c.match-self.self.conversation.outbox.report) (sym (same_at c.args.key None mid k' gone)) first.1,
    )
