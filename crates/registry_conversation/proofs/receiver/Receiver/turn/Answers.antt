use Rattle.std.proofs.Common.{[], None, refl, sym, ap, subst}
use Rattle.registry_model.specs.Keeping.{state_of}
use Rattle.registry_outbox.specs.declared.report.Report.{Report}
use Rattle.std.specs.Prelude.{Option}
use Rattle.registry_conversation.specs.declared.body_place.BodyPlace.{BodyPlace}
use Rattle.registry_conversation.specs.ConversationShowing.{shown}
use Rattle.registry_conversation.specs.Holding.{Holds}
use Rattle.registry_conversation.specs.Receiving.{joined, placed, received}
use Rattle.registry_conversation.specs.Telling.{Tells}
use Rattle.registry_conversation.proofs.ApartLemmas.{held_from_all, held_through, lies_in_buffer, lies_of, tells_from}
use Rattle.registry_conversation.proofs.receiver.Receiver.turn.Goals as goal

pub returns-in-Head-clause-turns : goal.returns-in-Head-clause-turns
returns-in-Head-clause-turns g c = λ honest apart.
    let old = c.args.self.now in
    let k = g.K.Keeper.kept c.args.service.now in
    let k' = g.K.Keeper.kept c.answer_next-step.new.service in
    let now = shown c.answer_next-step.new.self in
    record {
      apart' = [];
      lies = lies_in_buffer c.args.key k' (placed old.place now) [] c.requires;
      holds = λ b said x. held_from_all c.args.key k k' (c.answer_next-step.ensures.holds honest);
      tells = λ b said x.
          tells_from c.args.settings c.answer_next-step.result b said (shown old.conversation).going (shown old.conversation).going (state_of k) (state_of k) (state_of k') (state_of k')
          now (joined [] (placed old.place now)) None None _ refl refl refl (ap (λ (p : BodyPlace). joined [] (placed p now)) (sym c.requires)) refl
          (c.answer_next-step.ensures.tells honest b said (subst (λ (p : BodyPlace). Holds c.args.settings (joined apart (placed p (shown old.conversation))) b said) c.requires x));
    }

pub returns-in-Ended-clause-turns : goal.returns-in-Ended-clause-turns
returns-in-Ended-clause-turns g c = λ honest apart.
    let old = c.args.self.now in
    let k = g.K.Keeper.kept c.args.service.now in
    let k' = g.K.Keeper.kept c.answer_next-step.new.service in
    let now = shown c.answer_next-step.new.self in
    record {
      apart' = [];
      lies = lies_in_buffer c.args.key k' (placed old.place now) [] c.requires;
      holds = λ b said x. held_from_all c.args.key k k' (c.answer_next-step.ensures.holds honest);
      tells = λ b said x.
          tells_from c.args.settings c.answer_next-step.result b said (shown old.conversation).going (shown old.conversation).going (state_of k) (state_of k) (state_of k') (state_of k')
          now (joined [] (placed old.place now)) None None _ refl refl refl (ap (λ (p : BodyPlace). joined [] (placed p now)) (sym c.requires)) refl
          (c.answer_next-step.ensures.tells honest b said (subst (λ (p : BodyPlace). Holds c.args.settings (joined apart (placed p (shown old.conversation))) b said) c.requires x));
    }

pub returns-in-Body-clause-turns : goal.returns-in-Body-clause-turns
returns-in-Body-clause-turns g c = λ honest apart.
    let old = c.args.self.now in
    let k = g.K.Keeper.kept c.args.service.now in
    let mid = g.K.Keeper.kept c.answer_next-step.new.service in
    let k' = g.K.Keeper.kept c.place_body.new.service in
    let now = shown c.answer_next-step.new.self in
    let there = c.place_body.ensures.honest honest in
    let lies = c.place_body.ensures.lies honest in
    let new = received c.place_body.new.self in
    record {
      apart' = lies.0;
      lies = lies_of new.phase new.place c.args.key k' new.taken lies.0 lies.1;
      holds = λ b said x.
          held_through c.args.key k mid k' (held_from_all c.args.key k mid (c.answer_next-step.ensures.holds there)) (c.place_body.ensures.holds honest);
      tells = λ b said x.
          subst (λ (o : Option Report). Tells c.args.settings c.answer_next-step.result b said (joined apart (received old)) (state_of k) (state_of k') (joined lies.0 new) None o)
          (sym c.place_body.ensures.report)
          (tells_from c.args.settings c.answer_next-step.result b said (shown old.conversation).going (shown old.conversation).going (state_of k) (state_of k) (state_of mid) (state_of k')
          now (joined lies.0 new) None None _ refl refl (sym (c.place_body.ensures.same honest)) (sym lies.2) refl
          (c.answer_next-step.ensures.tells there b said (subst (λ (p : BodyPlace). Holds c.args.settings (joined apart (placed p (shown old.conversation))) b said) c.requires x)));
    }
