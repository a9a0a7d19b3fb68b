use Rattle.std.proofs.Common.{◌≡◌, ◌++◌, [], length, take, None, Some, inl, refl, sym, ap, ◌∙◌, subst}
use Rattle.std.proofs.lemmas.List.{take_at}
use Rattle.httparse.specs.Grammar.{print_request}
use Rattle.oci_types.specs.Text.{Text}
use Rattle.registry_model.specs.Keeping.{HeldStays, state_of}
use Rattle.registry_service.specs.Bodies.{from_body}
use Rattle.registry_http.specs.Buffering.{behind}
use Rattle.registry_http.specs.Framing.{framing}
use Rattle.registry_http.specs.Expecting.{IsBefore}
use Rattle.registry_conversation.specs.declared.phase.Phase.{Phase}
use Rattle.registry_conversation.specs.declared.body_place.BodyPlace.{BodyPlace}
use Rattle.registry_conversation.specs.ConversationShowing.{shown}
use Rattle.registry_conversation.specs.Holding.{HoldsAs, HoldsWhole}
use Rattle.registry_conversation.specs.Parts.{IsPart}
use Rattle.registry_conversation.specs.Receiving.{LiesApart, joined, placed, received, taken_at}
use Rattle.registry_conversation.specs.Shown.{Shown}
use Rattle.registry_conversation.specs.Telling.{Tells}
use Rattle.registry_conversation.proofs.ApartLemmas.{body_apart, head_of, held_at, held_through, joined_more, lies_at, lies_in_buffer, lies_of, same_at, taken_apart, tells_from, waited_at, waited_taken, whole_apart}
use Rattle.registry_conversation.proofs.HoldingLemmas.{cut_there}
use Rattle.registry_conversation.proofs.SteppingLemmas.{refused, body_never, waited_cut}
use Rattle.registry_conversation.proofs.receiver.Receiver.go_on.Goals as goal

pub returns-in-Whole-clause-turns : goal.returns-in-Whole-clause-turns
returns-in-Whole-clause-turns g c = λ honest apart there_it_lies.
    let settings = c.args.settings in
    let old = c.args.self.now in
    let here = shown old.conversation in
    let so = c.requires.apart in
    let k = g.K.Keeper.kept c.args.service.now in
    let lies = lies_at (Phase.Body c.args.part) c.args.key k (received old) apart c.requires.body there_it_lies in
    let mid = c.put_apart.new.self in
    let k1 = g.K.Keeper.kept c.put_apart.new.service in
    let k' = g.K.Keeper.kept c.reply.new.service in
    let honest_mid = c.reply.ensures.honest honest in
    let came = c.in-Whole.ensures.takes in
    let len : length here.taken ≡ length c.before-head.result.now = sym (ap length c.before-head.ensures) in
    let rest = c.put_apart.ensures.rest so in
    let taken : (shown mid.conversation).taken ≡ here.taken =
    ap (λ (x : Shown). x.taken) rest ∙ ap (take (length c.before-head.result.now)) came.1 ∙ take_at here.taken came.0 (length c.before-head.result.now) len in
    let far = c.put_apart.ensures.lies honest_mid so here.taken came.0 apart came.1 len lies in
    let behind_head = head_of mid.place c.args.key k1 here.taken (apart ++ came.0) (c.put_apart.ensures.apart so) far in
    let there = subst (λ (t : Text). LiesApart mid.place c.args.key k1 t (apart ++ came.0)) (sym taken) far in
    let both : (b said : Text) → HoldsAs settings here.phase (taken_at old.place here.taken apart) here.unread b said
    → HeldStays (from_body (Some c.args.key) k1 k') k'
    × Tells settings c.reply.result b said (shown mid.conversation) (state_of k1) (state_of k') (received c.reply.new.self) mid.conversation.outbox.report
    c.reply.new.self.conversation.outbox.report =
    λ b said x.
    let y = subst (λ (p : Phase). HoldsAs settings p (taken_at old.place here.taken apart) here.unread b said) c.requires.body x in
    let part = came.2 (framing settings y.0) (print_request y.0) y.1 (taken_at old.place here.taken apart) y.4 in
    let v : HoldsWhole settings (taken_at old.place here.taken apart ++ came.0) (behind c.take_body.new.buffer) b said = record { head = y.0; behind = y.1; there = y.2; said_is = y.3; body = part.0 } in
    let w = whole_apart settings old.place here.taken apart came.0 (behind c.take_body.new.buffer) b said so v in
    c.reply.ensures.acts honest (c.put_apart.ensures.apart so) (apart ++ came.0) b said there
    (part.1 ∙ ap length (body_apart settings old.place here.taken apart came.0 (behind c.take_body.new.buffer) b said so behind_head v))
    (subst (λ (u : Text). HoldsWhole settings ((shown mid.conversation).taken ++ (apart ++ came.0)) u b said) (sym (ap (λ (z : Shown). z.unread) rest))
    (subst (λ (t : Text). HoldsWhole settings (t ++ (apart ++ came.0)) (behind c.take_body.new.buffer) b said) (sym taken) w)) in
    record {
      apart' = [];
      lies = lies_in_buffer c.args.key k' (received c.reply.new.self) [] c.reply.ensures.place;
      holds = λ b said x. held_through c.args.key k k1 k' (c.put_apart.ensures.holds honest_mid) (both b said x).0;
      tells = λ b said x.
          tells_from settings c.reply.result b said (shown mid.conversation).going here.going (state_of k1) (state_of k) (state_of k') (state_of k')
          (received c.reply.new.self) (joined [] (received c.reply.new.self)) mid.conversation.outbox.report None
          c.reply.new.self.conversation.outbox.report (ap (λ (z : Shown). z.going) rest) (c.put_apart.ensures.same honest_mid) refl
          (subst (λ (p : BodyPlace). placed p (shown c.reply.new.self.conversation) ≡ joined [] (placed p (shown c.reply.new.self.conversation))) (sym c.reply.ensures.place) refl)
          c.put_apart.ensures.report (both b said x).1;
    }

pub returns-in-Missing-clause-turns : goal.returns-in-Missing-clause-turns
returns-in-Missing-clause-turns g c = λ honest apart there_it_lies.
    let settings = c.args.settings in
    let old = c.args.self.now in
    let here = shown old.conversation in
    let so = c.requires.apart in
    let k = g.K.Keeper.kept c.args.service.now in
    let lies = lies_at (Phase.Body c.args.part) c.args.key k (received old) apart c.requires.body there_it_lies in
    let mid = c.put_apart-in-Missing.new.self in
    let k' = g.K.Keeper.kept c.put_apart-in-Missing.new.service in
    let came = c.in-Missing.ensures.takes in
    let len : length here.taken ≡ length c.before-head.result.now = sym (ap length c.before-head.ensures) in
    let rest = c.put_apart-in-Missing.ensures.rest so in
    let taken : (shown mid.conversation).taken ≡ here.taken =
    ap (λ (x : Shown). x.taken) rest ∙ ap (take (length c.before-head.result.now)) came.1 ∙ take_at here.taken came.0 (length c.before-head.result.now) len in
    let far = c.put_apart-in-Missing.ensures.lies honest so here.taken came.0 apart came.1 len lies in
    let next : Shown = record (shown mid.conversation) { phase = Phase.Body c.in-Missing.next } in
    let all = apart ++ came.0 in
    let joins : taken_at mid.place (shown mid.conversation).taken all ≡ taken_at old.place here.taken apart ++ came.0 =
    taken_apart mid.place (shown mid.conversation).taken all (c.put_apart-in-Missing.ensures.apart so) ∙ ap (λ (t : Text). t ++ all) taken ∙ sym (joined_more old.place here.taken apart came.0 so) in
    record {
      apart' = all;
      lies =
          lies_of (shown c.wait.new.self).phase mid.place c.args.key k' (shown c.wait.new.self).taken all
          (subst (λ (t : Text). LiesApart mid.place c.args.key k' t all) (sym (waited_taken c.wait.result _ next (shown c.wait.new.self) c.wait.ensures.waits ∙ taken)) far);
      holds = λ b said x. c.put_apart-in-Missing.ensures.holds honest;
      tells = λ b said x.
          let y = subst (λ (p : Phase). HoldsAs settings p (taken_at old.place here.taken apart) here.unread b said) c.requires.body x in
          let part = came.2 (framing settings y.0) (print_request y.0) y.1 (taken_at old.place here.taken apart) y.4 in
          let is_part = subst (λ (t : Text). IsPart settings c.in-Missing.next (framing settings y.0) (print_request y.0) y.1 t (shown mid.conversation).unread) (sym joins)
          (subst (λ (u : Text). IsPart settings c.in-Missing.next (framing settings y.0) (print_request y.0) y.1 (taken_at old.place here.taken apart ++ came.0) u)
          (sym (ap (λ (z : Shown). z.unread) rest)) part.0) in
          tells_from settings c.wait.result b said (shown mid.conversation).going here.going (state_of k') (state_of k) (state_of k') (state_of k')
          (joined all (placed mid.place (shown c.wait.new.self))) (joined all (placed mid.place (shown c.wait.new.self))) mid.conversation.outbox.report None
          c.wait.new.self.outbox.report (ap (λ (z : Shown). z.going) rest) (c.put_apart-in-Missing.ensures.same honest) refl refl c.put_apart-in-Missing.ensures.report
          (waited_cut settings c.wait.result b said (joined all (placed mid.place next)) (joined all (placed mid.place (shown c.wait.new.self))) (state_of k') _ _
          (waited_at mid.place all c.wait.result _ next (shown c.wait.new.self) c.wait.ensures.waits) c.wait.ensures.report (cut_there settings y.0 b y.1 y.2 part.1)
          (subst (λ (z : Text). IsBefore settings b z) (sym y.3) (inl (y.0, y.1, y.2.begins, y.2.few, refl))) (y.0, y.1, y.2, y.3, is_part));
    }

pub returns-in-Refused-clause-turns : goal.returns-in-Refused-clause-turns
returns-in-Refused-clause-turns g c = λ honest apart lies.
    let settings = c.args.settings in
    let old = c.args.self.now in
    let here = shown old.conversation in
    let k = g.K.Keeper.kept c.args.service.now in
    let k' = g.K.Keeper.kept c.unstage.new.self in
    let came = c.in-Refused.ensures.takes in
    let gone = c.unstage.ensures.gone honest in
    record {
      apart' = [];
      lies = lies_in_buffer c.args.key k' (shown c.refuse.new.self) [] refl;
      holds = λ b said x. held_at c.args.key None k k' gone;
      tells = λ b said x.
          let y = subst (λ (p : Phase). HoldsAs settings p (taken_at old.place here.taken apart) here.unread b said) c.requires.body x in
          let bad = came.2 (framing settings y.0) (print_request y.0) y.1 (taken_at old.place here.taken apart) y.4 in
          tells_from settings c.refuse.result b said here.going here.going (state_of k) (state_of k) (state_of k) (state_of k')
          (shown c.refuse.new.self) (shown c.refuse.new.self) None None c.refuse.new.self.outbox.report refl refl (sym (same_at c.args.key None k k' gone)) refl refl
          (refused settings c.refuse.result c.in-Refused.refusal b said _ (shown c.refuse.new.self) (state_of k) None _ c.refuse.ensures.refuses c.refuse.ensures.tells
          (body_never settings c.args.part (taken_at old.place here.taken apart) here.unread b said c.in-Refused.refusal y bad));
    }
