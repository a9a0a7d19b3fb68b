use Rattle.std.proofs.Common.{◌≡◌, ◌≤◌, ℕ, Option, sym, ap, subst, ◌∙◌}
use Rattle.registry_conversation.specs.declared.phase.Step.{Step}
use Rattle.registry_outbox.specs.declared.report.Report.{Report}
use Rattle.registry_conversation.specs.Receiving.{ActsOn, Lies, TellsApart, received}
use Rattle.registry_conversation.proofs.ApartLemmas.{acts_apart}
use Rattle.registry_server.specs.Open.{Slot, goes_on}
use Rattle.registry_conversation.specs.Shown.{Shown, coming_len}
use Rattle.registry_conversation.specs.declared.receiver.Receiver.{Receiver}
use Rattle.registry_server.specs.Held.{with_one, without_one}
use Rattle.registry_server.proofs.connection.Connection.answer_next.Goals as goal

settled : (new : Slot) (n : ℕ) (step : Step) (k : Shown) → new ≡ record { number = n; conversation = k; stirred = goes_on step k }
    → new ≡ record { number = n; conversation = new.conversation; stirred = goes_on step new.conversation }
settled new n step k e =
    e ∙ ap (λ (q : Shown). record { number = n; conversation = q; stirred = goes_on step q }) (sym (ap (λ (s : Slot). s.conversation) e))

pub returns : goal.returns
returns g c =
    let step = c.answer_next-step.result in
    let old = received c.args.self.now.conversation.value in
    let begun = received c.deref_mut.result.now in
    let mid = received c.answer_next-step.new.self in
    let n = c.args.self.now.number in
    let k = g.K.Keeper.kept c.args.service.now in
    let k' = g.K.Keeper.kept c.answer_next-step.new.service in
    let settles = c.settle.ensures.settles in
    let begins : begun ≡ old = ap received c.deref_mut.ensures.value in
    let taken : received c.deref_mut-2.result.now ≡ mid = ap received c.deref_mut-2.ensures.value in
    let same : received c.settle.new.self.conversation.value ≡ mid = ap (λ (x : Slot). x.conversation) settles ∙ c.take_report-report.ensures.same ∙ taken in
    let report : c.take_report-report.result ≡ c.answer_next-step.new.self.conversation.outbox.report =
    c.take_report-report.ensures.report ∙ ap (λ (x : Receiver). x.conversation.outbox.report) c.deref_mut-2.ensures.value in
    record {
      honest = c.answer_next-step.ensures.honest;
      number = ap (λ (x : Slot). x.number) settles;
      acts = (
        λ honest.
            subst (λ (x : Shown). ActsOn c.args.settings step n old k x k') (sym same) (
            subst (λ (o : Shown). ActsOn c.args.settings step n o k mid k') begins (
              λ e ended. let all = c.answer_next-step.ensures.over e ended in (all.0, all.1, ap (λ x. g.K.Keeper.kept x) all.2),
              c.answer_next-step.ensures.finished,
              λ apart lies. acts_apart c.args.settings step n apart begun k mid k' _ (c.answer_next-step.ensures.turns honest apart lies),
            )
            ),
        settled _ c.args.self.now.number step (received c.take_report-report.new.self) settles,
      );
      fewer = subst (λ (k : Shown). coming_len k ≤ coming_len old) (sym same) (subst (λ (o : Shown). coming_len mid ≤ coming_len o) begins c.answer_next-step.ensures.fewer);
      lives = c.settle.ensures.lives;
      sums = c.add.ensures ∙ ap (with_one (received c.deref-3.result.now)) c.take.ensures
          ∙ ap (λ (x : Receiver). with_one (received c.deref-3.result.now) (without_one (received x) c.args.sums.now)) c.deref-2.ensures
          ∙ ap (λ (x : Receiver). with_one (received x) (without_one old c.args.sums.now)) c.deref-3.ensures
          ∙ ap (λ (k : Shown). with_one k (without_one old c.args.sums.now)) (sym same);
      tells = λ honest apart lies.
          subst (λ (x : Shown). TellsApart c.args.settings step n apart old k x k' c.take_report-report.result) (sym same)
          (subst (λ (q : Option Report). TellsApart c.args.settings step n apart old k mid k' q) (sym report)
          (subst (λ (o : Shown). TellsApart c.args.settings step n apart o k mid k' c.answer_next-step.new.self.conversation.outbox.report) begins
          (c.answer_next-step.ensures.turns honest apart (subst (λ (o : Shown). Lies n k o apart) (sym begins) lies))));
    }
