use Rattle.std.proofs.Common.{◌≡◌, ◌∙◌, ◌||◌, Bool, List, arith, length, ap, sym, subst}
use Rattle.std.proofs.lemmas.List.{with_items_is}
use Rattle.std.specs.List.{list_any}
use Rattle.order_sockets.specs.declared.caller.Caller.{Caller}
use Rattle.order_sockets.specs.Calling.{AttendsAll, Stay}
use Rattle.order_sockets.specs.Calls.{all_called}
use Rattle.order_sockets.proofs.CallingLemmas.{shown_stops}
use Rattle.order_sockets.proofs.callers.Callers.attend.Goals as goal

pub returns-clause-stops : goal.returns-clause-stops
returns-clause-stops g c honest =
    let attended = c.attend_each.new.callers in
    let came = c.accept_all.new.self.callers in
    let found : length c.deref_mut.result.now ≡ length came.items = ap length c.deref_mut.ensures.value in
    let long : length attended ≡ came.len = omega (arith, c.attend_each.auto.callers, found, came.ok.0) in
    let items : c.note_stop.new.self.callers.items ≡ attended = ap (λ v. v.items) c.note_stop.ensures.callers ∙ with_items_is came attended long in
    let shown : all_called c.note_stop.new.self.callers.items ≡ all_called attended = ap all_called items in (
      record {
        there = all_called c.accept_all.new.self.callers.items;
        attended = all_called attended;
        come = c.accept_all.ensures.come;
        attends = subst (λ (there : List Caller). AttendsAll (all_called there) (all_called attended) (g.K.Keeper.kept c.args.service.now) (g.K.Keeper.kept c.attend_each.new.service))
            c.deref_mut.ensures.value (c.attend_each.ensures.attends honest);
        stay = subst (Stay (all_called c.dismiss_all.new.self.callers.items)) shown c.dismiss_all.ensures.stay;
      },
      c.dismiss_all.ensures.stopping ∙ c.note_stop.ensures.stopping
          ∙ ap (λ (l : List Caller). c.accept_all.new.self.stopping || list_any (λ c. c.stops) l) (with_items_is came attended long)
          ∙ ap (λ (b : Bool). b || list_any (λ c. c.stops) attended) c.accept_all.ensures.stopping
          ∙ ap (λ (b : Bool). c.args.self.now.stopping || b) (sym (shown_stops attended)),
    )

pub returns-clause-attends : goal.returns-clause-attends
returns-clause-attends g c honest = (returns-clause-stops g c honest).0

pub returns-clause-honest : goal.returns-clause-honest
returns-clause-honest g c = c.attend_each.ensures.honest
