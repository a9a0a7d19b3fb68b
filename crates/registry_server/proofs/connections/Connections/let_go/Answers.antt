use Rattle.std.proofs.Common.{◌≡◌, ◌++◌, ◌∷◌, ◌∙◌, [], refl, sym, subst, append-nil}
use Rattle.std.proofs.lemmas.List.Elements.{All-nil}
use Rattle.registry_server.specs.Events.{IsUnstaged}
use Rattle.registry_server.specs.Open.{Open}
use Rattle.registry_server.specs.Showing.{connected}
use Rattle.registry_server.proofs.CallLemmas.{leads_none, leads_then}
use Rattle.registry_server.proofs.GoneLemmas.{unstaged_more, popped}
use Rattle.registry_server.proofs.connections.Connections.let_go.Goals as goal

pub loop-number-init : goal.loop-number-init
loop-number-init g c = record {
  same = refl;
  lives = record { time = refl; all = λ n. refl };
  leads = λ honest. (honest, leads_none (connected c.args.self.now) (g.K.Keeper.kept c.args.service.now));
  gone = ([], sym (append-nil c.args.self.now.gone.items), λ honest. All-nil _);
}

pub loop-number-preserved : goal.loop-number-preserved
loop-number-preserved g c =
    let before = c.loop-number.invariant in
    let k = g.K.Keeper.kept c.loop-number.service in
    let k' = g.K.Keeper.kept c.unstage_if_gone.new.service in
    let slots = (connected c.args.self.now).slots in
    record {
      same = c.unstage_if_gone.ensures.same ∙ before.same;
      lives = record {
        time = c.unstage_if_gone.ensures.lives.time ∙ before.lives.time;
        all = λ n. c.unstage_if_gone.ensures.lives.all n ∙ before.lives.all n;
      };
      leads = λ honest.
          let led = before.leads (c.unstage_if_gone.ensures.honest honest) in
          (led.0, leads_then _ _ (connected c.loop-number.self) k _ _ led.1 (c.unstage_if_gone.ensures.leads honest));
      gone = (
        c.in-Some.number ∷ before.gone.0,
        subst (λ gone. c.args.self.now.gone.items ≡ gone.items ++ c.in-Some.number ∷ before.gone.0) (sym c.unstage_if_gone.ensures.gone)
            (popped _ _ _ _ c.in-Some.number before.gone.0 before.gone.1 c.pop.ensures.items c.in-Some.is),
        λ honest.
            unstaged_more slots k k' c.in-Some.number before.gone.0 (c.unstage_if_gone.ensures.others honest)
            (subst (λ (u : Open). IsUnstaged u.slots k' c.in-Some.number) before.same (c.unstage_if_gone.ensures.unstaged honest))
            (before.gone.2 (c.unstage_if_gone.ensures.honest honest)),
      );
    }
