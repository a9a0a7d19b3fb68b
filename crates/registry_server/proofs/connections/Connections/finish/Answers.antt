use Rattle.std.proofs.Common.{true, refl, ap, arith}
use Rattle.registry_conversation.specs.Shown.{Shown, coming_len}
use Rattle.registry_server.specs.Open.{Slot, Finishes, hears}
use Rattle.registry_server.proofs.PlaceLemmas.{changed, changed_numbers}
use Rattle.registry_server.specs.Slots.{slots_of}
use Rattle.registry_server.proofs.RoomLemmas.{within_changed, as_many_ended}
use Rattle.registry_server.proofs.LifeLemmas.{same_lives}
use Rattle.registry_server.proofs.CallLemmas.{carries_none, of_finished}
use Rattle.registry_server.proofs.KeptLemmas.{kept_as_much, alive_same}
use Rattle.registry_server.proofs.connections.Connections.finish.Goals as goal

pub invariant_of-self : goal.invariant_of-self
invariant_of-self c = record {
  numbered = changed_numbers c.args.self.now.next c.args.number c.in-Some.at c.args.self.now.connections.items c.index_mut.result.now c.finish.new.self
      c.index_mut.ensures.value c.in-Some.ensures.found (ap (λ (s : Slot). s.number) c.finish.ensures.becomes.1) c.args.self.now.numbered;
  within = within_changed c.args.self.now.bounds c.args.number (Finishes) hears (slots_of c.args.self.now.connections.items) _ (λ a b h. as_many_ended a b h)
      (changed c.args.number c.in-Some.at (Finishes) hears c.args.self.now.connections.items c.index_mut.result.now c.finish.new.self
      c.index_mut.ensures.value c.in-Some.ensures.found c.finish.ensures.becomes)
      c.args.self.now.within;
  kept = kept_as_much c.args.self.now.sums c.args.self.now.resting _ c.args.self.now.oldest c.args.self.now.time c.args.number c.in-Some.at c.args.self.now.connections.items
      c.index_mut.result.now c.finish.new.self c.index_mut.ensures.value c.in-Some.ensures.found c.args.self.now.kept
      (ap coming_len c.finish.ensures.becomes.0) (ap (λ (x : Shown). x.going) c.finish.ensures.becomes.0) (omega (arith, c.min-self.ensures)) (omega (arith, c.min-self.ensures))
      (alive_same c.args.self.now.sums c.args.self.now.resting c.args.self.now.oldest c.args.self.now.time c.args.number c.in-Some.at c.args.self.now.connections.items
      c.index_mut.result.now c.finish.new.self c.index_mut.ensures.value c.in-Some.ensures.found c.args.self.now.kept c.finish.ensures.lives);
  fits = c.args.self.now.fits;
}

pub returns-in-Some : goal.returns-in-Some
returns-in-Some c =
    let items = c.args.self.now.connections.items in
    let f = c.in-Some.ensures.found in
    let ended = changed c.args.number c.in-Some.at (Finishes) hears items c.index_mut.result.now c.finish.new.self c.index_mut.ensures.value f c.finish.ensures.becomes in
    record {
      finishes = (ended, refl);
      lives = record {
        time = refl;
        all = same_lives c.args.number c.in-Some.at items c.index_mut.result.now c.finish.new.self c.index_mut.ensures.value f
            (ap (λ (s : Slot). s.number) c.finish.ensures.becomes.1) c.finish.ensures.lives;
      };
      leads = of_finished true c.args.number _ _ (ended, refl);
    }

pub returns-in-None : goal.returns-in-None
returns-in-None c = record {
  finishes = (c.in-None.ensures.none, refl);
  lives = record { time = refl; all = λ n. refl };
  leads = carries_none _;
}
