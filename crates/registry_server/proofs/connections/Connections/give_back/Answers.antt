use Rattle.std.proofs.Common.{◌≡◌, List, true, refl, ap, sym, subst}
use Rattle.registry_server.specs.Open.{Slot, are_numbered}
use Rattle.registry_server.specs.Room.{IsWithin}
use Rattle.registry_server.proofs.PlaceLemmas.{unchanged}
use Rattle.registry_server.proofs.LifeLemmas.{same_lives}
use Rattle.registry_server.proofs.KeptLemmas.{kept_shown, alive_same}
use Rattle.registry_server.proofs.connections.Connections.give_back.Goals as goal

pub invariant_of-self : goal.invariant_of-self
invariant_of-self c = record {
  numbered = subst (λ (ys : List Slot). are_numbered c.args.self.now.next ys ≡ true)
      (sym (unchanged c.in-Some.at c.args.self.now.connections.items c.index_mut.result.now c.give_back.new.self c.index_mut.ensures.value c.give_back.ensures.same)) c.args.self.now.numbered;
  within = subst (IsWithin c.args.self.now.bounds)
      (sym (unchanged c.in-Some.at c.args.self.now.connections.items c.index_mut.result.now c.give_back.new.self c.index_mut.ensures.value c.give_back.ensures.same)) c.args.self.now.within;
  kept = kept_shown c.args.self.now.sums c.args.self.now.resting c.args.self.now.oldest c.args.self.now.time c.in-Some.at c.args.self.now.connections.items c.give_back.new.self c.args.self.now.kept
      (unchanged c.in-Some.at c.args.self.now.connections.items c.index_mut.result.now c.give_back.new.self c.index_mut.ensures.value c.give_back.ensures.same)
      (alive_same c.args.self.now.sums c.args.self.now.resting c.args.self.now.oldest c.args.self.now.time c.args.number c.in-Some.at c.args.self.now.connections.items
      c.index_mut.result.now c.give_back.new.self c.index_mut.ensures.value c.in-Some.ensures.found c.args.self.now.kept c.give_back.ensures.lives);
  fits = c.args.self.now.fits;
}

pub returns-in-Some : goal.returns-in-Some
returns-in-Some c =
    let items = c.args.self.now.connections.items in
    let y = c.give_back.new.self in
    record {
      same = ap (λ (ys : List Slot). record { slots = ys; next = c.args.self.now.next; bounds = c.args.self.now.bounds; settings = c.args.self.now.settings })
          (unchanged c.in-Some.at items c.index_mut.result.now y c.index_mut.ensures.value c.give_back.ensures.same);
      lives = record {
        time = refl;
        all = same_lives c.args.number c.in-Some.at items c.index_mut.result.now y c.index_mut.ensures.value
            c.in-Some.ensures.found
            (ap (λ (s : Slot). s.number) c.give_back.ensures.same) c.give_back.ensures.lives;
      };
    }

pub returns-in_default : goal.returns-in_default
returns-in_default c = record { same = refl; lives = record { time = refl; all = λ n. refl } }
