use Rattle.std.proofs.Common.{◌≡◌, ◌≤◌, List, true, refl, ap, sym, ◌∙◌, subst}
use Rattle.std.specs.Prelude.{option_map}
use Rattle.registry_server.specs.Open.{Slot, are_numbered}
use Rattle.registry_server.specs.Room.{IsWithin}
use Rattle.registry_server.proofs.PlaceLemmas.{unchanged}
use Rattle.registry_server.proofs.LifeLemmas.{changed_life, no_life}
use Rattle.registry_server.specs.declared.life.Life.{Life}
use Rattle.registry_server.specs.Lives.{excused_at}
use Rattle.registry_server.proofs.KeptLemmas.{kept_shown}
use Rattle.registry_server.proofs.connections.Connections.excuse.Goals as goal

pub invariant_of-self : goal.invariant_of-self
invariant_of-self c = record {
  numbered = subst (λ (ys : List Slot). are_numbered c.args.self.now.next ys ≡ true)
      (sym (unchanged c.in-Some.at c.args.self.now.connections.items c.index_mut.result.now c.excuse.new.self c.index_mut.ensures.value c.excuse.ensures.same)) c.args.self.now.numbered;
  within = subst (IsWithin c.args.self.now.bounds)
      (sym (unchanged c.in-Some.at c.args.self.now.connections.items c.index_mut.result.now c.excuse.new.self c.index_mut.ensures.value c.excuse.ensures.same)) c.args.self.now.within;
  kept = kept_shown c.args.self.now.sums c.args.self.now.resting c.args.self.now.oldest c.args.self.now.time c.in-Some.at c.args.self.now.connections.items c.excuse.new.self c.args.self.now.kept
      (unchanged c.in-Some.at c.args.self.now.connections.items c.index_mut.result.now c.excuse.new.self c.index_mut.ensures.value c.excuse.ensures.same)
      (subst (λ (l : Life). c.args.self.now.oldest ≤ l.since) (sym c.excuse.ensures.lives) c.args.self.now.kept.past);
  fits = c.args.self.now.fits;
}

pub returns-in-Some : goal.returns-in-Some
returns-in-Some c =
    let items = c.args.self.now.connections.items in
    let y = c.excuse.new.self in
    let but = changed_life c.args.number c.in-Some.at (excused_at c.args.self.now.time) items c.index_mut.result.now y c.index_mut.ensures.value
    c.in-Some.ensures.found
    (ap (λ (s : Slot). s.number) c.excuse.ensures.same) c.excuse.ensures.lives in
    record {
      same = ap (λ (ys : List Slot). record { slots = ys; next = c.args.self.now.next; bounds = c.args.self.now.bounds; settings = c.args.self.now.settings })
          (unchanged c.in-Some.at items c.index_mut.result.now y c.index_mut.ensures.value c.excuse.ensures.same);
      lives = record { time = refl; is = but.is; others = but.others };
    }

pub returns-in_default : goal.returns-in_default
returns-in_default c =
    let none = no_life c.args.number c.args.self.now.connections.items c.in_default.ensures.none in
    record {
      same = refl;
      lives = record { time = refl; is = none ∙ sym (ap (option_map (excused_at c.args.self.now.time)) none); others = λ m ne. refl };
    }
