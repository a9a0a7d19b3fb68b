use Rattle.std.proofs.Common.{◌≤◌, List, All, true, refl, ap, ◌∙◌, subst}
use Rattle.registry_server.specs.declared.connection.Connection.{Connection}
use Rattle.registry_conversation.specs.declared.receiver.Receiver.{Receiver}
use Rattle.registry_conversation.specs.Receiving.{received}
use Rattle.registry_server.specs.Held.{without_one}
use Rattle.registry_server.proofs.PlaceLemmas.{closes, closed_numbers}
use Rattle.registry_server.specs.Slots.{slots_of}
use Rattle.registry_server.proofs.RoomLemmas.{within_closed}
use Rattle.registry_server.proofs.SlotLemmas.{opened}
use Rattle.registry_server.proofs.LifeLemmas.{closed_life, no_life}
use Rattle.registry_server.proofs.CallLemmas.{carries_none, of_closed}
use Rattle.registry_server.proofs.KeptLemmas.{kept_without}
use Rattle.registry_server.proofs.connections.Connections.close.Goals as goal

pub invariant_of-self : goal.invariant_of-self
invariant_of-self c = record {
  numbered = closed_numbers c.args.self.now.next c.args.number c.in-Some.at c.args.self.now.connections.items c.remove-gone.new.self.items
      c.in-Some.ensures.found c.args.self.now.numbered c.remove-gone.ensures.items;
  within = within_closed c.args.self.now.bounds c.args.number (slots_of c.args.self.now.connections.items) (slots_of c.remove-gone.new.self.items)
      (closes c.args.self.now.next c.args.number c.in-Some.at c.args.self.now.connections.items c.remove-gone.new.self.items
      c.in-Some.ensures.found c.args.self.now.numbered c.remove-gone.ensures.items)
      c.args.self.now.within;
  fits = c.args.self.now.fits;
  kept = kept_without c.args.self.now.sums _ c.args.self.now.resting _ c.args.self.now.oldest _ c.args.self.now.time c.args.number c.in-Some.at c.args.self.now.connections.items
      c.remove-gone.new.self.items c.remove-gone.result c.remove-gone.ensures.value c.in-Some.ensures.found c.remove-gone.ensures.items c.args.self.now.kept
      (c.take.ensures ∙ ap (λ (v : Receiver). without_one (received v) c.args.self.now.sums) c.deref.ensures) c.saturating_sub-self.ensures
      c.oldest_without-self.ensures.past
      (subst (λ (xs : List Connection). All (λ (x : Connection). c.oldest_without-self.result ≤ x.life.since) xs) c.deref-in-Some.ensures.value c.oldest_without-self.ensures.each);
}

pub returns-in-Some : goal.returns-in-Some
returns-in-Some c =
    let items = c.args.self.now.connections.items in
    let f = c.in-Some.ensures.found in
    let but = closed_life c.args.self.now.next c.args.number c.in-Some.at items c.remove-gone.new.self.items f
    (opened c.args.self.now.next (slots_of items) c.args.self.now.numbered) c.remove-gone.ensures.items in
    let gone = closes c.args.self.now.next c.args.number c.in-Some.at items c.remove-gone.new.self.items f c.args.self.now.numbered c.remove-gone.ensures.items in
    record { closes = (gone, refl); lives = record { time = refl; is = but.is; others = but.others }; leads = of_closed true c.args.number _ _ (gone, refl) }

pub returns-in-None : goal.returns-in-None
returns-in-None c = record {
  closes = (c.in-None.ensures.none, refl);
  lives = record { time = refl; is = no_life c.args.number c.args.self.now.connections.items c.in-None.ensures.none; others = λ m ne. refl };
  leads = carries_none _;
}
