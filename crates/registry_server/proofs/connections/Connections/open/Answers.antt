use Rattle.std.proofs.Common.{false, Some, refl, sym, ap, ◌∙◌, subst, arith}
use Rattle.std.proofs.lemmas.List.{length-map}
use Rattle.registry_conversation.specs.Shown.{begun}
use Rattle.registry_server.specs.Room.{IsWithin}
use Rattle.registry_server.specs.Slots.{slot_of, slots_of}
use Rattle.registry_server.specs.declared.life.Life.{Life}
use Rattle.registry_conversation.specs.Receiving.{received}
use Rattle.registry_server.proofs.KeptLemmas.{kept_came}
use Rattle.registry_server.proofs.RoomLemmas.{one_comes}
use Rattle.registry_server.proofs.PlaceLemmas.{came_slots, came_numbers, opens}
use Rattle.registry_server.proofs.SlotLemmas.{opened}
use Rattle.registry_server.proofs.LifeLemmas.{came_life}
use Rattle.registry_server.proofs.CallLemmas.{of_opened}
use Rattle.registry_server.proofs.connections.Connections.open.Goals as goal

pub invariant_of-self-2 : goal.invariant_of-self-2
invariant_of-self-2 c = record {
  fits = c.args.self.now.fits;
  kept = kept_came c.args.self.now.sums c.args.self.now.resting c.args.self.now.oldest c.args.self.now.time c.args.self.now.connections.items c.push.new.self.items _ c.in-Ok-push.ensures.items
      (ap received c.in-Ok.ensures.ok ∙ c.new.ensures) refl (ap (λ (l : Life). l.since) c.at.ensures) c.args.self.now.kept;
  numbered = came_numbers c.args.self.now.connections.items c.push.new.self.items _ c.args.self.now.next c.in-Ok-push.ensures.items
      (λ i. record { number = c.args.self.now.next; conversation = (ap received c.in-Ok.ensures.ok ∙ c.new.ensures) i; stirred = false }) c.args.self.now.numbered;
  within = subst (IsWithin c.args.self.now.bounds)
      (sym (came_slots c.args.self.now.connections.items c.push.new.self.items _ c.args.self.now.next c.in-Ok-push.ensures.items
      (λ i. record { number = c.args.self.now.next; conversation = (ap received c.in-Ok.ensures.ok ∙ c.new.ensures) i; stirred = false })))
      (one_comes c.args.self.now.bounds (slots_of c.args.self.now.connections.items) (record { number = c.args.self.now.next; conversation = begun; stirred = false })
      (omega (arith, c.len.ensures, c.if-len-self.false, length-map c.args.self.now.connections.items slot_of)) refl c.args.self.now.within);
}

pub returns : goal.returns
returns c =
    let u = c.args.self.now in
    let items = u.connections.items in
    let but = came_life u.next items c.push.new.self.items _ c.in-Ok-push.ensures.items refl (opened u.next (slots_of items) u.numbered) in
    let came = opens u.settings u.bounds u.next items c.push.new.self.items _ (omega (arith, c.len.ensures, c.if-len-self.false)) u.numbered c.in-Ok-push.ensures.items
    (λ i. record { number = u.next; conversation = (ap received c.in-Ok.ensures.ok ∙ c.new.ensures) i; stirred = false }) in
    record {
      opens = came;
      begins = record { time = refl; is = but.is ∙ ap (λ (l : Life). Some l) c.at.ensures; others = but.others };
      refuses = tt;
      lives = tt;
      leads = of_opened u.next _ _ came;
    }
