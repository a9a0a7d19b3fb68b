use Rattle.std.proofs.Common.{◌≤◌, length, refl, ap, arith}
use Rattle.registry_server.specs.Open.{Slot, Hears, hears}
use Rattle.registry_server.specs.Room.{room_of}
use Rattle.registry_server.specs.Showing.{connected}
use Rattle.registry_server.specs.declared.receipt.Receipt.TheVariants.{Taken}
use Rattle.registry_server.proofs.PlaceLemmas.{found_there, changed, changed_numbers}
use Rattle.registry_server.proofs.RoomLemmas.{within_received}
use Rattle.registry_server.proofs.LifeLemmas.{changed_life}
use Rattle.registry_server.specs.Lives.{moved_by}
use Rattle.registry_server.proofs.CallLemmas.{carries_none, of_received}
use Rattle.registry_server.proofs.KeptLemmas.{kept_changed, alive_moved}
use Rattle.registry_server.proofs.connections.Connections.receive.Goals as goal

pub invariant_of-self : goal.invariant_of-self
invariant_of-self c =
    let items = c.args.self.now.connections.items in
    let f = c.in-Some.ensures.found in
    let room : length c.args.bytes.now ≤ room_of c.args.number (connected c.args.self.now) = omega (arith, c.room-room.ensures, c.if-bytes-room.false) in
    let u = c.args.self.now in
    let within = within_received (connected c.args.self.now) c.args.number c.args.bytes.now (Hears c.args.bytes.now) _ (λ a b h. h.2)
    (changed c.args.number c.in-Some.at (Hears c.args.bytes.now) hears items c.index_mut.result.now c.receive.new.self c.index_mut.ensures.value f c.receive.ensures.becomes)
    room c.args.self.now.within in
    record {
      numbered = changed_numbers c.args.self.now.next c.args.number c.in-Some.at items c.index_mut.result.now c.receive.new.self
          c.index_mut.ensures.value f (ap (λ (s : Slot). s.number) c.receive.ensures.becomes.1) c.args.self.now.numbered;
      within = within;
      fits = u.fits;
      kept = kept_changed u.bounds u.sums _ u.resting _ u.oldest u.time c.args.number c.in-Some.at items c.index_mut.result.now c.receive.new.self c.index_mut.ensures.value f u.kept
          c.receive.ensures.sums (omega (arith, c.min-self.ensures)) (omega (arith, c.min-self.ensures))
          (alive_moved u.sums u.resting u.oldest u.time c.args.number c.in-Some.at (length c.args.bytes.now) items c.index_mut.result.now c.receive.new.self c.index_mut.ensures.value f u.kept c.receive.ensures.lives)
          u.fits (omega (arith, u.connections.ok.0, u.connections.ok.1, u.connections.small)) within;
    }

pub returns-else-bytes-room : goal.returns-else-bytes-room
returns-else-bytes-room c =
    let items = c.args.self.now.connections.items in
    let f = c.in-Some.ensures.found in
    let heard = changed c.args.number c.in-Some.at (Hears c.args.bytes.now) hears items c.index_mut.result.now c.receive.new.self c.index_mut.ensures.value f c.receive.ensures.becomes in
    let room : length c.args.bytes.now ≤ room_of c.args.number (connected c.args.self.now) = omega (arith, c.room-room.ensures, c.if-bytes-room.false) in
    let but = changed_life c.args.number c.in-Some.at (moved_by (length c.args.bytes.now) c.args.self.now.time) items c.index_mut.result.now c.receive.new.self
    c.index_mut.ensures.value f (ap (λ (s : Slot). s.number) c.receive.ensures.becomes.1) c.receive.ensures.lives in
    record {
      receives = (heard, refl, room);
      lives = record { time = refl; is = but.is; others = but.others };
      leads = of_received Taken c.args.number c.args.bytes.now _ _ (heard, refl, room);
    }

pub returns-then-bytes-room : goal.returns-then-bytes-room
returns-then-bytes-room c =
    let f = c.in-Some.ensures.found in
    record {
      receives = (f.slot.conversation, found_there c.args.number c.in-Some.at _ f, omega (arith, c.room-room.ensures, c.if-bytes-room.true), refl);
      lives = record { time = refl; all = λ n. refl };
      leads = carries_none _;
    }

pub returns-in-None : goal.returns-in-None
returns-in-None c = record {
  receives = (c.in-None.ensures.none, refl);
  lives = record { time = refl; all = λ n. refl };
  leads = carries_none _;
}
