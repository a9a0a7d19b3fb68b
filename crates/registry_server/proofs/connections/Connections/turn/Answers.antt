use Rattle.std.proofs.Common.{◌≤◌, ℕ, inl, refl, sym, ap, subst, arith}
use Rattle.oci_types.specs.Text.{Text}
use Rattle.registry_conversation.specs.Shown.{coming_len}
use Rattle.registry_server.specs.Open.{Slot}
use Rattle.registry_server.specs.Slots.{slot_of, slots_of}
use Rattle.registry_server.specs.Showing.{connected}
use Rattle.registry_conversation.specs.Receiving.{ActsOn, Lies, TellsApart}
use Rattle.registry_server.proofs.PlaceLemmas.{stirred_on, idle_on, within_found, moved_in, turned, turned_numbers}
use Rattle.registry_server.proofs.KeptLemmas.{kept_turned, kept_idle}
use Rattle.registry_server.proofs.RoomLemmas.{within_turned}
use Rattle.registry_server.proofs.SlotLemmas.{opened}
use Rattle.registry_server.proofs.LifeLemmas.{turned_lives}
use Rattle.registry_server.proofs.CallLemmas.{leads_none, of_turn}
use Rattle.registry_server.proofs.connections.Connections.turn.Goals as goal

pub invariant_of-self-2 : goal.invariant_of-self-2
invariant_of-self-2 g c =
    let items = c.args.self.now.connections.items in
    let f = stirred_on c.in-Some.at c.deref.result.now items c.deref.ensures.value c.in-Some.ensures.found in
    let y = c.answer_next-turn.new.self in
    let m =
    moved_in c.in-Some.at c.args.self.now.connections.len items c.deref_mut.result.now c.to_back.new.connections y
    c.deref_mut.ensures.value c.deref_mut.ensures.len (within_found c.in-Some.at items f.front f.back f.slot f.was f.place) c.to_back.ensures in
    let u = c.args.self.now in
    let within = within_turned u.bounds c.answer_next-turn.result.number c.answer_next-turn.result.step (λ a b. coming_len b ≤ coming_len a) (slots_of items) _ (λ a b h. h)
    (turned u.next c.answer_next-turn.result.number c.in-Some.at c.answer_next-turn.result.step (λ a b. coming_len b ≤ coming_len a) items _ c.index_mut.result.now y c.index_mut.ensures.value f
    u.numbered c.answer_next-turn.ensures.number (c.answer_next-turn.ensures.fewer, c.answer_next-turn.ensures.acts.1) m)
    u.within in
    record {
      numbered = turned_numbers u.next c.in-Some.at items _ c.index_mut.result.now y c.index_mut.ensures.value f
          (ap (λ (s : Slot). s.number) c.answer_next-turn.ensures.acts.1) u.numbered m;
      within = within;
      fits = u.fits;
      kept = kept_turned u.bounds u.sums _ u.resting u.oldest u.time c.in-Some.at items _ c.index_mut.result.now y c.index_mut.ensures.value f u.kept
          c.answer_next-turn.ensures.sums c.answer_next-turn.ensures.lives m u.fits (omega (arith, u.connections.ok.0, u.connections.ok.1, u.connections.small)) within;
    }

pub invariant_of-self : goal.invariant_of-self
invariant_of-self g c =
    let u = c.args.self.now in
    record {
      numbered = u.numbered;
      within = u.within;
      fits = u.fits;
      kept = kept_idle u.sums u.resting _ u.oldest u.time u.connections.items u.kept
          (idle_on c.deref.result.now u.connections.items c.deref.ensures.value c.in_default.ensures.none);
    }

pub returns : goal.returns
returns g c =
    let items = c.args.self.now.connections.items in
    let f = stirred_on c.in-Some.at c.deref.result.now items c.deref.ensures.value c.in-Some.ensures.found in
    let y = c.answer_next-turn.new.self in
    let lt = within_found c.in-Some.at items f.front f.back f.slot f.was f.place in
    let m = moved_in c.in-Some.at c.args.self.now.connections.len items c.deref_mut.result.now c.to_back.new.connections y
    c.deref_mut.ensures.value c.deref_mut.ensures.len lt c.to_back.ensures in
    let room = c.has_room_for_reply.ensures.0 c.if-not-has_room_for_reply.false in
    let number = c.answer_next-turn.ensures.number in
    let k = g.K.Keeper.kept c.args.service.now in
    let k' = g.K.Keeper.kept c.answer_next-turn.new.service in
    let settings = c.args.self.now.settings in
    let step = c.answer_next-turn.result.step in
    let before = (slot_of c.index_mut.result.now).conversation in
    let after = (slot_of y).conversation in
    let took = turned c.args.self.now.next c.answer_next-turn.result.number c.in-Some.at step
    (λ a b. (g.K.Keeper.is_honest c.answer_next-turn.new.service → ActsOn settings step c.answer_next-turn.result.number a k b k') × (coming_len b ≤ coming_len a))
    items _ c.index_mut.result.now y c.index_mut.ensures.value f
    c.args.self.now.numbered number
    ((λ honest. subst (λ (m : ℕ). ActsOn settings step m before k after k') (sym number) (c.answer_next-turn.ensures.acts.0 honest), c.answer_next-turn.ensures.fewer), c.answer_next-turn.ensures.acts.1)
    m in
    let said = turned c.args.self.now.next c.answer_next-turn.result.number c.in-Some.at step
    (λ a b. g.K.Keeper.is_honest c.answer_next-turn.new.service → (apart : Text) → Lies c.answer_next-turn.result.number k a apart
    → TellsApart settings step c.answer_next-turn.result.number apart a k b k' c.answer_next-turn.result.report)
    items _ c.index_mut.result.now y c.index_mut.ensures.value f
    c.args.self.now.numbered number (
      λ honest apart. subst (λ (m : ℕ). Lies m k before apart → TellsApart settings step m apart before k after k' c.answer_next-turn.result.report) (sym number) (c.answer_next-turn.ensures.tells honest apart),
      c.answer_next-turn.ensures.acts.1,
    ) m in
    record {
      honest = c.answer_next-turn.ensures.honest;
      takes = (took, refl, room);
      idle = tt;
      tells = λ honest. record {
        old = said.slot.conversation;
        new = said.conversation;
        was = said.only.was;
        is = said.only.is;
        tells = said.changes honest;
      };
      lives = record {
        time = refl;
        all = turned_lives c.args.self.now.next c.in-Some.at items _ c.index_mut.result.now y c.index_mut.ensures.value lt
            (opened c.args.self.now.next (slots_of items) c.args.self.now.numbered)
            (ap (λ (s : Slot). s.number) c.answer_next-turn.ensures.acts.1) c.answer_next-turn.ensures.lives m;
      };
      leads = of_turn c.answer_next-turn.result.number c.answer_next-turn.result.step _ _ _ _ took refl room;
    }

pub returns-in_default : goal.returns-in_default
returns-in_default g c =
    record {
      honest = λ honest. honest;
      takes = tt;
      idle = (refl, refl, inl (idle_on c.deref.result.now c.args.self.now.connections.items c.deref.ensures.value c.in_default.ensures.none));
      tells = λ honest. tt;
      lives = record { time = refl; all = λ n. refl };
      leads = λ honest. leads_none (connected c.args.self.now) (g.K.Keeper.kept c.args.service.now);
    }
