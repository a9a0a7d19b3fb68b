use Rattle.std.proofs.Common.{true, refl, sym, ap, ◌∙◌, ◌==◌, ◌≤◌, Option, length, set, subst, arith}
use Rattle.std.specs.Prelude.{option_map}
use Rattle.registry_conversation.specs.Shown.{Shown}
use Rattle.registry_server.specs.Open.{Slot, conversation_of, going_in, outgoing_of, Sends, sends}
use Rattle.registry_server.proofs.PlaceLemmas.{changed, changed_numbers, changed_is, found_is}
use Rattle.registry_server.specs.Slots.{slot_of, slots_of}
use Rattle.registry_server.proofs.RoomLemmas.{within_changed, as_many_told}
use Rattle.registry_server.proofs.LifeLemmas.{changed_life, no_life}
use Rattle.registry_server.specs.Lives.{sent_by}
use Rattle.registry_server.proofs.CallLemmas.{carries_none, of_sent}
use Rattle.registry_server.proofs.KeptLemmas.{kept_changed, alive_sent}
use Rattle.registry_server.proofs.connections.Connections.sent.Goals as goal

pub sent-requires : goal.sent-requires
sent-requires c =
    subst (λ (o : Option Shown). c.args.count ≤ length (going_in o))
    (found_is c.args.number c.in-Some.at c.args.self.now.connections.items c.index_mut.result.now c.index_mut.ensures.value c.in-Some.ensures.found) c.requires

pub invariant_of-self : goal.invariant_of-self
invariant_of-self c =
    let u = c.args.self.now in
    let items = u.connections.items in
    let x = c.index_mut.result.now in
    let y = c.sent.new.self in
    let f = c.in-Some.ensures.found in
    let within = within_changed u.bounds c.args.number (Sends c.args.count) (sends c.args.count) (slots_of items) _ (λ a b h. as_many_told c.args.count a b h)
    (changed c.args.number c.in-Some.at (Sends c.args.count) (sends c.args.count) items x y c.index_mut.ensures.value f c.sent.ensures.becomes) u.within in
    record {
      numbered = changed_numbers u.next c.args.number c.in-Some.at items x y c.index_mut.ensures.value f (ap (λ (s : Slot). s.number) c.sent.ensures.becomes.1) u.numbered;
      within = within;
      fits = u.fits;
      kept = kept_changed u.bounds u.sums _ u.resting _ u.oldest u.time c.args.number c.in-Some.at items x y c.index_mut.ensures.value f u.kept
          c.sent.ensures.sums (omega (arith, c.min-self.ensures)) (omega (arith, c.min-self.ensures))
          (alive_sent u.sums u.resting u.oldest u.time c.args.number c.in-Some.at c.args.count (length (slot_of y).conversation.going == 0) items x y c.index_mut.ensures.value f u.kept c.sent.ensures.lives)
          u.fits (omega (arith, u.connections.ok.0, u.connections.ok.1, u.connections.small)) within;
    }

pub returns-in-Some : goal.returns-in-Some
returns-in-Some c =
    let items = c.args.self.now.connections.items in
    let y = c.sent.new.self in
    let number = ap (λ (s : Slot). s.number) c.sent.ensures.becomes.1 in
    let f = c.in-Some.ensures.found in
    let went = changed c.args.number c.in-Some.at (Sends c.args.count) (sends c.args.count) items c.index_mut.result.now y c.index_mut.ensures.value f c.sent.ensures.becomes in
    let whole = ap (λ (o : Option Shown). length (going_in o) == 0) (changed_is c.args.number c.in-Some.at items c.index_mut.result.now y c.index_mut.ensures.value f number) in
    let but = changed_life c.args.number c.in-Some.at (sent_by c.args.count (length (going_in (conversation_of c.args.number (slots_of (set items c.in-Some.at y)))) == 0) c.args.self.now.time)
    items c.index_mut.result.now y c.index_mut.ensures.value f number
    (c.sent.ensures.lives ∙ (λ i. sent_by c.args.count (sym whole i) c.args.self.now.time c.index_mut.result.now.life)) in
    record {
      sends = (went, refl);
      lives = record { time = refl; is = but.is; others = but.others };
      leads = of_sent true c.args.number c.args.count _ _ (went, refl);
    }

pub returns-in-None : goal.returns-in-None
returns-in-None c =
    let items = c.args.self.now.connections.items in
    let none = no_life c.args.number items c.in-None.ensures.none in
    let f = sent_by c.args.count (length (outgoing_of c.args.number (slots_of items)) == 0) c.args.self.now.time in
    record {
      sends = (c.in-None.ensures.none, refl);
      lives = record { time = refl; is = none ∙ sym (ap (option_map f) none); others = λ m ne. refl };
      leads = carries_none _;
    }
