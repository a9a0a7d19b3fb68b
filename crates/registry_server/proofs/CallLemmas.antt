-- From the clause of each call to its event, and of calls one after the other.
use Rattle.std.proofs.Common.{◌≡◌, ℕ, ◌<◌, ◌≤◌, Bool, true, false, List, [], ◌∷◌, ◌++◌, length, take, drop, None, refl, sym, ap, subst, ◌∙◌}
use Rattle.std.proofs.lemmas.List.{length-take-le, take-append-drop}
use Rattle.std.proofs.lemmas.List.Elements.{All-nil, All-cons, All-append}
use Rattle.oci_types.specs.Text.{Text}
use Rattle.registry_model.specs.Keeping.{Kept}
use Rattle.registry_conversation.specs.declared.phase.Step.{Step}
use Rattle.registry_conversation.specs.Shown.{Shown, coming_len}
use Rattle.registry_conversation.specs.ConversationEvents.{came, ended, acted, sent}
use Rattle.registry_conversation.specs.Receiving.{ActsOn}
use Rattle.registry_holding.specs.Holding.{with_stage}
use Rattle.registry_server.specs.declared.receipt.Receipt.{Receipt}
use Rattle.registry_server.specs.declared.receipt.Receipt.TheVariants.{Taken, NoRoom, NotOpen}
use Rattle.registry_server.specs.Room.{IsReceived, going_sum}
use Rattle.registry_server.specs.Open.{Slot, Open, conversation_of, Opens, Changes, Closes, TakesTurn, IfOpen, with_slots, hears, sends, Finishes, Sends}
use Rattle.registry_server.specs.Events.{Event, comes, on, goes, unstages, SendsText, Happens, Passes, IsOfConnection, Leads, Carries}

-- ---- none, one, and one behind the other

pub leads_none : (u : Open) (s : Kept) → Leads u s u s
leads_none u s = ([], (refl, refl), All-nil IsOfConnection)

leads_one : (e : Event) (u : Open) (s : Kept) (u' : Open) (s' : Kept) → IsOfConnection e → Happens e u s u' s' → Leads u s u' s'
leads_one e u s u' s' is h = (e ∷ [], (u', s', h, (refl, refl)), All-cons IsOfConnection e [] is (All-nil IsOfConnection))

pub passes_then : (es fs : List Event) (u : Open) (s : Kept) (v : Open) (t : Kept) (w : Open) (r : Kept)
    → Passes es u s v t → Passes fs v t w r → Passes (es ++ fs) u s w r
passes_then [] fs u s v t w r x y =
    subst (λ (k : Kept). Passes fs u k w r) x.1 (subst (λ (a : Open). Passes fs a t w r) x.0 y)
passes_then (e ∷ es) fs u s v t w r x y = (x.0, x.1, x.2, passes_then es fs x.0 x.1 v t w r x.3 y)

pub leads_then : (u : Open) (s : Kept) (v : Open) (t : Kept) (w : Open) (r : Kept) → Leads u s v t → Leads v t w r → Leads u s w r
leads_then u s v t w r x y = (x.0 ++ y.0, passes_then x.0 y.0 u s v t w r x.1 y.1, All-append IsOfConnection x.0 y.0 x.2 y.2)

pub carries_none : (u : Open) → Carries u u
carries_none u s = leads_none u s

pub carries_then : (u v w : Open) → Carries u v → Carries v w → Carries u w
carries_then u v w x y s = leads_then u s v s w s (x s) (y s)

pub carries_same : (u u' : Open) → u' ≡ u → Carries u u'
carries_same u u' e = subst (Carries u) (sym e) (carries_none u)

-- ---- the calls

of_open : (there : Bool) (n : ℕ) (P : List Slot → List Slot → Type 0) (u u' : Open)
    → ((s : Kept) → P u.slots u'.slots → u' ≡ with_slots u u'.slots → Leads u s u' s) → IfOpen there n P u u' → Carries u u'
of_open true n P u u' f x = λ s. f s x.0 x.1
of_open false n P u u' f x = carries_same u u' x.1

pub of_opened : (n : ℕ) (u u' : Open) → Opens n u u' → Carries u u'
of_opened n u u' x s = leads_one (comes n) u s u' s tt (x, refl)

pub of_received : (receipt : Receipt) (n : ℕ) (bytes : Text) (u u' : Open) → IsReceived receipt n bytes u u' → Carries u u'
of_received Taken n bytes u u' x = λ s. leads_one (on n (came bytes)) u s u' s tt ((x.0, x.2, refl), x.1)
of_received NoRoom n bytes u u' x = carries_same u u' x.3
of_received NotOpen n bytes u u' x = carries_same u u' x.1

pub of_finished : (there : Bool) (n : ℕ) (u u' : Open) → IfOpen there n (Changes n Finishes hears) u u' → Carries u u'
of_finished there n u u' =
    of_open there n (Changes n Finishes hears) u u'
    (λ s x e. leads_one (on n ended) u s u' s tt ((x, refl), e))

-- the bytes that went out
went_of : (count : ℕ) (c c' : Shown) → Sends count c c' → SendsText (take count c.going) c c'
went_of count c c' h =
    let e : c'.going ≡ drop count c.going = ap (λ (x : Shown). x.going) h.1 in (
      sym (take-append-drop count c.going) ∙ ap (λ (rest : Text). take count c.going ++ rest) (sym e),
      h.1 ∙ ap (λ (text : Text). record c { going = text }) (sym e),
    )

sent_one : (n count : ℕ) (xs ys : List Slot) → (y : Changes n (Sends count) (sends count) xs ys)
    → Changes n (SendsText (take count y.slot.conversation.going)) (sends (length (take count y.slot.conversation.going))) xs ys
sent_one n count xs ys y =
    let size : length (take count y.slot.conversation.going) ≡ count = length-take-le count y.slot.conversation.going y.changes.0 in
    record {
      front = y.front;
      slot = y.slot;
      back = y.back;
      conversation = y.conversation;
      was = y.was;
      numbered = y.numbered;
      is = y.is ∙ ap (λ (k : ℕ). y.front ++ record { number = n; conversation = y.conversation; stirred = sends k y.slot } ∷ y.back) (sym size);
      changes = went_of count y.slot.conversation y.conversation y.changes;
      only = y.only;
    }

pub of_sent : (there : Bool) (n count : ℕ) (u u' : Open) → IfOpen there n (Changes n (Sends count) (sends count)) u u' → Carries u u'
of_sent there n count u u' =
    of_open there n (Changes n (Sends count) (sends count)) u u'
    (λ s x e. leads_one (on n (sent (take count x.slot.conversation.going))) u s u' s tt ((sent_one n count u.slots u'.slots x, refl), e))

pub of_closed : (there : Bool) (n : ℕ) (u u' : Open) → IfOpen there n (Closes n) u u' → Carries u u'
of_closed there n u u' = of_open there n (Closes n) u u' (λ s x e. leads_one (goes n) u s u' s tt (x, e, refl))

pub of_turn : {honest : Type 0} (n : ℕ) (found : Step) (u : Open) (s : Kept) (u' : Open) (s' : Kept)
    → TakesTurn n found (λ c c'. (honest → ActsOn u.settings found n c s c' s') × (coming_len c' ≤ coming_len c)) u.slots u'.slots → u' ≡ with_slots u u'.slots
    → going_sum u.slots < u.bounds.going → honest → Leads u s u' s'
of_turn {honest} n found u s u' s' y e room h =
    leads_one (on n (acted found)) u s u' s' tt (
      (
        record {
          front = y.front;
          slot = y.slot;
          back = y.back;
          conversation = y.conversation;
          was = y.was;
          waiting = y.waiting;
          stirred = y.stirred;
          numbered = y.numbered;
          is = y.is;
          changes = (y.changes.0 h, y.changes.1);
          only = y.only;
        },
        room,
      ),
      e,
    )

pub of_unstaged : (n : ℕ) (u : Open) (k k' : Kept) → conversation_of n u.slots ≡ None → k' ≡ with_stage k n None → Leads u k u k'
of_unstaged n u k k' none e = leads_one (unstages n) u k u k' tt (refl, none, e)
