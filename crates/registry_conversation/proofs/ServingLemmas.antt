-- A reader and a writer around a conversation.
use Rattle.std.proofs.Common.{◌≡◌, ℕ, ◌<◌, ◌≤◌, ◌⊎◌, inl, inr, Bool, true, false, [], ◌++◌, length, take, Option, Some, refl, sym, ap, ◌∙◌, subst, append-nil, arith}
use Rattle.std.proofs.lemmas.List.{take-take, length-take-le}
use Rattle.std.proofs.KnownBytes.{Appends-trans}
use Rattle.std.specs.Bool.{MatchBool}
use Rattle.std.specs.Io.KnownBytes.{Consumes, Appends, IsAtEnd}
use Rattle.oci_types.specs.Text.{Text}
use Rattle.registry_model.specs.Keeping.{State}
use Rattle.registry_http.specs.Ending.{SendsRefusal}
use Rattle.registry_http.specs.Expecting.{IsBefore}
use Rattle.registry_http.specs.ReplyText.{refusal_text}
use Rattle.registry_http.specs.Serving.{reply_for, joined, Traffic, Serves}
use Rattle.registry_http.specs.Spelling.{IsCut, closes}
use Rattle.registry_http.specs.declared.ending.FramingRefusal.TheVariants.{NoBufferMemory}
use Rattle.registry_http.specs.declared.ending.End.{End}
use Rattle.registry_http.specs.declared.ending.End.TheVariants.{Closed, Cut, Refused, ReadFailed, WriteFailed}
use Rattle.registry_http.proofs.RequestLemmas.{before_empty}
use Rattle.registry_http.proofs.ConnectionProgress.{Progress, starts, came, continued, at_end, broken, refused, refuse_serves, memory_serves, answered, closed, reply_cut, continue_cut}
use Rattle.registry_conversation.specs.declared.phase.Phase.{Phase}
use Rattle.registry_conversation.specs.declared.phase.Phase.TheVariants.{Head, Body, Ended}
use Rattle.registry_conversation.specs.declared.phase.Step.{Step}
use Rattle.registry_conversation.specs.declared.phase.Step.TheVariants as step
use Rattle.registry_conversation.specs.Shown.{Shown, begun, with_finished, with_going}
use Rattle.registry_conversation.specs.Holding.{HoldsAs, Holds}
use Rattle.registry_conversation.specs.Stepping.{AnswersFirst, WaitsForMore, PutsInterim, PutsPart, replying, refusing, continuing, EndsAs, ActsAs, Comes, Reads}
use Rattle.registry_conversation.specs.ConversationEvents.{acted, Happens}
use Rattle.registry_conversation.proofs.HoldingLemmas.{said_there}
use Rattle.registry_model.specs.declared.settings.Settings.{Settings}

-- ---- where a connection stands

-- the text that is to go out, once it went, and so much of it come to this end
pub record Finishes (e : End) (text : Text) (t : Traffic) : Type 0 where
  pub whole : (w : Option Text) → Appends t.held' w text → Serves e (record t { held' = w })
  pub part : (n : ℕ) (w : Option Text) → n < length text → Appends t.held' w (take n text) → Serves (WriteFailed n) (record t { held' = w })

-- all that was put out went, and there may be a further request
pub record Open (c : Shown) (t : Traffic) : Type 0 where
  pub rest : Text
  pub said : Text
  pub progress : Progress rest said t
  pub holds : Holds t.settings c rest said
  pub told : c.going ≡ []
  pub at_end : c.finished ≡ true → IsAtEnd t.left'

abbrev pub StandsAs : Phase → Shown → Traffic → Type 0
StandsAs Head c t = Open c t
StandsAs (Body part) c t = Open c t
StandsAs (Ended e) c t = Finishes e c.going t

abbrev pub Stands : Shown → Traffic → Type 0
Stands c t = StandsAs c.phase c t

still_open : (q : Phase) (rest said : Text) (t : Traffic) (c : Shown) → c.phase ≡ q → HoldsAs t.settings q c.taken c.unread rest said → Progress rest said t
    → c.going ≡ [] → (c.finished ≡ true → IsAtEnd t.left') → StandsAs q c t
still_open Head rest said t c e h p none done =
    record { rest = rest; said = said; progress = p; holds = subst (λ (x : Phase). HoldsAs t.settings x c.taken c.unread rest said) (sym e) h; told = none; at_end = done }
still_open (Body part) rest said t c e h p none done =
    record { rest = rest; said = said; progress = p; holds = subst (λ (x : Phase). HoldsAs t.settings x c.taken c.unread rest said) (sym e) h; told = none; at_end = done }
still_open (Ended end) rest said t c e h p none done = absurd h

is_over : (e : End) (c : Shown) (t : Traffic) → c.phase ≡ Ended e → Finishes e c.going t → Stands c t
is_over e c t same x = subst (λ (q : Phase). StandsAs q c t) (sym same) x

-- it is open, and no request is whole
pub record Waiting (c : Shown) (t : Traffic) : Type 0 where
  pub open_still : Open c t
  pub goes_on : c.finished ≡ false
  pub cut : (open_still.rest ≡ []) ⊎ IsCut t.settings open_still.rest
  pub before_is : IsBefore t.settings open_still.rest open_still.said

abbrev pub StepsTo : Step → Shown → Traffic → Type 0
StepsTo step.Answered c t = Stands c t
StepsTo step.Interim c t = Stands c t
StepsTo step.Waits c t = Waiting c t
StepsTo (step.Ended e) c t = Serves e t

-- behind a turn that came to this: all that it put out went, or so much of it
pub record Turned (found : Step) (c : Shown) (t : Traffic) : Type 0 where
  pub whole : (w : Option Text) → Appends t.held' w c.going → StepsTo found (with_going c []) (record t { held' = w })
  pub part : (n : ℕ) (w : Option Text) → n < length c.going → Appends t.held' w (take n c.going) → Serves (WriteFailed n) (record t { held' = w })

-- ---- texts

none_short : (n : ℕ) (text : Text) → text ≡ [] → n < length text → ⊥
none_short n text e short = omega (arith, short, ap length e)

none_more : (a b c : Option Text) (text : Text) → Appends a b text → Appends b c [] → Appends a c text
none_more a b c text x y = subst (λ (z : Text). Appends a c z) (append-nil text) (Appends-trans a b c text [] x y)

-- a text of which only so much is put out goes so far, or less
cut_short : (m : ℕ) (text going : Text) (t : Traffic) → going ≡ take m text → m < length text
    → ((n : ℕ) (w : Option Text) → n < length text → Appends t.held' w (take n text) → Serves (WriteFailed n) (record t { held' = w }))
    → Finishes (WriteFailed m) going t
cut_short m text going t put short f = record {
  whole = λ w a. f m w short (subst (λ (x : Text). Appends t.held' w x) put a);
  part = λ n w less a.
      let size : length (take m text) ≡ m = length-take-le m text (omega (arith, short)) in
      let few : n < m = omega (arith, less, ap length put, size) in
      let within : n ≤ m = omega (arith, few) in
      f n w (omega (arith, few, short)) (subst (λ (x : Text). Appends t.held' w x) (ap (take n) put ∙ take-take n m text within) a);
}

-- a text is put out
all_of : (e : End) (text going : Text) (t : Traffic) → going ≡ text → ((w : Option Text) → Appends t.held' w text → Serves e (record t { held' = w }))
    → ((n : ℕ) (w : Option Text) → n < length text → Appends t.held' w (take n text) → Serves (WriteFailed n) (record t { held' = w }))
    → Finishes e going t
all_of e text going t put f g = record {
  whole = λ w a. f w (subst (λ (x : Text). Appends t.held' w x) put a);
  part = λ n w short a. g n w (subst (λ (x : Text). n < length x) put short) (subst (λ (x : Text). Appends t.held' w (take n x)) put a);
}

quiet : (b said : Text) (t : Traffic) (w : Option Text) → Progress b said t → Appends t.held' w [] → Progress b said (record t { held' = w })
quiet b said t w p a = record {
  read = p.read;
  items = p.items;
  texts = p.texts;
  front = p.front;
  consumed = p.consumed;
  run = p.run;
  written = none_more t.held t.held' w (joined p.texts ++ said) p.written a;
}

-- ---- a turn

module _ (b said : Text) (t : Traffic) (p : Progress b said t) (s' : State) (c : Shown) (done : c.finished ≡ true → IsAtEnd t.left') where
  was_answered : AnswersFirst t.settings b said [] t.state' s' c → Turned step.Answered c (record t { state' = s' })
  was_answered x = record {
    whole = λ w a. by_close (closes x.item) refl x.goes_on w (subst (λ (y : Text). Appends t.held' w y) x.put a);
    part = λ n w short a.
        reply_cut b said t p x.item x.rest x.begins x.request x.before_is x.answer s' x.does w n (subst (λ (y : Text). n < length y) x.put short)
        (subst (λ (y : Text). Appends t.held' w (take n y)) x.put a);
  }
    where
      by_close : (f : Bool) → closes x.item ≡ f → MatchBool f (c.phase ≡ Ended Closed) (Holds t.settings c x.rest []) → (w : Option Text)
          → Appends t.held' w (reply_for x.item x.answer) → Stands (with_going c []) (record t { held' = w; state' = s' })
      by_close true e ends w a =
          is_over Closed (with_going c []) (record t { held' = w; state' = s' }) ends (record {
            whole = λ v more.
                closed b said t p x.item x.rest x.begins x.request x.before_is x.answer s' x.does v e (none_more t.held' w v (reply_for x.item x.answer) a more);
            part = λ n v short more. absurd (none_short n [] refl short);
          })
      by_close false e holds w a =
          still_open c.phase x.rest [] (record t { held' = w; state' = s' }) (with_going c []) refl holds
          (answered b said t p x.item x.rest x.begins x.request x.before_is x.answer s' x.does w e a) refl done

  unsaid : said ≡ [] → Progress b [] t
  unsaid none = subst (λ (y : Text). Progress b y t) none p

  interim : PutsInterim t.settings b said [] t.state' s' c → Turned step.Interim c (record t { state' = s' })
  interim x = record {
    whole = λ w a.
        still_open c.phase b x.first (record t { held' = w; state' = s' }) (with_going c []) refl x.holds
        (subst (λ (s : State). Progress b x.first (record t { held' = w; state' = s })) (sym x.same)
        (continued b t x.first w (unsaid x.unsaid) (subst (λ (y : Text). Appends t.held' w y) x.put a))) refl done;
    part = λ n w short a.
        subst (λ (s : State). Serves (WriteFailed n) (record t { held' = w; state' = s })) (sym x.same)
        (continue_cut b t (unsaid x.unsaid) x.first w n x.first_is (subst (λ (y : Text). n < length y) x.put short)
        (subst (λ (y : Text). Appends t.held' w (take n y)) x.put a));
  }

  -- nothing is put out, and the service is left alone
  now : c.going ≡ [] → s' ≡ t.state' → (w : Option Text) → Appends t.held' w c.going → Progress b said (record t { held' = w; state' = s' })
  now none same w a =
      subst (λ (s : State). Progress b said (record t { held' = w; state' = s })) (sym same)
      (quiet b said t w p (subst (λ (y : Text). Appends t.held' w y) none a))

  waits : WaitsForMore t.settings b said [] t.state' s' c → Turned step.Waits c (record t { state' = s' })
  waits x = record {
    whole = λ w a. record {
      open_still = record { rest = b; said = said; progress = now x.put x.same w a; holds = x.holds; told = refl; at_end = done };
      goes_on = x.goes_on;
      cut = x.cut;
      before_is = x.before_is;
    };
    part = λ n w short a. absurd (none_short n c.going x.put short);
  }

  puts_part : (m : ℕ) → PutsPart t.settings m b said [] t.state' s' c.going → Finishes (WriteFailed m) c.going (record t { state' = s' })
  puts_part m (replying i rest a request begins is does short put) =
      cut_short m (reply_for i a) c.going (record t { state' = s' }) put short
      (λ n w less sent. reply_cut b said t p i rest begins request is a s' does w n less sent)
  puts_part m (refusing r bad short put same) =
      cut_short m (refusal_text r) c.going (record t { state' = s' }) put short
      (λ n w less sent. subst (λ (s : State). Serves (WriteFailed n) (record t { held' = w; state' = s })) (sym same)
      (refuse_serves b said t p (WriteFailed n) r w bad (less, sent)))
  puts_part m (continuing text none is short put same) =
      cut_short m text c.going (record t { state' = s' }) put short
      (λ n w less sent. subst (λ (s : State). Serves (WriteFailed n) (record t { held' = w; state' = s })) (sym same)
      (continue_cut b t (unsaid none) text w n is less sent))

  ends : (e : End) → EndsAs t.settings e b said [] t.state' s' c → Finishes e c.going (record t { state' = s' })
  ends Closed x = record {
    whole = λ w a.
        at_end b said (record t { held' = w; state' = s' }) (now x.3 x.4 w a) Closed (done x.0) x.1 (subst (λ (y : Text). IsBefore t.settings b y) (sym x.2) (before_empty t.settings b x.1)) refl;
    part = λ n w short a. absurd (none_short n c.going x.3 short);
  }
  ends Cut x = record {
    whole = λ w a. at_end b said (record t { held' = w; state' = s' }) (now x.3 x.4 w a) Cut (done x.0) x.1 x.2 refl;
    part = λ n w short a. absurd (none_short n c.going x.3 short);
  }
  ends (Refused r) x =
      all_of (Refused r) (refusal_text r) c.going (record t { state' = s' }) x.1
      (λ w a. subst (λ (s : State). Serves (Refused r) (record t { held' = w; state' = s })) (sym x.2) (refused b said t p r w x.0 a))
      (λ n w short a. subst (λ (s : State). Serves (WriteFailed n) (record t { held' = w; state' = s })) (sym x.2)
      (refuse_serves b said t p (WriteFailed n) r w x.0 (short, a)))
  ends ReadFailed x = absurd x
  ends (WriteFailed m) x = puts_part m x

  over : (e : End) → Finishes e c.going (record t { state' = s' }) → Turned (step.Ended e) c (record t { state' = s' })
  over e x = record { whole = x.whole; part = x.part }

  turn : (found : Step) → ActsAs t.settings found b said [] t.state' s' c → Turned found c (record t { state' = s' })
  turn step.Answered x = was_answered x
  turn step.Interim x = interim x
  turn step.Waits x = waits x
  turn (step.Ended e) x = over e (ends e x.1)

pub turned : (found : Step) (c c' : Shown) (t : Traffic) (s' : State) → Happens t.settings (acted found) c t.state' c' s' → Stands c t → Turned found c' (record t { state' = s' })
turned found c c' t s' x stands = by_phase c.phase refl stands
  where
    goes_on : Open c t → Turned found c' (record t { state' = s' })
    goes_on y =
        turn y.rest y.said t y.progress s' c' (λ f. y.at_end (sym x.1 ∙ f)) found
        (subst (λ (g : Text). ActsAs t.settings found y.rest y.said g t.state' s' c') y.told (x.2 y.rest y.said y.holds))

    by_phase : (q : Phase) → c.phase ≡ q → StandsAs q c t → Turned found c' (record t { state' = s' })
    by_phase Head e y = goes_on y
    by_phase (Body part) e y = goes_on y
    by_phase (Ended end) e y =
        let same = x.0 end e in
        subst (λ (k : Step). Turned k c' (record t { state' = s' })) (sym same.0)
        (subst (λ (k : Shown). Turned (step.Ended end) k (record t { state' = s' })) (sym same.1)
        (subst (λ (s : State). Turned (step.Ended end) c (record t { state' = s })) (sym same.2) (record { whole = y.whole; part = y.part })))

-- all that it put out went
pub went_on : (found k : Step) (c c' c'' : Shown) (t : Traffic) (s' : State) (w : Option Text) → Happens t.settings (acted found) c t.state' c' s' → Stands c t → found ≡ k
    → Appends t.held' w c'.going → c'' ≡ with_going c' [] → StepsTo k c'' (record t { held' = w; state' = s' })
went_on found k c c' c'' t s' w x stands same sent told =
    subst (λ (z : Shown). StepsTo k z (record t { held' = w; state' = s' })) (sym told)
    (subst (λ (z : Step). StepsTo z (with_going c' []) (record t { held' = w; state' = s' })) same ((turned found c c' t s' x stands).whole w sent))

-- only so much of it went
pub broke_off : (found : Step) (c c' : Shown) (t : Traffic) (s' : State) (n : ℕ) (w : Option Text) → Happens t.settings (acted found) c t.state' c' s' → Stands c t
    → n < length c'.going → Appends t.held' w (take n c'.going) → Serves (WriteFailed n) (record t { held' = w; state' = s' })
broke_off found c c' t s' n w x stands short sent = (turned found c c' t s' x stands).part n w short sent

-- ---- a read

module _ (c c' : Shown) (t : Traffic) (l : Option Text) (x : Waiting c t) where
  abbrev y : Open c t
  y = x.open_still

  not_done : c'.finished ≡ c.finished → c'.finished ≡ true → IsAtEnd l
  not_done same done = absurd (both c'.finished (same ∙ x.goes_on) done)
    where
      both : (f : Bool) → f ≡ false → f ≡ true → ⊥
      both f a b = cc

  lacks : (e : End) → SendsRefusal e NoBufferMemory (Some c.going) (Some c'.going) → Finishes e c'.going (record t { left' = l })
  lacks Closed s = absurd s
  lacks Cut s = absurd s
  lacks (Refused r) s =
      all_of (Refused r) (refusal_text NoBufferMemory) c'.going (record t { left' = l }) (s.1 ∙ ap (λ (g : Text). g ++ refusal_text NoBufferMemory) y.told)
      (λ w a. memory_serves y.rest y.said t y.progress (Refused r) NoBufferMemory l w
      (λ tail. said_there t.settings c.phase c.taken c.unread y.rest y.said tail y.holds) refl (s.0, a))
      (λ n w short a. memory_serves y.rest y.said t y.progress (WriteFailed n) NoBufferMemory l w
      (λ tail. said_there t.settings c.phase c.taken c.unread y.rest y.said tail y.holds) refl (short, a))
  lacks ReadFailed s = absurd s
  lacks (WriteFailed m) s =
      cut_short m (refusal_text NoBufferMemory) c'.going (record t { left' = l }) (s.1 ∙ ap (λ (g : Text). g ++ take m (refusal_text NoBufferMemory)) y.told) s.0
      (λ n w less sent. memory_serves y.rest y.said t y.progress (WriteFailed n) NoBufferMemory l w
      (λ tail. said_there t.settings c.phase c.taken c.unread y.rest y.said tail y.holds) refl (less, sent))

  received : (bytes : Text) → Consumes t.left' l bytes → Comes bytes c c' → Stands c' (record t { left' = l })
  received bytes taken e =
      still_open c'.phase (y.rest ++ bytes) y.said (record t { left' = l }) c' refl (e.1 t.settings y.rest y.said y.holds)
      (came y.rest y.said t bytes l y.progress taken) (ap (λ (k : Shown). k.going) e.0 ∙ y.told) (not_done (ap (λ (k : Shown). k.finished) e.0))

  none_came : Consumes t.left' l [] → Progress y.rest y.said (record t { left' = l })
  none_came taken = subst (λ (b : Text). Progress b y.said (record t { left' = l })) (append-nil y.rest) (came y.rest y.said t [] l y.progress taken)

  pub heard : Reads t.left' l c c' → Stands c' (record t { left' = l })
  heard (inl (inl r)) = received r.0 r.2 r.3
  heard (inl (inr none)) = is_over none.end c' (record t { left' = l }) none.ended (lacks none.end none.sends)
  heard (inr r) =
      subst (λ (k : Shown). Stands k (record t { left' = l })) (sym r.2)
      (still_open c.phase y.rest y.said (record t { left' = l }) (with_finished c) refl y.holds (none_came r.0) y.told (λ done. r.1))

  pub not_heard : Consumes t.left' l [] → Serves ReadFailed (record t { left' = l })
  not_heard taken = broken y.rest y.said (record t { left' = l }) (none_came taken) x.cut x.before_is

-- ---- before the first turn

pub at_first : (settings : Settings) (c : Shown) (l h : Option Text) (s : State) → c ≡ begun
    → Stands c (record { settings = settings; left = l; left' = l; held = h; held' = h; state = s; state' = s })
at_first settings c l h s e =
    subst (λ (k : Shown). Stands k (record { settings = settings; left = l; left' = l; held = h; held' = h; state = s; state' = s })) (sym e)
    (record { rest = []; said = []; progress = starts settings l h s; holds = (refl, refl, refl); told = refl; at_end = λ done. absurd cc })
