-- Any list of a conversation's calls.
use Rattle.std.proofs.Common.{◌≡◌, ℕ, inl, inr, Bool, true, false, List, [], ◌∷◌, ◌++◌, take, Some, refl, sym, ap, ◌∙◌, subst, append_assoc, append-nil}
use Rattle.std.specs.Bool.{MatchBool}
use Rattle.oci_types.specs.Text.{Text}
use Rattle.registry_model.specs.Keeping.{State}
use Rattle.registry_http.specs.Expecting.{IsBefore}
use Rattle.registry_http.specs.ReplyText.{refusal_text}
use Rattle.registry_http.specs.Serving.{reply_for, joined, Traffic, Serves}
use Rattle.registry_http.specs.Spelling.{closes}
use Rattle.registry_http.specs.declared.ending.FramingRefusal.TheVariants.{NoBufferMemory}
use Rattle.registry_http.specs.declared.ending.End.{End}
use Rattle.registry_http.specs.declared.ending.End.TheVariants.{Closed, Cut, Refused, ReadFailed, WriteFailed}
use Rattle.registry_http.proofs.RequestLemmas.{before_empty}
use Rattle.registry_http.proofs.ConnectionProgress.{Progress, starts, came as more_came, at_end, refused, refuse_serves, memory_serves, answered, closed, reply_cut, continue_cut}
use Rattle.registry_conversation.specs.declared.phase.Phase.{Phase}
use Rattle.registry_conversation.specs.declared.phase.Phase.TheVariants.{Head, Body, Ended}
use Rattle.registry_conversation.specs.declared.phase.Step.{Step}
use Rattle.registry_conversation.specs.declared.phase.Step.TheVariants as step
use Rattle.registry_conversation.specs.Shown.{Shown, begun, listens, listens_as, with_more, with_finished, with_going}
use Rattle.registry_conversation.specs.Holding.{HoldsAs, Holds}
use Rattle.registry_conversation.specs.Stepping.{AnswersFirst, WaitsForMore, PutsInterim, PutsPart, replying, refusing, continuing, EndsAs, ActsAs, Receives}
use Rattle.registry_conversation.specs.ConversationEvents.{Event, came, ended, acted, sent, Happens, Passes, heard_if, heard, went, traffic, ServedTo, SoFar, AccountsAs, Accounts}
use Rattle.registry_conversation.proofs.EndLemmas.{off_end, off_refused, off_write, told}
use Rattle.registry_conversation.proofs.HoldingLemmas.{said_there}
use Rattle.registry_http.specs.Ending.{SendsRefusal}
use Rattle.registry_http.specs.Spelling.{Front}
use Rattle.registry_http.specs.declared.ending.FramingRefusal.{FramingRefusal}
use Rattle.std.specs.Prelude.{not}
use Rattle.registry_model.specs.declared.settings.Settings.{Settings}

put_on : (out going going' text : Text) → going' ≡ going ++ text → out ++ going' ≡ (out ++ going) ++ text
put_on out going going' text e = ap (λ (x : Text). out ++ x) e ∙ sym (append_assoc out going text)

-- ---- one event

heard_on_acted : (f : Bool) (found : Step) (es : List Event) → heard_if f (acted found ∷ es) ≡ heard_if f es
heard_on_acted true found es = refl
heard_on_acted false found es = refl

heard_on_sent : (f : Bool) (text : Text) (es : List Event) → heard_if f (sent text ∷ es) ≡ heard_if f es
heard_on_sent true text es = refl
heard_on_sent false text es = refl

heard_on_ended : (f : Bool) (es : List Event) → heard_if f (ended ∷ es) ≡ []
heard_on_ended true es = refl
heard_on_ended false es = refl

heard_done : (f : Bool) (es : List Event) → f ≡ true → heard_if f es ≡ []
heard_done true es e = refl
heard_done false es e = absurd cc

-- ---- bytes came

heard_on_came : (f : Bool) (bytes : Text) (es : List Event) → f ≡ false → heard_if f (came bytes ∷ es) ≡ bytes ++ heard_if f es
heard_on_came true bytes es e = absurd cc
heard_on_came false bytes es e = refl

heard_past : (f : Bool) (bytes : Text) (es : List Event) → not f ≡ false → heard_if f (came bytes ∷ es) ≡ heard_if f es
heard_past true bytes es e = refl
heard_past false bytes es e = absurd cc

unfinished : (f : Bool) → not f ≡ true → f ≡ false
unfinished true e = absurd cc
unfinished false e = refl

sends_on : (e : End) (r : FramingRefusal) (out going going' : Text) → SendsRefusal e r (Some going) (Some going') → SendsRefusal e r (Some (out ++ going)) (Some (out ++ going'))
sends_on Closed r out going going' x = absurd x
sends_on Cut r out going going' x = absurd x
sends_on (Refused q) r out going going' x = (x.0, put_on out going going' (refusal_text r) x.1)
sends_on ReadFailed r out going going' x = absurd x
sends_on (WriteFailed n) r out going going' x = (x.0, put_on out going going' (take n (refusal_text r)) x.1)

-- ---- all events

heard_none : (f : Bool) → heard_if f [] ≡ []
heard_none true = refl
heard_none false = refl

module _ (settings : Settings) where
  -- what is still to come is later
  abbrev on_way : Text → Text → Text → State → State → Traffic
  on_way all later out s s' = record (traffic settings all out s s') { left' = Some later }

  -- what was done so far, where later is still to come of all bytes that come
  record Open (all later out : Text) (s s' : State) (c : Shown) : Type 0 where
    rest : Text
    said : Text
    progress : Progress rest said (on_way all later out s s')
    holds : Holds settings c rest said

  abbrev StandsAs : Phase → Text → Text → Text → State → State → Shown → Type 0
  StandsAs Head all later out s s' c = Open all later out s s' c
  StandsAs (Body part) all later out s s' c = Open all later out s s' c
  StandsAs (Ended e) all later out s s' c = ServedTo e (traffic settings all out s s')

  abbrev Stands : Text → Text → Text → State → State → Shown → Type 0
  Stands all later out s s' c = StandsAs c.phase all later out s s' c

  still_open : (p : Phase) (all later out rest said : Text) (s s' : State) (c : Shown) → c.phase ≡ p → HoldsAs settings p c.taken c.unread rest said
      → Progress rest said (on_way all later out s s') → StandsAs p all later out s s' c
  still_open Head all later out rest said s s' c e h q = record { rest = rest; said = said; progress = q; holds = subst (λ (x : Phase). HoldsAs settings x c.taken c.unread rest said) (sym e) h }
  still_open (Body part) all later out rest said s s' c e h q =
      record { rest = rest; said = said; progress = q; holds = subst (λ (x : Phase). HoldsAs settings x c.taken c.unread rest said) (sym e) h }
  still_open (Ended e) all later out rest said s s' c same h q = absurd h

  is_over : (e : End) (all later out : Text) (s s' : State) (c : Shown) → c.phase ≡ Ended e → ServedTo e (traffic settings all out s s')
      → Stands all later out s s' c
  is_over e all later out s s' c same x = subst (λ (p : Phase). StandsAs p all later out s s' c) (sym same) x

  -- ---- one turn

  -- what is put before the body
  first_on : (all later out rest said first going : Text) (s s' : State) → Progress rest said (on_way all later (out ++ going) s s')
      → Progress rest (said ++ first) (on_way all later (out ++ (going ++ first)) s s')
  first_on all later out rest said first going s s' p = record {
    read = p.read;
    items = p.items;
    texts = p.texts;
    front = p.front;
    consumed = p.consumed;
    run = p.run;
    written = put_on out going (going ++ first) first refl ∙ ap (λ (x : Text). x ++ first) p.written ∙ append_assoc (joined p.texts) said first;
  }

  module _ (all later out b before going : Text) (s0 s s' : State) (c : Shown) (p : Progress b before (on_way all later (out ++ going) s0 s)) where
    was_answered : AnswersFirst settings b before going s s' c → Stands all later (out ++ c.going) s0 s' c
    was_answered x = by_close (closes x.item) refl x.goes_on
      where
        put : out ++ c.going ≡ (out ++ going) ++ reply_for x.item x.answer
        put = put_on out going c.going (reply_for x.item x.answer) x.put

        by_close : (f : Bool) → closes x.item ≡ f → MatchBool f (c.phase ≡ Ended Closed) (Holds settings c x.rest []) → Stands all later (out ++ c.going) s0 s' c
        by_close true e ends =
            is_over Closed all later (out ++ c.going) s0 s' c ends
            (off_end Closed (on_way all later (out ++ c.going) s0 s') (Some []) (closed b before (on_way all later (out ++ going) s0 s) p x.item x.rest x.begins x.request x.before_is x.answer s' x.does (Some (out ++ c.going)) e put))
        by_close false e holds =
            still_open c.phase all later (out ++ c.going) x.rest [] s0 s' c refl holds
            (answered b before (on_way all later (out ++ going) s0 s) p x.item x.rest x.begins x.request x.before_is x.answer s' x.does (Some (out ++ c.going)) e put)

    -- nothing is put, and the service is left alone
    nothing_put : c.going ≡ going → s' ≡ s → Progress b before (on_way all later (out ++ c.going) s0 s')
    nothing_put e same =
        subst (λ (g : Text). Progress b before (on_way all later (out ++ g) s0 s')) (sym e)
        (subst (λ (t : State). Progress b before (on_way all later (out ++ going) s0 t)) (sym same) p)

    -- what stands before the body is put
    interim : PutsInterim settings b before going s s' c → Stands all later (out ++ c.going) s0 s' c
    interim x =
        still_open c.phase all later (out ++ c.going) b x.first s0 s' c refl x.holds
        (subst (λ (t : State). Progress b x.first (on_way all later (out ++ c.going) s0 t)) (sym x.same)
        (subst (λ (g : Text). Progress b x.first (on_way all later (out ++ g) s0 s)) (sym x.put)
        (subst (λ (y : Text). Progress b (y ++ x.first) (on_way all later (out ++ (going ++ x.first)) s0 s)) x.unsaid
        (first_on all later out b before x.first going s0 s p))))

    waits : WaitsForMore settings b before going s s' c → Stands all later (out ++ c.going) s0 s' c
    waits x = still_open c.phase all later (out ++ c.going) b before s0 s' c refl x.holds (nothing_put x.put x.same)

    puts_part : (n : ℕ) → PutsPart settings n b before going s s' c.going → Serves (WriteFailed n) (on_way all later (out ++ c.going) s0 s')
    puts_part n (replying i rest a request begins is does short put) =
        reply_cut b before (on_way all later (out ++ going) s0 s) p i rest begins request is a s' does (Some (out ++ c.going)) n short
        (put_on out going c.going (take n (reply_for i a)) put)
    puts_part n (refusing r bad short put same) =
        subst (λ (t : State). Serves (WriteFailed n) (on_way all later (out ++ c.going) s0 t)) (sym same)
        (refuse_serves b before (on_way all later (out ++ going) s0 s) p (WriteFailed n) r (Some (out ++ c.going)) bad
        (short, put_on out going c.going (take n (refusal_text r)) put))
    puts_part n (continuing text none is short put same) =
        subst (λ (t : State). Serves (WriteFailed n) (on_way all later (out ++ c.going) s0 t)) (sym same)
        (continue_cut b (on_way all later (out ++ going) s0 s) (subst (λ (x : Text). Progress b x (on_way all later (out ++ going) s0 s)) none p)
        text (Some (out ++ c.going)) n is short (put_on out going c.going (take n text) put))

    ends : (e : End) → (c.finished ≡ true → later ≡ []) → EndsAs settings e b before going s s' c → ServedTo e (traffic settings all (out ++ c.going) s0 s')
    ends Closed done x =
        off_end Closed (on_way all later (out ++ c.going) s0 s') (Some [])
        (at_end b before (on_way all later (out ++ c.going) s0 s') (nothing_put x.3 x.4) Closed (done x.0) x.1
        (subst (λ (y : Text). IsBefore settings b y) (sym x.2) (before_empty settings b x.1)) refl)
    ends Cut done x =
        off_end Cut (on_way all later (out ++ c.going) s0 s') (Some [])
        (at_end b before (on_way all later (out ++ c.going) s0 s') (nothing_put x.3 x.4) Cut (done x.0) x.1 x.2 refl)
    ends (Refused r) done x =
        off_refused r (on_way all later (out ++ c.going) s0 s') (Some [])
        (subst (λ (t : State). Serves (Refused r) (on_way all later (out ++ c.going) s0 t)) (sym x.2)
        (refused b before (on_way all later (out ++ going) s0 s) p r (Some (out ++ c.going)) x.0 (put_on out going c.going (refusal_text r) x.1)))
    ends ReadFailed done x = absurd x
    ends (WriteFailed n) done x = off_write n (on_way all later (out ++ c.going) s0 s') (Some []) (puts_part n x)

    turn : (found : Step) → (c.finished ≡ true → later ≡ []) → ActsAs settings found b before going s s' c → Stands all later (out ++ c.going) s0 s' c
    turn step.Answered done x = was_answered x
    turn step.Interim done x = interim x
    turn step.Waits done x = waits x
    turn (step.Ended e) done x = is_over e all later (out ++ c.going) s0 s' c x.0 (ends e done x.1)

  -- a conversation stands so before what is still to be heard
  abbrev StandsBefore : List Event → Text → Text → State → State → Shown → Type 0
  StandsBefore es all out s s' c = Stands all (heard_if c.finished es) (out ++ c.going) s s' c

  acts_on : (found : Step) (es : List Event) (all out : Text) (s0 s s' : State) (c c' : Shown) → Happens settings (acted found) c s c' s'
      → StandsBefore (acted found ∷ es) all out s0 s c → StandsBefore es all out s0 s' c'
  acts_on found es all out s0 s s' c c' x stands = by_phase c.phase refl stands
    where
      later : heard_if c.finished (acted found ∷ es) ≡ heard_if c'.finished es
      later = heard_on_acted c.finished found es ∙ ap (λ (f : Bool). heard_if f es) (sym x.1)

      goes_on : Open all (heard_if c.finished (acted found ∷ es)) (out ++ c.going) s0 s c → StandsBefore es all out s0 s' c'
      goes_on y =
          let a = x.2 y.rest y.said y.holds in
          turn all (heard_if c'.finished es) out y.rest y.said c.going s0 s s' c'
          (subst (λ (l : Text). Progress y.rest y.said (on_way all l (out ++ c.going) s0 s)) later y.progress)
          found (λ done. heard_done c'.finished es done) a

      by_phase : (p : Phase) → c.phase ≡ p → StandsAs p all (heard_if c.finished (acted found ∷ es)) (out ++ c.going) s0 s c → StandsBefore es all out s0 s' c'
      by_phase Head e y = goes_on y
      by_phase (Body part) e y = goes_on y
      by_phase (Ended end) e y =
          let same = x.0 end e in
          is_over end all (heard_if c'.finished es) (out ++ c'.going) s0 s' c' (ap (λ (k : Shown). k.phase) same.1 ∙ e)
          (subst (λ (k : Shown). ServedTo end (traffic settings all (out ++ k.going) s0 s')) (sym same.1)
          (subst (λ (t : State). ServedTo end (traffic settings all (out ++ c.going) s0 t)) (sym same.2) y))

  sent_on : (text : Text) (es : List Event) (all out : Text) (s0 s s' : State) (c c' : Shown) → Happens settings (sent text) c s c' s'
      → StandsBefore (sent text ∷ es) all out s0 s c → StandsBefore es all (out ++ text) s0 s' c'
  sent_on text es all out s0 s s' c c' x stands =
      subst (λ (t : State). StandsBefore es all (out ++ text) s0 t c') (sym x.2)
      (subst (λ (k : Shown). Stands all (heard_if k.finished es) ((out ++ text) ++ c'.going) s0 s k) (sym x.1)
      (subst (λ (l : Text). StandsAs c.phase all l ((out ++ text) ++ c'.going) s0 s (with_going c c'.going)) (heard_on_sent c.finished text es)
      (subst (λ (o : Text). StandsAs c.phase all (heard_if c.finished (sent text ∷ es)) o s0 s (with_going c c'.going)) all_out
      (by_phase c.phase refl stands))))
    where
      all_out : out ++ c.going ≡ (out ++ text) ++ c'.going
      all_out = put_on out text c.going c'.going x.0

      by_phase : (p : Phase) → c.phase ≡ p → StandsAs p all (heard_if c.finished (sent text ∷ es)) (out ++ c.going) s0 s c
          → StandsAs p all (heard_if c.finished (sent text ∷ es)) (out ++ c.going) s0 s (with_going c c'.going)
      by_phase Head e y = record { rest = y.rest; said = y.said; progress = y.progress; holds = y.holds }
      by_phase (Body part) e y = record { rest = y.rest; said = y.said; progress = y.progress; holds = y.holds }
      by_phase (Ended end) e y = y

  ended_on : (es : List Event) (all out : Text) (s0 s s' : State) (c c' : Shown) → Happens settings ended c s c' s'
      → StandsBefore (ended ∷ es) all out s0 s c → StandsBefore es all out s0 s' c'
  ended_on es all out s0 s s' c c' x stands =
      subst (λ (t : State). StandsBefore es all out s0 t c') (sym x.1)
      (subst (λ (k : Shown). StandsBefore es all out s0 s k) (sym x.0)
      (subst (λ (l : Text). StandsAs c.phase all l (out ++ c.going) s0 s (with_finished c)) (heard_on_ended c.finished es)
      (by_phase c.phase refl stands)))
    where
      by_phase : (p : Phase) → c.phase ≡ p → StandsAs p all (heard_if c.finished (ended ∷ es)) (out ++ c.going) s0 s c
          → StandsAs p all (heard_if c.finished (ended ∷ es)) (out ++ c.going) s0 s (with_finished c)
      by_phase Head e y = record { rest = y.rest; said = y.said; progress = y.progress; holds = y.holds }
      by_phase (Body part) e y = record { rest = y.rest; said = y.said; progress = y.progress; holds = y.holds }
      by_phase (Ended end) e y = y

  kept_on : (bytes : Text) (es : List Event) (all out : Text) (s0 s : State) (c c' : Shown) → c.finished ≡ false → Receives bytes c c'
      → Open all (heard_if c.finished (came bytes ∷ es)) (out ++ c.going) s0 s c → StandsBefore es all out s0 s c'
  kept_on bytes es all out s0 s c c' open_still (inl e) y =
      subst (λ (k : Shown). StandsBefore es all out s0 s k) (sym e.0)
      (still_open c.phase all (heard_if c.finished es) (out ++ c.going) (y.rest ++ bytes) y.said s0 s (with_more c bytes) refl
      (subst (λ (k : Shown). Holds settings k (y.rest ++ bytes) y.said) e.0 (e.1 settings y.rest y.said y.holds))
      (more_came y.rest y.said (on_way all (heard_if c.finished (came bytes ∷ es)) (out ++ c.going) s0 s) bytes (Some (heard_if c.finished es)) y.progress
      (heard_on_came c.finished bytes es open_still)))
  kept_on bytes es all out s0 s c c' open_still (inr lacks) y =
      is_over lacks.end all (heard_if c'.finished es) (out ++ c'.going) s0 s c' lacks.ended
      (told lacks.end NoBufferMemory (Some c.going) (Some c'.going) (traffic settings all (out ++ c'.going) s0 s) lacks.sends (memory_serves y.rest y.said (on_way all (heard_if c.finished (came bytes ∷ es)) (out ++ c.going) s0 s) y.progress lacks.end NoBufferMemory (Some [])
      (Some (out ++ c'.going)) (λ tail. said_there settings c.phase c.taken c.unread y.rest y.said tail y.holds) refl
      (sends_on lacks.end NoBufferMemory out c.going c'.going lacks.sends)))

  came_on : (bytes : Text) (es : List Event) (all out : Text) (s0 s s' : State) (c c' : Shown) → Happens settings (came bytes) c s c' s'
      → StandsBefore (came bytes ∷ es) all out s0 s c → StandsBefore es all out s0 s' c'
  came_on bytes es all out s0 s s' c c' x stands =
      subst (λ (t : State). StandsBefore es all out s0 t c') (sym x.2) (by_phase c.phase refl stands)
    where
      past : (p : Phase) → c.phase ≡ p → listens c ≡ false → StandsAs p all (heard_if c.finished es) (out ++ c.going) s0 s c → StandsBefore es all out s0 s c'
      past p e deaf y =
          subst (λ (k : Shown). StandsBefore es all out s0 s k) (sym (x.0 deaf))
          (subst (λ (q : Phase). StandsAs q all (heard_if c.finished es) (out ++ c.going) s0 s c) (sym e) y)

      by_flag : (p : Phase) (f : Bool) → c.phase ≡ p → not c.finished ≡ f → listens c ≡ f
          → (Open all (heard_if c.finished es) (out ++ c.going) s0 s c → StandsAs p all (heard_if c.finished es) (out ++ c.going) s0 s c)
          → Open all (heard_if c.finished (came bytes ∷ es)) (out ++ c.going) s0 s c → StandsBefore es all out s0 s c'
      by_flag p true e f hears back y = kept_on bytes es all out s0 s c c' (unfinished c.finished f) (x.1 hears) y
      by_flag p false e f hears back y =
          past p e hears (back (subst (λ (l : Text). Open all l (out ++ c.going) s0 s c) (heard_past c.finished bytes es f) y))

      by_phase : (p : Phase) → c.phase ≡ p → StandsAs p all (heard_if c.finished (came bytes ∷ es)) (out ++ c.going) s0 s c → StandsBefore es all out s0 s c'
      by_phase Head e y = by_flag Head (not c.finished) e refl (ap (λ (q : Phase). listens_as q c.finished) e) (λ z. z) y
      by_phase (Body part) e y = by_flag (Body part) (not c.finished) e refl (ap (λ (q : Phase). listens_as q c.finished) e) (λ z. z) y
      by_phase (Ended end) e y = past (Ended end) e (ap (λ (q : Phase). listens_as q c.finished) e) y

  all_stand : (es : List Event) (all out : Text) (s0 s : State) (c c' : Shown) (s' : State) → StandsBefore es all out s0 s c → Passes settings es c s c' s'
      → Stands all [] ((out ++ went es) ++ c'.going) s0 s' c'
  all_stand [] all out s0 s c c' s' stands x =
      subst (λ (t : State). Stands all [] ((out ++ []) ++ c'.going) s0 t c') (sym x.1)
      (subst (λ (k : Shown). Stands all [] ((out ++ []) ++ k.going) s0 s k) (sym x.0)
      (subst (λ (o : Text). Stands all [] (o ++ c.going) s0 s c) (sym (append-nil out))
      (subst (λ (l : Text). Stands all l (out ++ c.going) s0 s c) (heard_none c.finished) stands)))
  all_stand (came bytes ∷ es) all out s0 s c c' s' stands x =
      all_stand es all out s0 x.1 x.0 c' s' (came_on bytes es all out s0 s x.1 c x.0 x.2 stands) x.3
  all_stand (ended ∷ es) all out s0 s c c' s' stands x =
      all_stand es all out s0 x.1 x.0 c' s' (ended_on es all out s0 s x.1 c x.0 x.2 stands) x.3
  all_stand (acted found ∷ es) all out s0 s c c' s' stands x =
      all_stand es all out s0 x.1 x.0 c' s' (acts_on found es all out s0 s x.1 c x.0 x.2 stands) x.3
  all_stand (sent text ∷ es) all out s0 s c c' s' stands x =
      subst (λ (o : Text). Stands all [] (o ++ c'.going) s0 s' c') (append_assoc out text (went es))
      (all_stand es all (out ++ text) s0 x.1 x.0 c' s' (sent_on text es all out s0 s x.1 c x.0 x.2 stands) x.3)

  so_far : (all out : Text) (s s' : State) (c : Shown) → Open all [] out s s' c → SoFar settings all out s s' c
  so_far all out s s' c y = record {
    items = y.progress.items;
    texts = y.progress.texts;
    rest = y.rest;
    said = y.said;
    front = subst (λ (b : Text). Front settings b y.progress.items y.rest) (sym (y.progress.consumed ∙ append-nil y.progress.read)) y.progress.front;
    run = y.progress.run;
    put = y.progress.written;
    holds = y.holds;
  }

  accounts : (p : Phase) (all out : Text) (s s' : State) (c : Shown) → StandsAs p all [] out s s' c → AccountsAs settings p all out s s' c
  accounts Head all out s s' c y = so_far all out s s' c y
  accounts (Body part) all out s s' c y = so_far all out s s' c y
  accounts (Ended e) all out s s' c y = y

  pub all_account : (es : List Event) (s : State) (c : Shown) (s' : State) → Passes settings es begun s c s' → Accounts settings (heard es) (went es ++ c.going) s s' c
  all_account es s c s' x =
      accounts c.phase (heard es) (went es ++ c.going) s s' c
      (all_stand es (heard es) [] s s begun c s'
      (record { rest = []; said = []; progress = starts settings (Some (heard es)) (Some []) s; holds = (refl, refl, refl) }) x)
