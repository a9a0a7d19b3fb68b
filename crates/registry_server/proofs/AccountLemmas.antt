-- Each call for one connection carries its account on, and adds at most one request that was answered.
use Rattle.std.proofs.Common.{◌≡◌, ℕ, ◌⊎◌, inl, inr, Bool, true, false, not, List, [], ◌∷◌, ◌++◌, take, Some, refl, sym, ap, ◌∙◌, subst, append_assoc, append-nil}
use Rattle.std.specs.Bool.{MatchBool}
use Rattle.oci_types.specs.Text.{Text}
use Rattle.registry_model.specs.Keeping.{State}
use Rattle.registry_model.specs.Doing.{Does}
use Rattle.registry_http.specs.Asking.{ask_in}
use Rattle.registry_http.specs.Ending.{SendsRefusal}
use Rattle.registry_http.specs.Expecting.{IsBefore}
use Rattle.registry_http.specs.ReplyText.{refusal_text}
use Rattle.registry_http.specs.Serving.{reply_for}
use Rattle.registry_http.specs.Spelling.{Front, closes}
use Rattle.registry_http.specs.declared.ending.FramingRefusal.{FramingRefusal}
use Rattle.registry_http.specs.declared.ending.FramingRefusal.TheVariants.{NoBufferMemory}
use Rattle.registry_http.specs.declared.ending.End.{End}
use Rattle.registry_http.specs.declared.ending.End.TheVariants.{Closed, Cut, Refused, ReadFailed, WriteFailed}
use Rattle.registry_http.proofs.RequestLemmas.{before_empty}
use Rattle.registry_conversation.specs.declared.phase.Phase.{Phase}
use Rattle.registry_conversation.specs.declared.phase.Phase.TheVariants.{Head, Body, Ended}
use Rattle.registry_conversation.specs.declared.phase.Step.{Step}
use Rattle.registry_conversation.specs.declared.phase.Step.TheVariants as step
use Rattle.registry_conversation.specs.Shown.{Shown, listens, listens_as, with_more, with_finished, with_going}
use Rattle.registry_conversation.specs.Holding.{HoldsAs, Holds}
use Rattle.registry_conversation.specs.Stepping.{AnswersFirst, WaitsForMore, PutsInterim, PutsPart, replying, refusing, continuing, EndsAs, ActsAs, Receives}
use Rattle.registry_conversation.specs.ConversationEvents.{Event, came, ended, acted, sent, Happens, heard_if}
use Rattle.registry_conversation.proofs.HoldingLemmas.{said_there}
use Rattle.registry_server.specs.Accounts.{Replied, items_of, SoFar, EndsSo, AccountsAs}
use Rattle.registry_server.specs.Accounts.{replying as in_reply, refusing as in_refusal, continuing as in_continue}
use Rattle.registry_server.proofs.ProgressLemmas.{Progress, starts, more_came, put_first, at_end, refused, no_memory, stops, answered, closed}
use Rattle.registry_model.specs.declared.settings.Settings.{Settings}

put_on : (out going going' text : Text) → going' ≡ going ++ text → out ++ going' ≡ (out ++ going) ++ text
put_on out going going' text e = ap (λ (x : Text). out ++ x) e ∙ sym (append_assoc out going text)

-- ---- one call

heard_on_acted : (f : Bool) (found : Step) (es : List Event) → heard_if f (acted found ∷ es) ≡ heard_if f es
heard_on_acted true found es = refl
heard_on_acted false found es = refl

heard_on_sent : (f : Bool) (text : Text) (es : List Event) → heard_if f (sent text ∷ es) ≡ heard_if f es
heard_on_sent true text es = refl
heard_on_sent false text es = refl

heard_on_ended : (f : Bool) (es : List Event) → heard_if f (ended ∷ es) ≡ []
heard_on_ended true es = refl
heard_on_ended false es = refl

heard_done : (f : Bool) (es : List Event) → f ≡ true → heard_if f es ≡ []
heard_done true es e = refl
heard_done false es e = absurd cc

heard_on_came : (f : Bool) (bytes : Text) (es : List Event) → f ≡ false → heard_if f (came bytes ∷ es) ≡ bytes ++ heard_if f es
heard_on_came true bytes es e = absurd cc
heard_on_came false bytes es e = refl

heard_past : (f : Bool) (bytes : Text) (es : List Event) → not f ≡ false → heard_if f (came bytes ∷ es) ≡ heard_if f es
heard_past true bytes es e = refl
heard_past false bytes es e = absurd cc

unfinished : (f : Bool) → not f ≡ true → f ≡ false
unfinished true e = absurd cc
unfinished false e = refl

-- what goes out by it
abbrev pub went_by : Event → Text
went_by (came bytes) = []
went_by ended = []
went_by (acted found) = []
went_by (sent text) = text

module _ (settings : Settings) where
  -- what was done so far, where later is still to come of all bytes that come
  pub record Open (all later out : Text) (rs : List Replied) (c : Shown) : Type 0 where
    pub rest : Text
    pub said : Text
    pub progress : Progress settings all later rest said out rs
    pub holds : Holds settings c rest said

  abbrev pub StandsAs : Phase → Text → Text → Text → List Replied → Shown → Type 0
  StandsAs Head all later out rs c = Open all later out rs c
  StandsAs (Body part) all later out rs c = Open all later out rs c
  StandsAs (Ended e) all later out rs c = EndsSo settings e all out rs

  abbrev pub Stands : Text → Text → Text → List Replied → Shown → Type 0
  Stands all later out rs c = StandsAs c.phase all later out rs c

  still_open : (p : Phase) (all later out rest said : Text) (rs : List Replied) (c : Shown) → c.phase ≡ p → HoldsAs settings p c.taken c.unread rest said
      → Progress settings all later rest said out rs → StandsAs p all later out rs c
  still_open Head all later out rest said rs c e h q = record { rest = rest; said = said; progress = q; holds = subst (λ (x : Phase). HoldsAs settings x c.taken c.unread rest said) (sym e) h }
  still_open (Body part) all later out rest said rs c e h q =
      record { rest = rest; said = said; progress = q; holds = subst (λ (x : Phase). HoldsAs settings x c.taken c.unread rest said) (sym e) h }
  still_open (Ended e) all later out rest said rs c same h q = absurd h

  is_over : (e : End) (all later out : Text) (rs : List Replied) (c : Shown) → c.phase ≡ Ended e → EndsSo settings e all out rs → Stands all later out rs c
  is_over e all later out rs c same x = subst (λ (p : Phase). StandsAs p all later out rs c) (sym same) x

  -- a conversation stands so before what is still to be heard
  abbrev pub StandsBefore : List Event → Text → Text → List Replied → Shown → Type 0
  StandsBefore es all out rs c = Stands all (heard_if c.finished es) (out ++ c.going) rs c

  -- ---- bytes came

  module _ (all later b before out going going' : Text) (rs : List Replied) (p : Progress settings all later b before (out ++ going) rs)
      (is : (before ≡ []) ⊎ IsBefore settings (b ++ later) before) where
    lacking : (e : End) (r : FramingRefusal) → r ≡ NoBufferMemory → SendsRefusal e r (Some going) (Some going') → EndsSo settings e all (out ++ going') rs
    lacking Closed r none x = absurd x
    lacking Cut r none x = absurd x
    lacking (Refused q) r none x =
        no_memory settings all later b before (out ++ going) rs p q (out ++ going') is (x.0 ∙ none)
        (put_on out going going' (refusal_text q) (x.1 ∙ ap (λ (k : FramingRefusal). going ++ refusal_text k) (sym x.0)))
    lacking ReadFailed r none x = absurd x
    lacking (WriteFailed n) r none x =
        stops settings all later b before (out ++ going) rs p (refusal_text r) n (out ++ going') rs (in_refusal r refl (inr (none, is)) refl)
        x.0 (put_on out going going' (take n (refusal_text r)) x.1)

  kept_on : (bytes : Text) (es : List Event) (all out : Text) (rs : List Replied) (c c' : Shown) → c.finished ≡ false → Receives bytes c c'
      → Open all (heard_if c.finished (came bytes ∷ es)) (out ++ c.going) rs c → StandsBefore es all out rs c'
  kept_on bytes es all out rs c c' open_still (inl e) y =
      subst (λ (k : Shown). StandsBefore es all out rs k) (sym e.0)
      (still_open c.phase all (heard_if c.finished es) (out ++ c.going) (y.rest ++ bytes) y.said rs (with_more c bytes) refl
      (subst (λ (k : Shown). Holds settings k (y.rest ++ bytes) y.said) e.0 (e.1 settings y.rest y.said y.holds))
      (more_came settings all (heard_if c.finished (came bytes ∷ es)) y.rest y.said (out ++ c.going) rs bytes (heard_if c.finished es) y.progress
      (heard_on_came c.finished bytes es open_still)))
  kept_on bytes es all out rs c c' open_still (inr lacks) y =
      is_over lacks.end all (heard_if c'.finished es) (out ++ c'.going) rs c' lacks.ended
      (lacking all (heard_if c.finished (came bytes ∷ es)) y.rest y.said out c.going c'.going rs y.progress
      (said_there settings c.phase c.taken c.unread y.rest y.said (heard_if c.finished (came bytes ∷ es)) y.holds) lacks.end NoBufferMemory refl lacks.sends)

  -- ---- before the first call, and after the last

  pub at_first : (c : Shown) (all : Text) → c.phase ≡ Head → c.taken ≡ [] → c.unread ≡ [] → c.going ≡ [] → Stands all all ([] ++ c.going) [] c
  at_first c all phase taken unread going =
      subst (λ (o : Text). Stands all all o [] c) (sym going)
      (subst (λ (p : Phase). StandsAs p all all [] [] c) (sym phase)
      (record {
        rest = [];
        said = [];
        progress = starts settings all;
        holds = subst (λ (p : Phase). HoldsAs settings p c.taken c.unread [] []) (sym phase) (taken, unread, refl);
      }))

  so_far : (all out : Text) (rs : List Replied) (c : Shown) → Open all [] out rs c → SoFar settings all out rs c
  so_far all out rs c y = record {
    rest = y.rest;
    said = y.said;
    front = subst (λ (b : Text). Front settings b (items_of rs) y.rest) (sym (y.progress.whole ∙ append-nil y.progress.read)) y.progress.front;
    put = y.progress.put;
    holds = y.holds;
  }

  pub accounts : (p : Phase) (all out : Text) (rs : List Replied) (c : Shown) → StandsAs p all [] out rs c → AccountsAs settings p all out rs c
  accounts Head all out rs c y = so_far all out rs c y
  accounts (Body part) all out rs c y = so_far all out rs c y
  accounts (Ended e) all out rs c y = y

  -- ---- what the service did

  pub data Adds (s s' : State) : List Replied → Type 0 where
    nothing : s' ≡ s → Adds s s' []
    one : (r : Replied) → Does s (ask_in settings r.item.head r.item.body) r.answer s' → Adds s s' (r ∷ [])

  pub record Next (all later out : Text) (rs : List Replied) (s s' : State) (c : Shown) : Type 0 where
    pub more : List Replied
    pub adds : Adds s s' more
    pub stands : Stands all later out (rs ++ more) c

  idly : (all later out : Text) (rs : List Replied) (s s' : State) (c : Shown) → s' ≡ s → Stands all later out rs c → Next all later out rs s s' c
  idly all later out rs s s' c same x = record {
    more = [];
    adds = nothing same;
    stands = subst (λ (l : List Replied). Stands all later out l c) (sym (append-nil rs)) x;
  }

  -- ---- one turn

  module _ (all later out b before going : Text) (rs : List Replied) (s s' : State) (c : Shown) (p : Progress settings all later b before (out ++ going) rs) where
    was_answered : AnswersFirst settings b before going s s' c → Next all later (out ++ c.going) rs s s' c
    was_answered x = record {
      more = record { item = x.item; answer = x.answer } ∷ [];
      adds = one (record { item = x.item; answer = x.answer }) x.does;
      stands = by_close (closes x.item) refl x.goes_on;
    }
      where
        put : out ++ c.going ≡ (out ++ going) ++ reply_for x.item x.answer
        put = put_on out going c.going (reply_for x.item x.answer) x.put

        by_close : (f : Bool) → closes x.item ≡ f → MatchBool f (c.phase ≡ Ended Closed) (Holds settings c x.rest [])
            → Stands all later (out ++ c.going) (rs ++ record { item = x.item; answer = x.answer } ∷ []) c
        by_close true e ends =
            is_over Closed all later (out ++ c.going) (rs ++ record { item = x.item; answer = x.answer } ∷ []) c ends
            (closed settings all later b before (out ++ going) rs p x.item x.rest x.begins x.request x.before_is x.answer (out ++ c.going) put e)
        by_close false e holds =
            still_open c.phase all later (out ++ c.going) x.rest [] (rs ++ record { item = x.item; answer = x.answer } ∷ []) c refl holds
            (answered settings all later b before (out ++ going) rs p x.item x.rest x.begins x.request x.before_is x.answer (out ++ c.going) put e)

    -- nothing is put
    nothing_put : c.going ≡ going → Progress settings all later b before (out ++ c.going) rs
    nothing_put e = subst (λ (g : Text). Progress settings all later b before (out ++ g) rs) (sym e) p

    -- what stands before the body is put
    interim : PutsInterim settings b before going s s' c → Next all later (out ++ c.going) rs s s' c
    interim x =
        idly all later (out ++ c.going) rs s s' c x.same
        (still_open c.phase all later (out ++ c.going) b x.first rs c refl x.holds
        (subst (λ (o : Text). Progress settings all later b x.first o rs) (sym (put_on out going c.going x.first x.put))
        (subst (λ (y : Text). Progress settings all later b (y ++ x.first) ((out ++ going) ++ x.first) rs) x.unsaid
        (put_first settings all later b before (out ++ going) rs p x.first))))

    waits : WaitsForMore settings b before going s s' c → Next all later (out ++ c.going) rs s s' c
    waits x = idly all later (out ++ c.going) rs s s' c x.same (still_open c.phase all later (out ++ c.going) b before rs c refl x.holds (nothing_put x.put))

    over : (e : End) (more : List Replied) → c.phase ≡ Ended e → Adds s s' more → EndsSo settings e all (out ++ c.going) (rs ++ more) → Next all later (out ++ c.going) rs s s' c
    over e more phase adds x = record { more = more; adds = adds; stands = is_over e all later (out ++ c.going) (rs ++ more) c phase x }

    idly_over : (e : End) → c.phase ≡ Ended e → s' ≡ s → EndsSo settings e all (out ++ c.going) rs → Next all later (out ++ c.going) rs s s' c
    idly_over e phase same x = idly all later (out ++ c.going) rs s s' c same (is_over e all later (out ++ c.going) rs c phase x)

    puts_part : (n : ℕ) → c.phase ≡ Ended (WriteFailed n) → PutsPart settings n b before going s s' c.going → Next all later (out ++ c.going) rs s s' c
    puts_part n phase (replying i rest a request begins is does short put) =
        over (WriteFailed n) (record { item = i; answer = a } ∷ []) phase (one (record { item = i; answer = a }) does)
        (stops settings all later b before (out ++ going) rs p (reply_for i a) n (out ++ c.going) (rs ++ record { item = i; answer = a } ∷ [])
        (in_reply i a (rest ++ later) (ap (λ (y : Text). y ++ later) begins ∙ append_assoc _ rest later) request is refl refl)
        short (put_on out going c.going (take n (reply_for i a)) put))
    puts_part n phase (refusing r bad short put same) =
        idly_over (WriteFailed n) phase same
        (stops settings all later b before (out ++ going) rs p (refusal_text r) n (out ++ c.going) rs (in_refusal r refl (inl (bad later)) refl)
        short (put_on out going c.going (take n (refusal_text r)) put))
    puts_part n phase (continuing text none is short put same) =
        idly_over (WriteFailed n) phase same
        (stops settings all later b before (out ++ going) rs p text n (out ++ c.going) rs (in_continue none (is later) refl)
        short (put_on out going c.going (take n text) put))

    ends : (e : End) → c.phase ≡ Ended e → (c.finished ≡ true → later ≡ []) → EndsAs settings e b before going s s' c → Next all later (out ++ c.going) rs s s' c
    ends Closed phase done x =
        idly_over Closed phase x.4
        (at_end settings all later b before (out ++ c.going) rs (nothing_put x.3) Closed (done x.0) x.1 (subst (λ (y : Text). IsBefore settings b y) (sym x.2) (before_empty settings b x.1)) refl)
    ends Cut phase done x =
        idly_over Cut phase x.4 (at_end settings all later b before (out ++ c.going) rs (nothing_put x.3) Cut (done x.0) x.1 x.2 refl)
    ends (Refused r) phase done x =
        idly_over (Refused r) phase x.2
        (inl (refused settings all later b before (out ++ going) rs p r (out ++ c.going) x.0 (put_on out going c.going (refusal_text r) x.1)))
    ends ReadFailed phase done x = absurd x
    ends (WriteFailed n) phase done x = puts_part n phase x

    turn : (found : Step) → (c.finished ≡ true → later ≡ []) → ActsAs settings found b before going s s' c → Next all later (out ++ c.going) rs s s' c
    turn step.Answered done x = was_answered x
    turn step.Interim done x = interim x
    turn step.Waits done x = waits x
    turn (step.Ended e) done x = ends e x.0 done x.1

  abbrev pub NextBefore : List Event → Text → Text → List Replied → State → State → Shown → Type 0
  NextBefore es all out rs s s' c = Next all (heard_if c.finished es) (out ++ c.going) rs s s' c

  acts_on : (found : Step) (es : List Event) (all out : Text) (rs : List Replied) (s s' : State) (c c' : Shown) → Happens settings (acted found) c s c' s'
      → StandsBefore (acted found ∷ es) all out rs c → NextBefore es all out rs s s' c'
  acts_on found es all out rs s s' c c' x stands = by_phase c.phase refl stands
    where
      later : heard_if c.finished (acted found ∷ es) ≡ heard_if c'.finished es
      later = heard_on_acted c.finished found es ∙ ap (λ (f : Bool). heard_if f es) (sym x.1)

      goes_on : Open all (heard_if c.finished (acted found ∷ es)) (out ++ c.going) rs c → NextBefore es all out rs s s' c'
      goes_on y =
          let a = x.2 y.rest y.said y.holds in
          turn all (heard_if c'.finished es) out y.rest y.said c.going rs s s' c'
          (subst (λ (l : Text). Progress settings all l y.rest y.said (out ++ c.going) rs) later y.progress)
          found (λ done. heard_done c'.finished es done) a

      by_phase : (p : Phase) → c.phase ≡ p → StandsAs p all (heard_if c.finished (acted found ∷ es)) (out ++ c.going) rs c → NextBefore es all out rs s s' c'
      by_phase Head e y = goes_on y
      by_phase (Body part) e y = goes_on y
      by_phase (Ended end) e y =
          let same = x.0 end e in
          idly all (heard_if c'.finished es) (out ++ c'.going) rs s s' c' same.2
          (is_over end all (heard_if c'.finished es) (out ++ c'.going) rs c' (ap (λ (k : Shown). k.phase) same.1 ∙ e)
          (subst (λ (k : Shown). EndsSo settings end all (out ++ k.going) rs) (sym same.1) y))

  sent_on : (text : Text) (es : List Event) (all out : Text) (rs : List Replied) (s s' : State) (c c' : Shown) → Happens settings (sent text) c s c' s'
      → StandsBefore (sent text ∷ es) all out rs c → StandsBefore es all (out ++ text) rs c'
  sent_on text es all out rs s s' c c' x stands =
      subst (λ (k : Shown). Stands all (heard_if k.finished es) ((out ++ text) ++ c'.going) rs k) (sym x.1)
      (subst (λ (l : Text). StandsAs c.phase all l ((out ++ text) ++ c'.going) rs (with_going c c'.going)) (heard_on_sent c.finished text es)
      (subst (λ (o : Text). StandsAs c.phase all (heard_if c.finished (sent text ∷ es)) o rs (with_going c c'.going)) all_out
      (by_phase c.phase refl stands)))
    where
      all_out : out ++ c.going ≡ (out ++ text) ++ c'.going
      all_out = put_on out text c.going c'.going x.0

      by_phase : (p : Phase) → c.phase ≡ p → StandsAs p all (heard_if c.finished (sent text ∷ es)) (out ++ c.going) rs c
          → StandsAs p all (heard_if c.finished (sent text ∷ es)) (out ++ c.going) rs (with_going c c'.going)
      by_phase Head e y = record { rest = y.rest; said = y.said; progress = y.progress; holds = y.holds }
      by_phase (Body part) e y = record { rest = y.rest; said = y.said; progress = y.progress; holds = y.holds }
      by_phase (Ended end) e y = y

  ended_on : (es : List Event) (all out : Text) (rs : List Replied) (s s' : State) (c c' : Shown) → Happens settings ended c s c' s'
      → StandsBefore (ended ∷ es) all out rs c → StandsBefore es all out rs c'
  ended_on es all out rs s s' c c' x stands =
      subst (λ (k : Shown). StandsBefore es all out rs k) (sym x.0)
      (subst (λ (l : Text). StandsAs c.phase all l (out ++ c.going) rs (with_finished c)) (heard_on_ended c.finished es)
      (by_phase c.phase refl stands))
    where
      by_phase : (p : Phase) → c.phase ≡ p → StandsAs p all (heard_if c.finished (ended ∷ es)) (out ++ c.going) rs c
          → StandsAs p all (heard_if c.finished (ended ∷ es)) (out ++ c.going) rs (with_finished c)
      by_phase Head e y = record { rest = y.rest; said = y.said; progress = y.progress; holds = y.holds }
      by_phase (Body part) e y = record { rest = y.rest; said = y.said; progress = y.progress; holds = y.holds }
      by_phase (Ended end) e y = y

  came_on : (bytes : Text) (es : List Event) (all out : Text) (rs : List Replied) (s s' : State) (c c' : Shown) → Happens settings (came bytes) c s c' s'
      → StandsBefore (came bytes ∷ es) all out rs c → StandsBefore es all out rs c'
  came_on bytes es all out rs s s' c c' x stands = by_phase c.phase refl stands
    where
      past : (p : Phase) → c.phase ≡ p → listens c ≡ false → StandsAs p all (heard_if c.finished es) (out ++ c.going) rs c → StandsBefore es all out rs c'
      past p e deaf y =
          subst (λ (k : Shown). StandsBefore es all out rs k) (sym (x.0 deaf))
          (subst (λ (q : Phase). StandsAs q all (heard_if c.finished es) (out ++ c.going) rs c) (sym e) y)

      by_flag : (p : Phase) (f : Bool) → c.phase ≡ p → not c.finished ≡ f → listens c ≡ f
          → (Open all (heard_if c.finished es) (out ++ c.going) rs c → StandsAs p all (heard_if c.finished es) (out ++ c.going) rs c)
          → Open all (heard_if c.finished (came bytes ∷ es)) (out ++ c.going) rs c → StandsBefore es all out rs c'
      by_flag p true e f hears back y = kept_on bytes es all out rs c c' (unfinished c.finished f) (x.1 hears) y
      by_flag p false e f hears back y =
          past p e hears (back (subst (λ (l : Text). Open all l (out ++ c.going) rs c) (heard_past c.finished bytes es f) y))

      by_phase : (p : Phase) → c.phase ≡ p → StandsAs p all (heard_if c.finished (came bytes ∷ es)) (out ++ c.going) rs c → StandsBefore es all out rs c'
      by_phase Head e y = by_flag Head (not c.finished) e refl (ap (λ (q : Phase). listens_as q c.finished) e) (λ z. z) y
      by_phase (Body part) e y = by_flag (Body part) (not c.finished) e refl (ap (λ (q : Phase). listens_as q c.finished) e) (λ z. z) y
      by_phase (Ended end) e y = past (Ended end) e (ap (λ (q : Phase). listens_as q c.finished) e) y

  nothing_went : (es : List Event) (all out : Text) (rs : List Replied) (s s' : State) (c : Shown) → NextBefore es all out rs s s' c → NextBefore es all (out ++ []) rs s s' c
  nothing_went es all out rs s s' c x = subst (λ (o : Text). NextBefore es all o rs s s' c) (sym (append-nil out)) x

  pub call_on : (call : Event) (es : List Event) (all out : Text) (rs : List Replied) (s s' : State) (c c' : Shown) → Happens settings call c s c' s'
      → StandsBefore (call ∷ es) all out rs c → NextBefore es all (out ++ went_by call) rs s s' c'
  call_on (came bytes) es all out rs s s' c c' x stands =
      nothing_went es all out rs s s' c' (idly all (heard_if c'.finished es) (out ++ c'.going) rs s s' c' x.2 (came_on bytes es all out rs s s' c c' x stands))
  call_on ended es all out rs s s' c c' x stands =
      nothing_went es all out rs s s' c' (idly all (heard_if c'.finished es) (out ++ c'.going) rs s s' c' x.1 (ended_on es all out rs s s' c c' x stands))
  call_on (acted found) es all out rs s s' c c' x stands =
      nothing_went es all out rs s s' c' (acts_on found es all out rs s s' c c' x stands)
  call_on (sent text) es all out rs s s' c c' x stands =
      idly all (heard_if c'.finished es) ((out ++ text) ++ c'.going) rs s s' c' x.2 (sent_on text es all out rs s s' c c' x stands)
