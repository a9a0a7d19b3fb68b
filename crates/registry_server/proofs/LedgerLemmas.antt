-- One ledger explains every connection.
use Rattle.std.proofs.Common.{◌≡◌, ◌≢◌, ℕ, ◌+◌, ◌≤◌, ◌⊎◌, inl, inr, Bool, true, false, if◌then◌else◌, ◌==◌, List, [], ◌∷◌, ◌++◌, map, Option, Some, None, IfSome, refl, sym, ap, ◌∙◌, subst, append_assoc, append-nil, arith, eq-eqb}
use Rattle.std.proofs.lemmas.Bool.{ne_eqb, cases_eq}
use Rattle.std.proofs.lemmas.List.{map-append}
use Rattle.oci_types.specs.Text.{Text}
use Rattle.registry_model.specs.Keeping.{State, Kept, HeldStays, state_of}
use Rattle.registry_model.specs.Runs.{Outcome, Takes, TakesAll}
use Rattle.registry_model.specs.Team.{Step}
use Rattle.registry_model.proofs.RunLaws.{run_says, one_more}
use Rattle.registry_conversation.specs.Shown.{Shown, begun}
use Rattle.registry_conversation.specs.ConversationEvents.{Event as Call, came, ended, acted, sent, heard, heard_if, went}
use Rattle.registry_conversation.specs.Receiving.{Lies, joined}
use Rattle.registry_server.specs.declared.bounds.Bounds.{Bounds}
use Rattle.registry_server.specs.Open.{Open, none, conversation_of, Only, Opens}
use Rattle.registry_server.specs.Accounts.{Replied, AccountsAs}
use Rattle.registry_server.specs.Events.{Event, comes, on, goes, unstages, elsewhere, HappensOn, Happens, Passes, calls_of, Entry, replied, took, step_of, outcome_of, replies_of, OneLedger}
use Rattle.registry_server.proofs.AccountLemmas.{StandsAs, StandsBefore, Adds, nothing, one, NextBefore, went_by, call_on, at_first, accounts}
use Rattle.registry_server.proofs.LyingLemmas.{Calls, Moved, Past, lies_still, moved, past_unstaged}
use Rattle.registry_model.specs.declared.settings.Settings.{Settings}

abbrev entries : ℕ → List Replied → List Entry
entries n [] = []
entries n (r ∷ rs) = replied n r ∷ entries n rs

put_before : (f : Bool) (r : Replied) (ab a b : List Replied) → ab ≡ a ++ b → (if f then r ∷ ab else ab) ≡ (if f then r ∷ a else a) ++ b
put_before true r ab a b e = ap (λ (rs : List Replied). r ∷ rs) e
put_before false r ab a b e = e

replies_on : (n : ℕ) (a b : List Entry) → replies_of n (a ++ b) ≡ replies_of n a ++ replies_of n b
replies_on n [] b = refl
replies_on n (replied m r ∷ a) b = put_before (m == n) r (replies_of n (a ++ b)) (replies_of n a) (replies_of n b) (replies_on n a b)
replies_on n (took step outcome ∷ a) b = replies_on n a b

own_entries : (n : ℕ) (more : List Replied) → replies_of n (entries n more) ≡ more
own_entries n [] = refl
own_entries n (r ∷ more) =
    ap (λ (f : Bool). if f then r ∷ replies_of n (entries n more) else replies_of n (entries n more)) (eq-eqb n n refl)
    ∙ ap (λ (rs : List Replied). r ∷ rs) (own_entries n more)

other_entries : (n m : ℕ) (more : List Replied) → n ≢ m → replies_of m (entries n more) ≡ []
other_entries n m [] ne = refl
other_entries n m (r ∷ more) ne =
    ap (λ (f : Bool). if f then r ∷ replies_of m (entries n more) else replies_of m (entries n more)) (ne_eqb n m ne) ∙ other_entries n m more ne

own_replies : (n : ℕ) (ledger : List Entry) (more : List Replied) → replies_of n (ledger ++ entries n more) ≡ replies_of n ledger ++ more
own_replies n ledger more = replies_on n ledger (entries n more) ∙ ap (λ (rs : List Replied). replies_of n ledger ++ rs) (own_entries n more)

other_replies : (n m : ℕ) (ledger : List Entry) (more : List Replied) → n ≢ m → replies_of m (ledger ++ entries n more) ≡ replies_of m ledger
other_replies n m ledger more ne =
    replies_on m ledger (entries n more) ∙ ap (λ (rs : List Replied). replies_of m ledger ++ rs) (other_entries n m more ne) ∙ append-nil (replies_of m ledger)

took_replies : (m : ℕ) (ledger : List Entry) (step : Step) (outcome : Outcome) → replies_of m (ledger ++ took step outcome ∷ []) ≡ replies_of m ledger
took_replies m ledger step outcome = replies_on m ledger (took step outcome ∷ []) ∙ append-nil (replies_of m ledger)

-- ---- the calls for one connection

own_call : (n : ℕ) (call : Call) (es : List Event) → calls_of n (on n call ∷ es) ≡ call ∷ calls_of n es
own_call n call es = ap (λ (f : Bool). if f then call ∷ calls_of n es else calls_of n es) (eq-eqb n n refl)

other_call : (n m : ℕ) (call : Call) (es : List Event) → n ≢ m → calls_of m (on n call ∷ es) ≡ calls_of m es
other_call n m call es ne = ap (λ (f : Bool). if f then call ∷ calls_of m es else calls_of m es) (ne_eqb n m ne)

went_on : (call : Call) (calls : List Call) → went (call ∷ calls) ≡ went_by call ++ went calls
went_on (came bytes) calls = refl
went_on ended calls = refl
went_on (acted found) calls = refl
went_on (sent text) calls = refl

-- ---- where each connection stands

-- the conversation that is there, with what lies apart of its body in hand, is this one
abbrev IsThere : ℕ → Kept → Text → Shown → Shown → Type 0
IsThere n k apart conversation c = (joined apart c ≡ conversation) × Lies n k c apart

-- calls are still to come for the connection n, on which all comes in the end, and out went so far
record Standing (settings : Settings) (all : Text) (calls : List Call) (out : Text) (rs : List Replied) (n : ℕ) (u : Open) (k : Kept) : Type 0 where
  conversation : Shown
  apart : Text
  stands : StandsBefore settings calls all out rs conversation
  there : IfSome (conversation_of n u.slots) (IsThere n k apart conversation)
  -- a number that is still to be given
  unused : u.next ≤ n → (conversation ≡ begun) × (conversation_of n u.slots ≡ None)

abbrev StandingAll : Settings → (ℕ → Text) → List Event → (ℕ → Text) → List Entry → Open → Kept → Type 0
StandingAll settings all es out ledger u k = (n : ℕ) → Standing settings (all n) (calls_of n es) (out n) (replies_of n ledger) n u k

if_some_as : (o : Option Shown) (P Q : Shown → Type 0) → ((c : Shown) → P c → Q c) → IfSome o P → IfSome o Q
if_some_as None P Q f x = tt
if_some_as (Some c) P Q f x = f c x

-- another connection's calls
stands_past : (settings : Settings) (all : Text) (calls calls' : List Call) (out : Text) (rs rs' : List Replied) (n : ℕ) (u u' : Open) (k k' : Kept) → calls ≡ calls' → rs' ≡ rs
    → conversation_of n u'.slots ≡ conversation_of n u.slots → ((c : Shown) (apart : Text) → Lies n k c apart → Lies n k' c apart) → (u'.next ≤ n → u.next ≤ n)
    → Standing settings all calls out rs n u k → Standing settings all calls' out rs' n u' k'
stands_past settings all calls calls' out rs rs' n u u' k k' e f same stays le x = record {
  conversation = x.conversation;
  apart = x.apart;
  stands = subst (λ (cs : List Call). StandsBefore settings cs all out rs' x.conversation) e (subst (λ (l : List Replied). StandsBefore settings calls all out l x.conversation) (sym f) x.stands);
  there = subst (λ (o : Option Shown). IfSome o (IsThere n k' x.apart x.conversation)) (sym same)
      (if_some_as (conversation_of n u.slots) (IsThere n k x.apart x.conversation) (IsThere n k' x.apart x.conversation) (λ c y. (y.0, stays c x.apart y.1)) x.there);
  unused = λ h. ((x.unused (le h)).0, same ∙ (x.unused (le h)).1);
}

-- the conversation that is there
here : (n : ℕ) (u : Open) (c : Shown) (P : Shown → Type 0) → conversation_of n u.slots ≡ Some c → IfSome (conversation_of n u.slots) P → P c
here n u c P e x = subst (λ (o : Option Shown). IfSome o P) e x

given : (n : ℕ) (u : Open) (c : Shown) (A : Type 0) → conversation_of n u.slots ≡ Some c → conversation_of n u.slots ≡ None → A
given n u c A e f = let bad = sym e ∙ f in cc

-- what went out on n is more
abbrev with_text : (ℕ → Text) → ℕ → Text → ℕ → Text
with_text out n text m = if m == n then out m ++ text else out m

own_text : (out : ℕ → Text) (n : ℕ) (text : Text) → with_text out n text n ≡ out n ++ text
own_text out n text = ap (λ (f : Bool). if f then out n ++ text else out n) (eq-eqb n n refl)

other_text : (out : ℕ → Text) (n : ℕ) (text : Text) (m : ℕ) → m ≢ n → with_text out n text m ≡ out m
other_text out n text m ne = ap (λ (f : Bool). if f then out m ++ text else out m) (ne_eqb m n ne)

-- what went out on each, after the event
abbrev after : (ℕ → Text) → Event → ℕ → Text
after out (comes n) = out
after out (on n call) = with_text out n (went_by call)
after out (goes n) = out
after out (unstages n) = out
after out (elsewhere step outcome) = out

after_is : (e : Event) (es : List Event) (out : ℕ → Text) (n : ℕ) → after out e n ++ went (calls_of n es) ≡ out n ++ went (calls_of n (e ∷ es))
after_is (comes m) es out n = refl
after_is (on m call) es out n = elim (cases_eq n m) [
  | inl e ↦ subst (λ (i : ℕ). with_text out m (went_by call) i ++ went (calls_of i es) ≡ out i ++ went (calls_of i (on m call ∷ es))) (sym e)
      (ap (λ (t : Text). t ++ went (calls_of m es)) (own_text out m (went_by call))
      ∙ append_assoc (out m) (went_by call) (went (calls_of m es))
      ∙ ap (λ (t : Text). out m ++ t) (sym (went_on call (calls_of m es)))
      ∙ ap (λ (calls : List Call). out m ++ went calls) (sym (own_call m call es)))
  | inr ne ↦ ap (λ (t : Text). t ++ went (calls_of n es)) (other_text out m (went_by call) n ne)
      ∙ ap (λ (calls : List Call). out n ++ went calls) (sym (other_call m n call es (λ e. ne (sym e))))
]
after_is (goes m) es out n = refl
after_is (unstages m) es out n = refl
after_is (elsewhere step outcome) es out n = refl

heard_none : (f : Bool) → heard_if f [] ≡ []
heard_none true = refl
heard_none false = refl

module _ (settings : Settings) where
  -- ---- the ledger

  abbrev Writes : State → List Entry → State → Type 0
  Writes s ledger s' = TakesAll s (map (step_of settings) ledger) (map outcome_of ledger) s'

  entry_more : (s : State) (ledger : List Entry) (mid : State) (e : Entry) (s' : State) → Writes s ledger mid → Takes mid (step_of settings e) (outcome_of e) s'
      → Writes s (ledger ++ e ∷ []) s'
  entry_more s ledger mid e s' w t =
      subst (λ (steps : List Step). TakesAll s steps (map outcome_of (ledger ++ e ∷ [])) s') (sym (map-append (step_of settings) ledger (e ∷ [])))
      (subst (λ (outcomes : List Outcome). TakesAll s (map (step_of settings) ledger ++ step_of settings e ∷ []) outcomes s') (sym (map-append outcome_of ledger (e ∷ [])))
      (one_more Takes s (map (step_of settings) ledger) (map outcome_of ledger) mid (step_of settings e) (outcome_of e) s' w t))

  adds_more : (n : ℕ) (s : State) (ledger : List Entry) (mid s' : State) (more : List Replied) → Writes s ledger mid → Adds settings mid s' more
      → Writes s (ledger ++ entries n more) s'
  adds_more n s ledger mid s' more w (nothing e) =
      subst (λ (t : State). Writes s (ledger ++ []) t) (sym e) (subst (λ (l : List Entry). Writes s l mid) (sym (append-nil ledger)) w)
  adds_more n s ledger mid s' more w (one r does) = entry_more s ledger mid (replied n r) s' w does

  record Moves (n : ℕ) (call : Call) (u : Open) (k : Kept) (u' : Open) (k' : Kept) : Type 0 where
    before : Shown
    after : Shown
    calls : Calls u.settings call n before k after k'
    only : Only n (Some before) (Some after) u.slots u'.slots

  moves : (n : ℕ) (call : Call) (u : Open) (k : Kept) (u' : Open) (k' : Kept) → HappensOn n call u k u' k' → Moves n call u k u' k'
  moves n (came bytes) u k u' k' x = record { before = x.0.slot.conversation; after = x.0.conversation; calls = (x.0.changes, x.2); only = x.0.only }
  moves n ended u k u' k' x = record { before = x.0.slot.conversation; after = x.0.conversation; calls = (x.0.changes, x.1); only = x.0.only }
  moves n (acted found) u k u' k' x = record { before = x.0.slot.conversation; after = x.0.conversation; calls = x.0.changes.0; only = x.0.only }
  moves n (sent text) u k u' k' x = record { before = x.0.slot.conversation; after = x.0.conversation; calls = (x.0.changes, x.1); only = x.0.only }

  -- ---- all events

  record Stage (all : ℕ → Text) (es : List Event) (out : ℕ → Text) (s0 : State) (k : Kept) (u : Open) : Type 0 where
    ledger : List Entry
    same : u.settings ≡ settings
    writes : Writes s0 ledger (state_of k)
    kept : StandingAll settings all es out ledger u k

  comes_on : (all : ℕ → Text) (n : ℕ) (es : List Event) (out : ℕ → Text) (s0 : State) (k : Kept) (u u' : Open) → Opens n u u'
      → Stage all (comes n ∷ es) out s0 k u → Stage all es out s0 k u'
  comes_on all n es out s0 k u u' x g = record { ledger = g.ledger; same = ap (λ (v : Open). v.settings) x.is ∙ g.same; writes = g.writes; kept = λ m. by m (cases_eq m n) }
    where
      next_is : u'.next ≡ n + 1
      next_is = ap (λ (v : Open). v.next) x.is

      by : (m : ℕ) → (m ≡ n) ⊎ (m ≡ n → ⊥) → Standing settings (all m) (calls_of m es) (out m) (replies_of m g.ledger) m u' k
      by m (inl e) =
          let st = g.kept m in
          let first = st.unused (omega (arith, e, x.number)) in
          record {
            conversation = st.conversation;
            apart = st.apart;
            stands = st.stands;
            there = subst (λ (o : Option Shown). IfSome o (IsThere m k st.apart st.conversation))
                (sym (subst (λ (i : ℕ). conversation_of i u'.slots ≡ Some begun) (sym e) x.only.is)) (sym first.0, tt);
            unused = λ h. absurd (omega (arith, e, next_is, h));
          }
      by m (inr ne) =
          stands_past settings (all m) (calls_of m es) (calls_of m es) (out m) (replies_of m g.ledger) (replies_of m g.ledger) m u u' k k refl refl (x.only.others m ne)
          (λ c apart lies. lies) (λ h. omega (arith, next_is, x.number, h)) (g.kept m)

  goes_on : (all : ℕ → Text) (n : ℕ) (es : List Event) (out : ℕ → Text) (s0 : State) (k : Kept) (u u' : Open) (c : Option Shown) → Only n c None u.slots u'.slots → u'.next ≡ u.next
      → u'.settings ≡ u.settings → Stage all (goes n ∷ es) out s0 k u → Stage all es out s0 k u'
  goes_on all n es out s0 k u u' c only next alike g = record { ledger = g.ledger; same = alike ∙ g.same; writes = g.writes; kept = λ m. by m (cases_eq m n) }
    where
      by : (m : ℕ) → (m ≡ n) ⊎ (m ≡ n → ⊥) → Standing settings (all m) (calls_of m es) (out m) (replies_of m g.ledger) m u' k
      by m (inl e) =
          let st = g.kept m in
          let gone : conversation_of m u'.slots ≡ None = subst (λ (i : ℕ). conversation_of i u'.slots ≡ None) (sym e) only.is in
          record {
            conversation = st.conversation;
            apart = st.apart;
            stands = st.stands;
            there = subst (λ (o : Option Shown). IfSome o (IsThere m k st.apart st.conversation)) (sym gone) tt;
            unused = λ h. ((st.unused (omega (arith, next, h))).0, gone);
          }
      by m (inr ne) =
          stands_past settings (all m) (calls_of m es) (calls_of m es) (out m) (replies_of m g.ledger) (replies_of m g.ledger) m u u' k k refl refl (only.others m ne)
          (λ c apart lies. lies) (λ h. omega (arith, next, h)) (g.kept m)

  -- what was staged of one that is gone is let go
  unstaged_on : (all : ℕ → Text) (n : ℕ) (es : List Event) (out : ℕ → Text) (s0 : State) (k k' : Kept) (u : Open) → conversation_of n u.slots ≡ None → Past n k k' → state_of k' ≡ state_of k
      → Stage all (unstages n ∷ es) out s0 k u → Stage all es out s0 k' u
  unstaged_on all n es out s0 k k' u none others alike g =
      record { ledger = g.ledger; same = g.same; writes = subst (λ (s : State). Writes s0 g.ledger s) (sym alike) g.writes; kept = λ m. by m (cases_eq m n) }
    where
      by : (m : ℕ) → (m ≡ n) ⊎ (m ≡ n → ⊥) → Standing settings (all m) (calls_of m es) (out m) (replies_of m g.ledger) m u k'
      by m (inl e) =
          let st = g.kept m in
          let gone : conversation_of m u.slots ≡ None = subst (λ (i : ℕ). conversation_of i u.slots ≡ None) (sym e) none in
          record {
            conversation = st.conversation;
            apart = st.apart;
            stands = st.stands;
            there = subst (λ (o : Option Shown). IfSome o (IsThere m k' st.apart st.conversation)) (sym gone) tt;
            unused = st.unused;
          }
      by m (inr ne) =
          stands_past settings (all m) (calls_of m es) (calls_of m es) (out m) (replies_of m g.ledger) (replies_of m g.ledger) m u u k k' refl refl refl
          (others m (λ e. ne (sym e))) (λ h. h) (g.kept m)

  took_on : (all : ℕ → Text) (step : Step) (outcome : Outcome) (es : List Event) (out : ℕ → Text) (s0 : State) (k k' : Kept) (u : Open) → Takes (state_of k) step outcome (state_of k')
      → HeldStays k k' → Stage all (elsewhere step outcome ∷ es) out s0 k u → Stage all es out s0 k' u
  took_on all step outcome es out s0 k k' u x stays g = record {
    ledger = g.ledger ++ took step outcome ∷ [];
    same = g.same;
    writes = entry_more s0 g.ledger (state_of k) (took step outcome) (state_of k') g.writes x;
    kept = λ m. stands_past settings (all m) (calls_of m es) (calls_of m es) (out m) (replies_of m g.ledger) (replies_of m (g.ledger ++ took step outcome ∷ [])) m u u k k' refl
        (took_replies m g.ledger step outcome) refl (λ c apart lies. lies_still m k k' c apart stays lies) (λ h. h) (g.kept m);
  }

  called_on : (all : ℕ → Text) (n : ℕ) (call : Call) (es : List Event) (out : ℕ → Text) (s0 : State) (k k' : Kept) (u u' : Open) → Moves n call u k u' k' → u'.next ≡ u.next
      → u'.settings ≡ u.settings → Stage all (on n call ∷ es) out s0 k u → Stage all es (with_text out n (went_by call)) s0 k' u'
  called_on all n call es out s0 k k' u u' x next alike g = record {
    ledger = g.ledger ++ entries n turn.more;
    same = alike ∙ g.same;
    writes = adds_more n s0 g.ledger (state_of k) (state_of k') turn.more g.writes turn.adds;
    kept = λ m. by m (cases_eq m n);
  }
    where
      st : Standing settings (all n) (calls_of n (on n call ∷ es)) (out n) (replies_of n g.ledger) n u k
      st = g.kept n

      is_there : IsThere n k st.apart st.conversation x.before
      is_there = here n u x.before (IsThere n k st.apart st.conversation) x.only.was st.there

      stood : StandsBefore settings (call ∷ calls_of n es) (all n) (out n) (replies_of n g.ledger) (joined st.apart x.before)
      stood =
          subst (λ (calls : List Call). StandsBefore settings calls (all n) (out n) (replies_of n g.ledger) (joined st.apart x.before)) (own_call n call es)
          (subst (λ (c : Shown). StandsBefore settings (calls_of n (on n call ∷ es)) (all n) (out n) (replies_of n g.ledger) c) (sym is_there.0) st.stands)

      step : Moved settings call n st.apart x.before k x.after k'
      step =
          moved settings n st.apart x.before k x.after k' is_there.1 call (all n) (out n) (calls_of n es) (replies_of n g.ledger)
          (subst (λ (z : Settings). Calls z call n x.before k x.after k') g.same x.calls) stood

      turn : NextBefore settings (calls_of n es) (all n) (out n ++ went_by call) (replies_of n g.ledger) (state_of k) (state_of k') (joined step.apart' x.after)
      turn =
          call_on settings call (calls_of n es) (all n) (out n) (replies_of n g.ledger) (state_of k) (state_of k') (joined st.apart x.before) (joined step.apart' x.after) step.happens stood

      own : Standing settings (all n) (calls_of n es) (with_text out n (went_by call) n) (replies_of n (g.ledger ++ entries n turn.more)) n u' k'
      own = record {
        conversation = joined step.apart' x.after;
        apart = step.apart';
        stands =
            subst (λ (o : Text). StandsBefore settings (calls_of n es) (all n) o (replies_of n (g.ledger ++ entries n turn.more)) (joined step.apart' x.after)) (sym (own_text out n (went_by call)))
            (subst (λ (l : List Replied). StandsBefore settings (calls_of n es) (all n) (out n ++ went_by call) l (joined step.apart' x.after)) (sym (own_replies n g.ledger turn.more)) turn.stands);
        there = subst (λ (o : Option Shown). IfSome o (IsThere n k' step.apart' (joined step.apart' x.after))) (sym x.only.is) (refl, step.lies);
        unused = λ h. given n u x.before ((joined step.apart' x.after ≡ begun) × (conversation_of n u'.slots ≡ None)) x.only.was (st.unused (omega (arith, next, h))).1;
      }

      by : (m : ℕ) → (m ≡ n) ⊎ (m ≡ n → ⊥) → Standing settings (all m) (calls_of m es) (with_text out n (went_by call) m) (replies_of m (g.ledger ++ entries n turn.more)) m u' k'
      by m (inl e) =
          subst (λ (i : ℕ). Standing settings (all i) (calls_of i es) (with_text out n (went_by call) i) (replies_of i (g.ledger ++ entries n turn.more)) i u' k') (sym e) own
      by m (inr ne) =
          subst (λ (o : Text). Standing settings (all m) (calls_of m es) o (replies_of m (g.ledger ++ entries n turn.more)) m u' k') (sym (other_text out n (went_by call) m ne))
          (stands_past settings (all m) (calls_of m (on n call ∷ es)) (calls_of m es) (out m) (replies_of m g.ledger) (replies_of m (g.ledger ++ entries n turn.more)) m u u' k k'
          (other_call n m call es (λ e. ne (sym e))) (other_replies n m g.ledger turn.more (λ e. ne (sym e))) (x.only.others m ne) (step.others m (λ e. ne (sym e))) (λ h. omega (arith, next, h))
          (g.kept m))

  one_event : (all : ℕ → Text) (e : Event) (es : List Event) (out : ℕ → Text) (s0 : State) (k k' : Kept) (u u' : Open) → Happens e u k u' k'
      → Stage all (e ∷ es) out s0 k u → Stage all es (after out e) s0 k' u'
  one_event all (comes n) es out s0 k k' u u' x g = subst (λ (t : Kept). Stage all es out s0 t u') (sym x.1) (comes_on all n es out s0 k u u' x.0 g)
  one_event all (on n call) es out s0 k k' u u' x g =
      called_on all n call es out s0 k k' u u' (moves n call u k u' k' x.0) (ap (λ (v : Open). v.next) x.1) (ap (λ (v : Open). v.settings) x.1) g
  one_event all (goes n) es out s0 k k' u u' x g =
      subst (λ (t : Kept). Stage all es out s0 t u') (sym x.2)
      (goes_on all n es out s0 k u u' (Some x.0.slot.conversation) x.0.only (ap (λ (v : Open). v.next) x.1) (ap (λ (v : Open). v.settings) x.1) g)
  one_event all (unstages n) es out s0 k k' u u' x g =
      subst (λ (v : Open). Stage all es out s0 k' v) (sym x.0) (unstaged_on all n es out s0 k k' u x.1 (past_unstaged n k k' x.2) (ap state_of x.2) g)
  one_event all (elsewhere step outcome) es out s0 k k' u u' x g =
      subst (λ (v : Open). Stage all es out s0 k' v) (sym x.0) (took_on all step outcome es out s0 k k' u x.1 x.2 g)

  starts : (events : List Event) (bounds : Bounds) (k : Kept) → Stage (λ n. heard (calls_of n events)) events (λ n. []) (state_of k) k (none settings bounds)
  starts events bounds k = record {
    ledger = [];
    same = refl;
    writes = refl;
    kept = λ n. record {
      conversation = begun;
      apart = [];
      stands = at_first settings begun (heard (calls_of n events)) refl refl refl refl;
      there = tt;
      unused = λ h. (refl, refl);
    };
  }

  all_events : (all : ℕ → Text) (es : List Event) (out : ℕ → Text) (s0 : State) (k : Kept) (u u' : Open) (k' : Kept) → Stage all es out s0 k u → Passes es u k u' k'
      → (out' : ℕ → Text) × ((n : ℕ) → out' n ≡ out n ++ went (calls_of n es)) × Stage all [] out' s0 k' u'
  all_events all [] out s0 k u u' k' g x = (
    out,
    λ n. sym (append-nil (out n)),
    subst (λ (t : Kept). Stage all [] out s0 t u') (sym x.1) (subst (λ (v : Open). Stage all [] out s0 k v) (sym x.0) g),
  )
  all_events all (e ∷ es) out s0 k u u' k' g x =
      let r = all_events all es (after out e) s0 x.1 x.0 u' k' (one_event all e es out s0 k x.1 u x.0 x.2 g) x.3 in
      (r.0, λ n. r.1 n ∙ after_is e es out n, r.2)

  finishes : (events : List Event) (s : State) (u : Open) (k' : Kept) (out : ℕ → Text) → ((n : ℕ) → out n ≡ went (calls_of n events))
      → Stage (λ n. heard (calls_of n events)) [] out s k' u → OneLedger events s (state_of k') u
  finishes events s u k' out is g =
      let takes = subst (λ (z : Settings). TakesAll s (map (step_of z) g.ledger) (map outcome_of g.ledger) (state_of k')) (sym g.same) g.writes in record {
        ledger = g.ledger;
        takes = takes;
        says = run_says s (map (step_of u.settings) g.ledger) (map outcome_of g.ledger) (state_of k') takes;
        connections = λ n.
            let st = g.kept n in
            let c = st.conversation in
            record {
              conversation = c;
              apart = st.apart;
              there = if_some_as (conversation_of n u.slots) (IsThere n k' st.apart c) (λ d. joined st.apart d ≡ c) (λ d y. y.0) st.there;
              accounts = subst (λ (z : Settings). AccountsAs z c.phase (heard (calls_of n events)) (went (calls_of n events) ++ c.going) (replies_of n g.ledger) c) (sym g.same)
                  (subst (λ (o : Text). AccountsAs settings c.phase (heard (calls_of n events)) (o ++ c.going) (replies_of n g.ledger) c) (is n)
                  (accounts settings c.phase (heard (calls_of n events)) (out n ++ c.going) (replies_of n g.ledger) c
                  (subst (λ (l : Text). StandsAs settings c.phase (heard (calls_of n events)) l (out n ++ c.going) (replies_of n g.ledger) c)
                  (heard_none c.finished) st.stands)));
            };
      }

  pub all_are_served : (events : List Event) (bounds : Bounds) (k : Kept) (u : Open) (k' : Kept) → Passes events (none settings bounds) k u k'
      → OneLedger events (state_of k) (state_of k') u
  all_are_served events bounds k u k' x =
      let r = all_events (λ n. heard (calls_of n events)) events (λ n. []) (state_of k) k (none settings bounds) u k' (starts events bounds k) x in
      finishes events (state_of k) u k' r.0 r.1 r.2
