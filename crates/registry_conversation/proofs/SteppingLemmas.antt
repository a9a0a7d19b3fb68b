-- What a turn comes to, from its parts.
use Rattle.std.proofs.Common.{◌≡◌, ℕ, ◌+◌, ◌&&◌, codes, List, ◌<◌, ◌≤◌, ◌⊎◌, ◌==◌, inl, inr, Bool, true, false, [], ◌∷◌, ◌++◌, length, take, drop, Option, Some, refl, sym, ap, ◌∙◌, subst, append-nil, append_assoc, length-append, length-take, length-drop, le_of_eq, arith}
use Rattle.std.proofs.lemmas.Bool.Decides.{nat_tests}
use Rattle.std.specs.Bool.{MatchBool}
use Rattle.oci_types.specs.Text.{Text}
use Rattle.registry_model.specs.Keeping.{State}
use Rattle.registry_http.specs.Ending.{SendsRefusal}
use Rattle.registry_model.specs.Answer.{Answer}
use Rattle.registry_model.specs.Doing.{Does}
use Rattle.registry_http.specs.Asking.{ask_in}
use Rattle.registry_http.specs.Expecting.{IsBefore, expects_if, awaits_by, continue_if, text_before}
use Rattle.registry_http.specs.Fields.{NamedValue, fields_of, values, first}
use Rattle.registry_http.specs.Framing.{framing}
use Rattle.registry_http.specs.Serving.{reply_for}
use Rattle.registry_http.specs.ReplyText.{refusal_text}
use Rattle.registry_http.specs.Spelling.{IsCut, HeadIsCut, HeadIsUnreadable, BodyIsRefused, closes}
use Rattle.registry_http.specs.declared.framing.Framing.{Framing}
use Rattle.registry_http.specs.declared.framing.Framing.TheVariants as framed
use Rattle.registry_http.proofs.RequestLemmas.{before_empty, before_cut, before_unreadable}
use Rattle.registry_http.specs.declared.ending.FramingRefusal.{FramingRefusal}
use Rattle.registry_http.specs.declared.ending.FramingRefusal.TheVariants.{UnreadableHead, NoBufferMemory}
use Rattle.registry_http.specs.declared.ending.End.{End}
use Rattle.registry_http.specs.declared.ending.End.TheVariants.{Closed, Cut, Refused, ReadFailed, WriteFailed}
use Rattle.registry_conversation.specs.declared.body_place.BodyPlace.TheVariants.{Buffer}
use Rattle.registry_conversation.specs.declared.phase.Phase.{Phase}
use Rattle.registry_conversation.specs.declared.phase.Phase.TheVariants as phase
use Rattle.registry_conversation.specs.declared.phase.Step.{Step}
use Rattle.registry_conversation.specs.declared.phase.Step.TheVariants as step
use Rattle.registry_conversation.specs.Shown.{Shown, listens, listens_as, with_more, with_phase, coming_len, heads, turns_left}
use Rattle.registry_conversation.specs.Headings.{BeginsAt}
use Rattle.registry_conversation.specs.declared.heading.Heading.{Heading}
use Rattle.registry_conversation.specs.declared.part.Part.{Part}
use Rattle.registry_conversation.specs.Holding.{HoldsAs, Holds, HoldsWhole}
use Rattle.registry_outbox.specs.declared.report.Report.{Report}
use Rattle.registry_outbox.specs.Reports.{TellsAnswer, TellsRefusal, Reported}
use Rattle.registry_conversation.specs.Stepping.{IsRefusedThere, PutsPart, replying, refusing, LeadsOn, Refuses, LacksMemory, Comes, Receives, Waited}
use Rattle.registry_conversation.specs.Telling.{PartTold, TellsAs, Tells}
use Rattle.registry_conversation.proofs.HoldingLemmas.{holds_on, before_there, refused_there, item_request, item_begins}
use Rattle.registry_model.specs.declared.settings.Settings.{Settings}

-- ---- turns come to an end

heads_few : (p : Phase) → heads p ≤ 1
heads_few phase.Head = omega arith
heads_few (phase.Body part) = omega arith
heads_few (phase.Ended e) = omega arith

pub leads_refused : (found : Step) (r : FramingRefusal) (old mid new : Shown) → Refuses found r mid new → LeadsOn found old new
leads_refused found r old mid new x = subst (λ (k : Step). LeadsOn k old new) (sym x.found_is) x.ended

pub leads_ended : (found : Step) (e : End) (old mid new : Shown) → found ≡ step.Ended e → new ≡ with_phase mid (phase.Ended e) → LeadsOn found old new
leads_ended found e old mid new told ends = subst (λ (k : Step). LeadsOn k old new) (sym told) (ap (λ (c : Shown). c.phase) ends)

pub leads_waited : (found : Step) (e : End) (old mid new : Shown) → Waited found e mid new → listens_as mid.phase false ≡ true → turns_left mid ≤ turns_left old
    → LeadsOn found old new
leads_waited found e old mid new w hears fewer = by_flag mid.finished refl w
  where
    by_flag : (f : Bool) → mid.finished ≡ f
        → MatchBool f ((found ≡ step.Ended e) × (new ≡ with_phase mid (phase.Ended e))) ((found ≡ step.Waits) × (new ≡ mid)) → LeadsOn found old new
    by_flag true same x = leads_ended found e old mid new x.0 x.1
    by_flag false same x =
        subst (λ (k : Step). LeadsOn k old new) (sym x.0)
        (subst (λ (c : Shown). (turns_left c ≤ turns_left old) × (listens c ≡ true)) (sym x.1) (fewer, ap (listens_as mid.phase) same ∙ hears))

pub leads_from : (found : Step) (old mid new : Shown) → turns_left mid ≤ turns_left old → LeadsOn found mid new → LeadsOn found old new
leads_from step.Answered old mid new fewer x = omega (arith, fewer, x)
leads_from step.Interim old mid new fewer x = omega (arith, fewer, x)
leads_from step.Waits old mid new fewer x = (omega (arith, fewer, x.0), x.1)
leads_from (step.Ended e) old mid new fewer x = x

-- the bytes of the request that was answered are let go
pub leads_answered : (old mid new : Shown) → mid ≡ old → 0 < length mid.taken → coming_len new ≡ length mid.unread → turns_left new < turns_left old
leads_answered old mid new same some rest =
    let few = heads_few new.phase in
    let taken : length mid.taken ≡ length old.taken = ap (λ (c : Shown). length c.taken) same in
    let unread : length mid.unread ≡ length old.unread = ap (λ (c : Shown). length c.unread) same in
    omega (arith, few, some, rest, taken, unread)

-- ---- what is held grows in no turn

pub none_left : (old new : Shown) → coming_len new ≡ 0 → coming_len new ≤ coming_len old
none_left old new none = omega arith

pub passed : (count : ℕ) (old : Shown) (taken unread : Text) → taken ≡ old.taken ++ take count old.unread → unread ≡ drop count old.unread
    → length taken + length unread ≤ coming_len old
passed count old taken unread front rest = omega (
  arith,
  ap length front,
  ap length rest,
  length-append old.taken (take count old.unread),
  length-take count old.unread,
  length-drop count old.unread,
)

pub waited_same : (found : Step) (e : End) (old new : Shown) → Waited found e old new → (new.finished ≡ old.finished) × (coming_len new ≤ coming_len old)
waited_same found e old new w = by_flag old.finished w
  where
    by_flag : (f : Bool) → MatchBool f ((found ≡ step.Ended e) × (new ≡ with_phase old (phase.Ended e))) ((found ≡ step.Waits) × (new ≡ old))
        → (new.finished ≡ old.finished) × (coming_len new ≤ coming_len old)
    by_flag true x = (ap (λ (k : Shown). k.finished) x.1, le_of_eq (ap coming_len x.1))
    by_flag false x = (ap (λ (k : Shown). k.finished) x.1, le_of_eq (ap coming_len x.1))

-- ---- bytes came

pub empty_from : (xs : Text) (e : Bool) → e ≡ (length xs == 0) → e ≡ true → xs ≡ []
empty_from [] e same is = refl
empty_from (x ∷ xs) e same is = absurd (grind (arith, nat_tests))

pub some_from : (xs : Text) (e : Bool) → e ≡ (length xs == 0) → e ≡ false → xs ≡ [] → ⊥
some_from xs e same is none = absurd (grind (arith, nat_tests, ap length none))

pub grown : (p : Phase) (f : Bool) (g t t' u u' more : Text) → t' ≡ t → u' ≡ u ++ more
    → (record { phase = p; place = Buffer; taken = t'; unread = u'; finished = f; going = g }) ≡ with_more (record { phase = p; place = Buffer; taken = t; unread = u; finished = f; going = g }) more
grown p f g t t' u u' more e d = λ i. record { phase = p; place = Buffer; taken = e i; unread = d i; finished = f; going = g }

with_two : (c : Shown) (a b : Text) → with_more (with_more c a) b ≡ with_more c (a ++ b)
with_two c a b = ap (λ (u : Text). record c { unread = u }) (append_assoc c.unread a b)

pub comes : (old new : Shown) (bytes : Text) → new ≡ with_more old bytes → Comes bytes old new
comes old new bytes e =
    (e, λ settings b said holds. subst (λ (k : Shown). Holds settings k (b ++ bytes) said) (sym e) (holds_on settings old.phase old.taken old.unread b said bytes holds))

pub was_received : (old new : Shown) (bytes : Text) → new ≡ with_more old bytes → Receives bytes old new
was_received old new bytes e = inl (comes old new bytes e)

-- the last bytes stand behind those before
pub all_received : (old : Shown) (p : Phase) (f : Bool) (g t t' u u' front left more left' bytes : Text) → bytes ≡ front ++ left
    → (record { phase = p; place = Buffer; taken = t; unread = u; finished = f; going = g }) ≡ with_more old front → t' ≡ t → u' ≡ u ++ more → left ≡ more ++ left' → left' ≡ []
    → Receives bytes old (record { phase = p; place = Buffer; taken = t'; unread = u'; finished = f; going = g })
all_received old p f g t t' u u' front left more left' bytes whole so_far kept grew rest none =
    was_received old _ bytes
    (grown p f g t t' u u' more kept grew ∙ ap (λ (c : Shown). with_more c more) so_far ∙ with_two old front more
    ∙ ap (with_more old) (ap (λ (y : Text). front ++ y) (sym (rest ∙ ap (λ (y : Text). more ++ y) none ∙ append-nil more)) ∙ sym whole))

added : (t held u waiting all : ℕ) → t ≡ held → u ≤ waiting + all → t + u ≤ (held + waiting) + all
added t held u waiting all same fits = omega (arith, same, fits)

more_or_less : (kept front more left all rest : ℕ) → all ≡ front + (more + left) → rest ≡ (kept + front) + more → rest ≤ kept + all
more_or_less kept front more left all rest whole grew = omega (arith, whole, grew)

-- and no more is held than came
pub no_more_held : (t t' u u' front left more left' bytes held waiting : Text) → bytes ≡ front ++ left → t ≡ held → u ≡ waiting ++ front → t' ≡ t → u' ≡ u ++ more
    → left ≡ more ++ left' → length t' + length u' ≤ (length held + length waiting) + length bytes
no_more_held t t' u u' front left more left' bytes held waiting whole taken so_far kept grew rest =
    let all : length bytes ≡ length front + (length more + length left') =
    ap length whole ∙ length-append front left ∙ ap (λ (n : ℕ). length front + n) (ap length rest ∙ length-append more left') in
    let now : length u' ≡ (length waiting + length front) + length more =
    ap length grew ∙ length-append u more ∙ ap (λ (n : ℕ). n + length more) (ap length so_far ∙ length-append waiting front) in
    added (length t') (length held) (length u') (length waiting) (length bytes) (ap length (kept ∙ taken))
    (more_or_less (length waiting) (length front) (length more) (length left') (length bytes) (length u') all now)

pub none_received : (old : Shown) (bytes : Text) → bytes ≡ [] → Receives bytes old old
none_received old bytes none =
    was_received old old bytes (ap (λ (u : Text). record old { unread = u }) (sym (ap (λ (y : Text). old.unread ++ y) none ∙ append-nil old.unread)))

-- ---- memory was wanting

-- one answer is not the other
pub not_both : (a b : Bool) → a ≡ b → a ≡ true → b ≡ false → ⊥
not_both a b same first second = cc

-- for the bytes that came
pub lacks_memory : (found : Step) (r : FramingRefusal) (old mid new : Shown) → r ≡ NoBufferMemory → mid.going ≡ old.going → mid.finished ≡ old.finished
    → Refuses found r mid new → LacksMemory old new
lacks_memory found r old mid new none going finished x = record {
  end = x.end;
  sends =
      subst (λ (q : FramingRefusal). SendsRefusal x.end q (Some old.going) (Some new.going)) none
      (subst (λ (y : Text). SendsRefusal x.end r (Some y) (Some new.going)) going x.sends);
  ended = x.ended;
  finished = x.finished ∙ finished;
}

pub lacked : (found : Step) (bytes : Text) (old mid new : Shown) → mid.going ≡ old.going → mid.finished ≡ old.finished → Refuses found NoBufferMemory mid new
    → Receives bytes old new
lacked found bytes old mid new going finished r = inr (lacks_memory found NoBufferMemory old mid new refl going finished r)

-- ---- a head was found, or none

none_awaited : (a b : Bool) → continue_if ((a && b) && false) ≡ []
none_awaited true true = refl
none_awaited true false = refl
none_awaited false true = refl
none_awaited false false = refl

never_awaits : (minor : ℕ) (fields : List NamedValue) (r : FramingRefusal) → continue_if (awaits_by minor fields (framed.Refused r)) ≡ []
never_awaits minor fields r = none_awaited (minor == 1) (expects_if (first (values (codes "expect") fields)))

module _ (settings : Settings) (heading : Heading) (b : Text) (x : BeginsAt settings heading b) where
  pub refused_at : (r : FramingRefusal) → heading.framing ≡ framed.Refused r → IsRefusedThere settings b (text_before settings x.head) r
  refused_at r is tail = (
    refused_there settings x.head b (drop heading.len b) tail r x.there (subst (λ (f : Framing). BodyIsRefused settings f (drop heading.len b ++ tail) r) (sym is ∙ x.framed) refl),
    before_there settings x.head b (drop heading.len b) tail x.there,
  )

  -- no client waits where the body is refused
  pub none_before : (r : FramingRefusal) → heading.framing ≡ framed.Refused r → text_before settings x.head ≡ []
  none_before r is = ap (λ (f : Framing). continue_if (awaits_by x.head.minor (fields_of x.head) f)) (sym x.framed ∙ is) ∙ never_awaits x.head.minor (fields_of x.head) r

-- what is held between two requests
pub held_at_head : (settings : Settings) (c : Shown) (b said : Text) → c.phase ≡ phase.Head → Holds settings c b said → HoldsAs settings phase.Head c.taken c.unread b said
held_at_head settings c b said e x = subst (λ (p : Phase). HoldsAs settings p c.taken c.unread b said) e x

-- a body that was taken so far is refused
pub body_never : (settings : Settings) (part : Part) (taken unread b said : Text) (r : FramingRefusal) (x : HoldsAs settings (phase.Body part) taken unread b said)
    → ((tail : Text) → BodyIsRefused settings (framing settings x.0) (x.1 ++ tail) r) → IsRefusedThere settings b said r
body_never settings part taken unread b said r x bad tail =
    (refused_there settings x.0 b x.1 tail r x.2 (bad tail), subst (λ (y : Text). IsBefore settings (b ++ tail) y) (sym x.3) (before_there settings x.0 b x.1 tail x.2))

module _ (settings : Settings) where
  -- ---- a refusal

  refuse_ends : (e : End) (r : FramingRefusal) (b before : Text) (old new : Shown) (s : State) (was now : Option Report) → SendsRefusal e r (Some old.going) (Some new.going)
      → new.phase ≡ phase.Ended e → IsRefusedThere settings b before r → Reported now old.going new.going (λ q. TellsRefusal q r)
      → TellsAs settings (step.Ended e) b before old.going s s new was now
  refuse_ends Closed r b before old new s was now x over bad told = absurd x
  refuse_ends Cut r b before old new s was now x over bad told = absurd x
  refuse_ends (Refused q) r b before old new s was now x over bad told = (
    (over, (subst (λ (k : FramingRefusal). IsRefusedThere settings b before k) (sym x.0) bad, x.1 ∙ ap (λ (k : FramingRefusal). old.going ++ refusal_text k) (sym x.0), refl)),
    subst (λ (k : FramingRefusal). Reported now old.going new.going (λ p. TellsRefusal p k)) (sym x.0) told,
  )
  refuse_ends ReadFailed r b before old new s was now x over bad told = absurd x
  refuse_ends (WriteFailed n) r b before old new s was now x over bad told = ((over, refusing r bad x.0 x.1 refl), told)

  pub refused : (found : Step) (r : FramingRefusal) (b before : Text) (old new : Shown) (s : State) (was now : Option Report) → Refuses found r old new
      → Reported now old.going new.going (λ q. TellsRefusal q r) → IsRefusedThere settings b before r → TellsAs settings found b before old.going s s new was now
  refused found r b before old new s was now x told bad =
      subst (λ (k : Step). TellsAs settings k b before old.going s s new was now) (sym x.found_is) (refuse_ends x.end r b before old new s was now x.sends x.ended bad told)

  -- ---- more bytes are missing

  pub waited_cut : (found : Step) (b before : Text) (old new : Shown) (s : State) (was now : Option Report) → Waited found Cut old new → now ≡ was → IsCut settings b → IsBefore settings b before
      → Holds settings old b before → TellsAs settings found b before old.going s s new was now
  waited_cut found b before old new s was now w kept cut is holds = by_flag old.finished refl w
    where
      by_flag : (f : Bool) → old.finished ≡ f
          → MatchBool f ((found ≡ step.Ended Cut) × (new ≡ with_phase old (phase.Ended Cut))) ((found ≡ step.Waits) × (new ≡ old))
          → TellsAs settings found b before old.going s s new was now
      by_flag true e x =
          subst (λ (k : Step). TellsAs settings k b before old.going s s new was now) (sym x.0)
          (subst (λ (c : Shown). TellsAs settings (step.Ended Cut) b before old.going s s c was now) (sym x.1) ((refl, (e, cut, is, refl, refl)), kept))
      by_flag false e x =
          subst (λ (k : Step). TellsAs settings k b before old.going s s new was now) (sym x.0)
          (subst (λ (c : Shown). TellsAs settings step.Waits b before old.going s s c was now) (sym x.1)
          (record { goes_on = e; cut = inr cut; before_is = is; holds = holds; put = refl; same = refl }, kept))

  pub waited_closed : (found : Step) (b before : Text) (old new : Shown) (s : State) (was now : Option Report) → Waited found Closed old new → now ≡ was → b ≡ [] → before ≡ []
      → IsBefore settings b before → Holds settings old b before → TellsAs settings found b before old.going s s new was now
  waited_closed found b before old new s was now w kept none unsaid is holds = by_flag old.finished refl w
    where
      by_flag : (f : Bool) → old.finished ≡ f
          → MatchBool f ((found ≡ step.Ended Closed) × (new ≡ with_phase old (phase.Ended Closed))) ((found ≡ step.Waits) × (new ≡ old))
          → TellsAs settings found b before old.going s s new was now
      by_flag true e x =
          subst (λ (k : Step). TellsAs settings k b before old.going s s new was now) (sym x.0)
          (subst (λ (c : Shown). TellsAs settings (step.Ended Closed) b before old.going s s c was now) (sym x.1) ((refl, (e, none, unsaid, refl, refl)), kept))
      by_flag false e x =
          subst (λ (k : Step). TellsAs settings k b before old.going s s new was now) (sym x.0)
          (subst (λ (c : Shown). TellsAs settings step.Waits b before old.going s s c was now) (sym x.1)
          (record { goes_on = e; cut = inl none; before_is = is; holds = holds; put = refl; same = refl }, kept))

  pub part_ends : (found : Step) (n : ℕ) (b before going : Text) (s s' : State) (old new : Shown) (was now : Option Report) → found ≡ step.Ended (WriteFailed n)
      → new ≡ with_phase old (phase.Ended (WriteFailed n))
      → (part : PutsPart settings n b before going s s' old.going) × PartTold settings n b before going s s' old.going part was now
      → TellsAs settings found b before going s s' new was now
  part_ends found n b before going s s' old new was now told ends part =
      subst (λ (k : Step). TellsAs settings k b before going s s' new was now) (sym told)
      (subst (λ (c : Shown). TellsAs settings (step.Ended (WriteFailed n)) b before going s s' c was now) (sym ends) ((refl, part.0), part.1))

  -- ---- a request was answered

  module _ (taken unread going b said : Text) (w : HoldsWhole settings taken unread b said) (was now : Option Report) where
    pub answered_first : (a : Answer) (s s' : State) (closing : Bool) (new : Shown) → Does s (ask_in settings w.head w.body.body) a s'
        → new.going ≡ going ++ reply_for (record { head = w.head; coded = w.body.coded; body = w.body.body }) a
        → closing ≡ closes (record { head = w.head; coded = w.body.coded; body = w.body.body })
        → MatchBool closing (new.phase ≡ phase.Ended Closed) (Holds settings new unread [])
        → Reported now going new.going (λ r. TellsAnswer r (record { head = w.head; coded = w.body.coded; body = w.body.body }) a)
        → TellsAs settings step.Answered b said going s s' new was now
    answered_first a s s' closing new does put same next told = (
      record {
        item = record { head = w.head; coded = w.body.coded; body = w.body.body };
        rest = unread;
        answer = a;
        request = item_request settings taken unread b said w;
        begins = item_begins settings taken unread b said w;
        before_is = w.said_is;
        does = does;
        put = put;
        goes_on = subst (λ (f : Bool). MatchBool f (new.phase ≡ phase.Ended Closed) (Holds settings new unread [])) same next;
      },
      told,
    )

    -- its reply was put in part
    pub replied_in_part : (n : ℕ) (a : Answer) (s s' : State) (going' : Text) → Does s (ask_in settings w.head w.body.body) a s'
        → n < length (reply_for (record { head = w.head; coded = w.body.coded; body = w.body.body }) a)
        → going' ≡ going ++ take n (reply_for (record { head = w.head; coded = w.body.coded; body = w.body.body }) a)
        → Reported now going going' (λ r. TellsAnswer r (record { head = w.head; coded = w.body.coded; body = w.body.body }) a)
        → (part : PutsPart settings n b said going s s' going') × PartTold settings n b said going s s' going' part was now
    replied_in_part n a s s' going' does short put told = (
      replying (record { head = w.head; coded = w.body.coded; body = w.body.body }) unread a (item_request settings taken unread b said w) (item_begins settings taken unread b said w)
          w.said_is does short put,
      told,
    )

  module _ (found : Step) (b said : Text) (old new : Shown) (s : State) (was now : Option Report) (x : Holds settings old b said) (h : HoldsAs settings phase.Head old.taken old.unread b said) where
    pub nothing_came : Waited found Closed old new → now ≡ was → old.unread ≡ [] → Tells settings found b said old s s new was now
    nothing_came w kept none =
        let all : b ≡ [] = sym h.1 ∙ none in
        waited_closed found b said old new s was now w kept all h.2 (subst (λ (y : Text). IsBefore settings b y) (sym h.2) (before_empty settings b all)) x

    pub head_cut : Waited found Cut old new → now ≡ was → (old.unread ≡ [] → ⊥) → (old.unread ≡ []) ⊎ HeadIsCut old.unread → Tells settings found b said old s s new was now
    head_cut w kept some (inl none) = absurd (some none)
    head_cut w kept some (inr cut) =
        let here = subst HeadIsCut h.1 cut in
        waited_cut found b said old new s was now w kept (inl here) (subst (λ (y : Text). IsBefore settings b y) (sym h.2) (before_cut settings b here)) x

    pub head_never : Refuses found UnreadableHead old new → Reported now old.going new.going (λ q. TellsRefusal q UnreadableHead)
        → ((tail : Text) → HeadIsUnreadable (old.unread ++ tail)) → Tells settings found b said old s s new was now
    head_never w told never =
        refused found UnreadableHead b said old new s was now w told
        (λ tail. let bad = subst (λ (y : Text). HeadIsUnreadable (y ++ tail)) h.1 (never tail) in
        (inl (refl, bad), subst (λ (y : Text). IsBefore settings (b ++ tail) y) (sym h.2) (before_unreadable settings (b ++ tail) bad)))
