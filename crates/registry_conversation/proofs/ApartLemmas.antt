-- A body that lies apart from its head.
use Rattle.std.proofs.Common.{◌≡◌, ◌≤◌, ℕ, List, [], ◌++◌, length, take, drop, refl, sym, ap, ◌∙◌, subst, append-nil, append_assoc, length-append, arith, Option, Some, Bool, true, false, inl, inr}
use Rattle.std.specs.Prelude.{option_map}
use Rattle.std.specs.Bool.{MatchBool}
use Rattle.registry_http.specs.declared.ending.End.{End}
use Rattle.std.proofs.lemmas.List.{take_at}
use Rattle.httparse.specs.Grammar.{RequestHead, print_request}
use Rattle.httparse.specs.declared.spans.HeaderSpan.{HeaderSpan}
use Rattle.httparse.specs.declared.spans.RequestSpans.{RequestSpans}
use Rattle.httparse.proofs.GrammarLemmas.{request_unique}
use Rattle.oci_types.specs.Text.{Text}
use Rattle.registry_model.specs.declared.settings.Settings.{Settings}
use Rattle.registry_model.specs.Keeping.{Kept, State, HeldStays, state_of}
use Rattle.registry_holding.specs.Holding.{put_under, with_stage}
use Rattle.registry_holding.proofs.ShownLemmas.{at_key, put_last, put_whatever}
use Rattle.registry_service.specs.Bodies.{StageIs, from_body}
use Rattle.registry_service.proofs.BodyLemmas.{kept_from}
use Rattle.registry_http.specs.Reading.{HeadIsRead, IsHeadAt}
use Rattle.registry_http.proofs.HeadLemmas.{request_some}
use Rattle.registry_conversation.specs.Headings.{HeadIsThere, IsHead}
use Rattle.registry_conversation.specs.Holding.{Holds, HoldsAs, HoldsWhole}
use Rattle.registry_conversation.specs.declared.phase.Phase.{Phase}
use Rattle.registry_conversation.specs.declared.phase.Phase.TheVariants.{Head, Body, Ended}
use Rattle.registry_conversation.specs.declared.phase.Step.{Step}
use Rattle.registry_conversation.specs.declared.phase.Step.TheVariants as step
use Rattle.registry_conversation.specs.declared.body_place.BodyPlace.{BodyPlace}
use Rattle.registry_conversation.specs.declared.body_place.BodyPlace.TheVariants.{Buffer, Stage, Nowhere}
use Rattle.registry_conversation.specs.Receiving.{ActsApart, Lies, LiesApart, LiesAs, Shortens, TellsApart, is_apart, joined, placed, taken_at}
use Rattle.registry_conversation.specs.Shown.{Shown, coming_len, heads, listens_as, with_phase}
use Rattle.registry_outbox.specs.declared.report.Report.{Report}
use Rattle.registry_conversation.specs.Stepping.{LeadsOn, Receives, Waited}
use Rattle.registry_conversation.specs.Telling.{TellsAs}
use Rattle.registry_conversation.proofs.SteppingLemmas.{comes}

-- ---- a head, and a body behind it that lies elsewhere

module _ (settings : Settings) (taken apart unread b said : Text) (is : IsHead taken) (w : HoldsWhole settings (taken ++ apart) unread b said) where
  same : (is.0 ≡ w.head) × (apart ≡ w.body.body)
  same = request_unique (taken ++ apart) is.0 w.head apart w.body.body (is.1, ap (λ (y : Text). y ++ apart) is.2) (w.there.begins.reads.0, w.body.kept)

  pub apart_is : apart ≡ w.body.body
  apart_is = same.1

  pub head_alone : HeadIsThere w.head taken []
  head_alone = record {
    begins =
        record { reads = (w.there.begins.reads.0, is.2 ∙ ap print_request same.0 ∙ sym (append-nil (print_request w.head))); short = w.there.begins.short };
    few = w.there.few;
  }

  -- the head that is found where it stands is the one that was taken
  pub head_at : (fields : List HeaderSpan) (spans : RequestSpans) (k : RequestHead) → HeadIsRead taken fields spans k
      → IsHeadAt (take spans.len taken) (take spans.headers fields) spans w.head
  head_at fields spans k read =
      subst (λ (h : RequestHead). IsHeadAt (take spans.len taken) (take spans.headers fields) spans h)
      (request_unique taken k w.head (drop spans.len taken) [] (read.head, read.begins) head_alone.begins.reads).0 read.at

-- the bytes of a head that was found
pub head_found : (taken : Text) (fields : List HeaderSpan) (spans : RequestSpans) (h : RequestHead) → HeadIsRead taken fields spans h → IsHead (take spans.len taken)
head_found taken fields spans h read =
    (h, read.head, ap (take spans.len) read.begins ∙ take_at (print_request h) (drop spans.len taken) spans.len (sym read.len))

-- no head is no bytes
some_head : (taken apart : Text) → IsHead taken → taken ++ apart ≡ [] → ⊥
some_head taken apart is none =
    omega (arith, request_some is.0, ap length is.2, ap length none, length-append taken apart)

-- between two requests nothing lies apart
pub none_apart : (place : BodyPlace) (key : ℕ) (k : Kept) (taken apart : Text) → LiesApart place key k taken apart → taken_at place taken apart ≡ [] → taken ≡ []
none_apart Buffer key k taken apart lies none = none
none_apart Stage key k taken apart lies none = absurd (some_head taken apart lies.0 none)
none_apart Nowhere key k taken apart lies none = absurd (some_head taken apart lies none)

pub head_of : (place : BodyPlace) (key : ℕ) (k : Kept) (taken apart : Text) → is_apart place ≡ true → LiesApart place key k taken apart → IsHead taken
head_of Buffer key k taken apart so lies = absurd (let no = so in cc)
head_of Stage key k taken apart so lies = lies.0
head_of Nowhere key k taken apart so lies = lies

pub taken_apart : (place : BodyPlace) (taken apart : Text) → is_apart place ≡ true → taken_at place taken apart ≡ taken ++ apart
taken_apart Buffer taken apart so = absurd (let no = so in cc)
taken_apart Stage taken apart so = refl
taken_apart Nowhere taken apart so = refl

-- ---- where bytes lie

-- between two requests, or in the middle of one
pub lies_of : (p : Phase) (place : BodyPlace) (n : ℕ) (k : Kept) (taken apart : Text) → LiesApart place n k taken apart → LiesAs p place n k taken apart
lies_of Head place n k taken apart lies = lies
lies_of (Body part) place n k taken apart lies = lies
lies_of (Ended e) place n k taken apart lies = tt

pub lies_in_buffer : (n : ℕ) (k : Kept) (c : Shown) (apart : Text) → c.place ≡ Buffer → Lies n k c apart
lies_in_buffer n k c apart is = lies_of c.phase c.place n k c.taken apart (subst (λ (p : BodyPlace). LiesApart p n k c.taken apart) (sym is) tt)

pub lies_at : (p : Phase) (n : ℕ) (k : Kept) (c : Shown) (apart : Text) → c.phase ≡ p → Lies n k c apart → LiesAs p c.place n k c.taken apart
lies_at p n k c apart e lies = subst (λ (q : Phase). LiesAs q c.place n k c.taken apart) e lies

-- more was taken of what lies apart
pub joined_more : (place : BodyPlace) (taken apart more : Text) → is_apart place ≡ true → taken_at place taken apart ++ more ≡ taken ++ (apart ++ more)
joined_more place taken apart more so = ap (λ (y : Text). y ++ more) (taken_apart place taken apart so) ∙ append_assoc taken apart more

-- a request whose body is whole, and lies apart
pub whole_apart : (settings : Settings) (place : BodyPlace) (taken apart more unread b said : Text) → is_apart place ≡ true
    → HoldsWhole settings (taken_at place taken apart ++ more) unread b said → HoldsWhole settings (taken ++ (apart ++ more)) unread b said
whole_apart settings place taken apart more unread b said so w = record {
  head = w.head;
  behind = w.behind;
  there = w.there;
  said_is = w.said_is;
  body =
      record {
        coded = w.body.coded;
        body = w.body.body;
        is_body = w.body.is_body;
        whole = w.body.whole;
        kept = sym (joined_more place taken apart more so) ∙ w.body.kept;
      };
}

pub body_apart : (settings : Settings) (place : BodyPlace) (taken apart more unread b said : Text) (so : is_apart place ≡ true) → IsHead taken
    → (w : HoldsWhole settings (taken_at place taken apart ++ more) unread b said) → w.body.body ≡ apart ++ more
unfolding whole_apart
body_apart settings place taken apart more unread b said so is w =
    sym (apart_is settings taken (apart ++ more) unread b said is (whole_apart settings place taken apart more unread b said so w))

-- where the body in hand lies behind its head
pub in_buffer : (settings : Settings) (apart : Text) (c : Shown) (b said : Text) → c.place ≡ Buffer → Holds settings (joined apart c) b said → Holds settings c b said
in_buffer settings apart c b said is x = subst (λ (p : BodyPlace). HoldsAs settings c.phase (taken_at p c.taken apart) c.unread b said) is x

-- between two requests, wherever the one before lay
pub at_head : (settings : Settings) (n : ℕ) (k : Kept) (apart : Text) (c : Shown) (b said : Text) → c.phase ≡ Head → Lies n k c apart → Holds settings (joined apart c) b said → Holds settings c b said
at_head settings n k apart c b said e lies x =
    let y = subst (λ (p : Phase). HoldsAs settings p (taken_at c.place c.taken apart) c.unread b said) e x in
    subst (λ (p : Phase). HoldsAs settings p c.taken c.unread b said) (sym e)
    (none_apart c.place n k c.taken apart (lies_at Head n k c apart e lies) y.0, y.1, y.2)

-- what is told of a turn, from equal things
pub tells_from : (settings : Settings) (found : Step) (b said : Text) (g g' : Text) (s t s' t' : State) (new new' : Shown) (was was' now : Option Report) → g ≡ g' → s ≡ t → s' ≡ t'
    → new ≡ new' → was ≡ was' → TellsAs settings found b said g s s' new was now → TellsAs settings found b said g' t t' new' was' now
tells_from settings found b said g g' s t s' t' new new' was was' now going first last shows told x =
    subst (λ (o : Option Report). TellsAs settings found b said g' t t' new' o now) told
    (subst (λ (c : Shown). TellsAs settings found b said g' t t' c was now) shows
    (subst (λ (z : State). TellsAs settings found b said g' t z new was now) last
    (subst (λ (z : State). TellsAs settings found b said g' z s' new was now) first
    (subst (λ (y : Text). TellsAs settings found b said y s s' new was now) going x))))

pub waited_taken : (found : Step) (e : End) (old new : Shown) → Waited found e old new → new.taken ≡ old.taken
waited_taken found e old new w = by_flag old.finished w
  where
    by_flag : (f : Bool) → MatchBool f ((found ≡ step.Ended e) × (new ≡ with_phase old (Ended e))) ((found ≡ step.Waits) × (new ≡ old)) → new.taken ≡ old.taken
    by_flag true x = ap (λ (c : Shown). c.taken) x.1
    by_flag false x = ap (λ (c : Shown). c.taken) x.1

-- ---- what is held, call after call

-- a stage was changed, and nothing else
pub held_at : (key : ℕ) (o : Option Text) (k k' : Kept) → k' ≡ with_stage k key o → HeldStays (from_body (Some key) k k') k'
held_at key o k k' e unspent = (
  sym (ap (λ (x : Kept). x.spent) e) ∙ unspent,
  λ i. record {
    stages = (put_whatever k.held.stages key k'.held.stages o (ap (λ (x : Kept). x.held.stages) e)) i;
    pins = (ap (λ (x : Kept). x.held.pins) e) i;
  },
)

pub same_at : (key : ℕ) (o : Option Text) (k k' : Kept) → k' ≡ with_stage k key o → state_of k' ≡ state_of k
same_at key o k k' e = ap state_of e

pub there_at : (key : ℕ) (o : Option Text) (k k' : Kept) → k' ≡ with_stage k key o → k'.held.stages key ≡ o
there_at key o k k' e = ap (λ (x : Kept). x.held.stages key) e ∙ at_key k.held.stages key o

pub held_from_all : (key : ℕ) (k k' : Kept) → HeldStays k k' → HeldStays (from_body (Some key) k k') k'
held_from_all key k k' stays unspent =
    let both = stays unspent in
    (both.0, both.1 ∙ ap (λ (x : Kept). x.held) (kept_from (Some key) k k' both.1))

-- one call after the other
pub held_through : (key : ℕ) (k mid k' : Kept) → HeldStays (from_body (Some key) k mid) mid → HeldStays (from_body (Some key) mid k') k'
    → HeldStays (from_body (Some key) k k') k'
held_through key k mid k' first second unspent =
    let b = second unspent in
    let a = first b.0 in (
      a.0,
      b.1
          ∙ (λ i. record {
            stages =
                (ap (put_under key (k'.held.stages key)) (ap (λ x. x.stages) a.1)
                ∙ put_last k.held.stages key (mid.held.stages key) (k'.held.stages key)) i;
            pins = (ap (λ x. x.pins) a.1) i;
          }),
    )

-- bytes were put behind those of a stage
pub staged_more : (key : ℕ) (k k' : Kept) (apart bytes : Text) → k' ≡ with_stage k key (option_map (λ t. t ++ bytes) (k.held.stages key)) → StageIs k key apart → StageIs k' key (apart ++ bytes)
staged_more key k k' apart bytes e is unspent =
    there_at key (option_map (λ t. t ++ bytes) (k.held.stages key)) k k' e
    ∙ ap (option_map (λ t. t ++ bytes)) (is (sym (ap (λ (x : Kept). x.spent) e) ∙ unspent))

-- ---- bytes came

pub placed_on : (place : BodyPlace) (bytes : Text) (old new : Shown) → Receives bytes old new → Receives bytes (placed place old) (placed place new)
placed_on place bytes old new (inl x) = inl (comes (placed place old) (placed place new) bytes (ap (placed place) x.0))
placed_on place bytes old new (inr x) = inr (record { end = x.end; sends = x.sends; ended = x.ended; finished = x.finished })

pub joined_on : (apart bytes : Text) (old new : Shown) → Receives bytes old new → Receives bytes (joined apart old) (joined apart new)
joined_on apart bytes old new (inl x) = inl (comes (joined apart old) (joined apart new) bytes (ap (joined apart) x.0))
joined_on apart bytes old new (inr x) = inr (record { end = x.end; sends = x.sends; ended = x.ended; finished = x.finished })

-- what lies apart lies there
pub lies_on : (n : ℕ) (k : Kept) (apart bytes : Text) (old new : Shown) → Receives bytes old new → Lies n k old apart → Lies n k new apart
lies_on n k apart bytes old new (inl x) lies = subst (λ (c : Shown). Lies n k c apart) (sym x.0) lies
lies_on n k apart bytes old new (inr x) lies = subst (λ (p : Phase). LiesAs p new.place n k new.taken apart) (sym x.ended) tt

-- more is waited for, or there is no more
pub waited_at : (place : BodyPlace) (apart : Text) (found : Step) (e : End) (old new : Shown) → Waited found e old new
    → Waited found e (joined apart (placed place old)) (joined apart (placed place new))
waited_at place apart found e old new w = by_flag old.finished w
  where
    by_flag : (f : Bool) → MatchBool f ((found ≡ step.Ended e) × (new ≡ with_phase old (Ended e))) ((found ≡ step.Waits) × (new ≡ old))
        → MatchBool f ((found ≡ step.Ended e) × (joined apart (placed place new) ≡ with_phase (joined apart (placed place old)) (Ended e)))
        ((found ≡ step.Waits) × (joined apart (placed place new) ≡ joined apart (placed place old)))
    by_flag true x = (x.0, ap (λ (c : Shown). joined apart (placed place c)) x.1)
    by_flag false x = (x.0, ap (λ (c : Shown). joined apart (placed place c)) x.1)

-- ---- turns come to an end

pub leads_less : (found : Step) (old mid new : Shown) → new.phase ≡ mid.phase → new.finished ≡ mid.finished → coming_len new ≤ coming_len mid → LeadsOn found old mid
    → LeadsOn found old new
leads_less step.Answered old mid new phase finished fewer x = omega (arith, ap heads phase, fewer, x)
leads_less step.Interim old mid new phase finished fewer x = omega (arith, ap heads phase, fewer, x)
leads_less step.Waits old mid new phase finished fewer x =
    (omega (arith, ap heads phase, fewer, x.0), ap (λ p. listens_as p new.finished) phase ∙ ap (listens_as mid.phase) finished ∙ x.1)
leads_less (step.Ended e) old mid new phase finished fewer x = phase ∙ x

-- and so it does where some of what was taken is let go
pub leads_shortened : (found : Step) (old mid new : Shown) → Shortens mid new → LeadsOn found old mid → LeadsOn found old new
leads_shortened found old mid new x leads =
    leads_less found old mid new (ap (λ (c : Shown). c.phase) x.0) (ap (λ (c : Shown). c.finished) x.0)
    (omega (arith, ap (λ (c : Shown). length c.unread) x.0, x.1)) leads

-- ---- without what is told

pub acts_apart : (settings : Settings) (found : Step) (n : ℕ) (apart : Text) (c : Shown) (k : Kept) (c' : Shown) (k' : Kept) (report : Option Report)
    → TellsApart settings found n apart c k c' k' report → ActsApart settings found n apart c k c' k'
acts_apart settings found n apart c k c' k' report x =
    record { apart' = x.apart'; lies = x.lies; holds = x.holds; acts = λ b said holds. (x.tells b said holds).0 }
