-- Bodies that lie apart, of a connection that is called and of the others.
use Rattle.std.proofs.Common.{◌≡◌, ◌≢◌, cond, ℕ, List, ◌∷◌, ◌++◌, Bool, true, false, Option, Some, None, refl, sym, ap, ◌∙◌, subst}
use Rattle.std.proofs.lemmas.Bool.{ne_eqb}
use Rattle.oci_types.specs.Text.{Text}
use Rattle.registry_model.specs.declared.settings.Settings.{Settings}
use Rattle.registry_model.specs.Keeping.{Kept, HeldStays, state_of}
use Rattle.registry_holding.specs.Holding.{put_under, with_stage}
use Rattle.registry_service.specs.Bodies.{StageIs, from_body}
use Rattle.registry_http.specs.declared.ending.End.{End}
use Rattle.registry_conversation.specs.declared.body_place.BodyPlace.{BodyPlace}
use Rattle.registry_conversation.specs.declared.body_place.BodyPlace.TheVariants.{Buffer, Stage, Nowhere}
use Rattle.registry_conversation.specs.declared.phase.Phase.{Phase}
use Rattle.registry_conversation.specs.declared.phase.Phase.TheVariants.{Head, Body, Ended}
use Rattle.registry_conversation.specs.declared.phase.Step.{Step}
use Rattle.registry_conversation.specs.ConversationEvents.{Event, came, ended, acted, sent, Happens, heard_if}
use Rattle.registry_conversation.specs.Holding.{Holds, HoldsAs}
use Rattle.registry_conversation.specs.Receiving.{ActsOn, Lies, LiesApart, LiesAs, joined}
use Rattle.registry_conversation.specs.Shown.{Shown, listens}
use Rattle.registry_conversation.proofs.ApartLemmas.{held_at, joined_on, lies_on}
use Rattle.registry_server.specs.Accounts.{Replied}
use Rattle.registry_server.specs.Events.{SendsText}
use Rattle.registry_server.specs.Open.{Finishes, Hears}
use Rattle.registry_server.proofs.AccountLemmas.{StandsAs, StandsBefore}

-- ---- what is held under one number, and under the others

put_other : (n m : ℕ) (o : Option Text) (f : ℕ → Option Text) → n ≢ m → put_under n o f m ≡ f m
put_other n m o f ne = ap (λ (b : Bool). cond b o (f m)) (ne_eqb n m ne)

-- nothing is staged or let go but under n
abbrev pub Past : ℕ → Kept → Kept → Type 0
Past n k k' = (m : ℕ) → n ≢ m → (c : Shown) (apart : Text) → Lies m k c apart → Lies m k' c apart

staged_past : (n m : ℕ) (k k' : Kept) (t : Text) → n ≢ m → HeldStays (from_body (Some n) k k') k' → StageIs k m t → StageIs k' m t
staged_past n m k k' t ne stays is unspent =
    let same = stays unspent in
    ap (λ x. x.stages m) same.1 ∙ put_other n m (k'.held.stages n) k.held.stages ne ∙ is same.0

by_place : (place : BodyPlace) (m : ℕ) (k k' : Kept) (taken apart : Text) → (StageIs k m apart → StageIs k' m apart) → LiesApart place m k taken apart → LiesApart place m k' taken apart
by_place Buffer m k k' taken apart f lies = lies
by_place Stage m k k' taken apart f lies = (lies.0, f lies.1)
by_place Nowhere m k k' taken apart f lies = lies

by_phase : (p : Phase) (place : BodyPlace) (m : ℕ) (k k' : Kept) (taken apart : Text) → (StageIs k m apart → StageIs k' m apart) → LiesAs p place m k taken apart → LiesAs p place m k' taken apart
by_phase Head place m k k' taken apart f lies = by_place place m k k' taken apart f lies
by_phase (Body part) place m k k' taken apart f lies = by_place place m k k' taken apart f lies
by_phase (Ended e) place m k k' taken apart f lies = lies

pub past : (n : ℕ) (k k' : Kept) → HeldStays (from_body (Some n) k k') k' → Past n k k'
past n k k' stays m ne c apart lies = by_phase c.phase c.place m k k' c.taken apart (staged_past n m k k' apart ne stays) lies

past_same : (n : ℕ) (k k' : Kept) → k' ≡ k → Past n k k'
past_same n k k' e m ne c apart lies = subst (λ (x : Kept). Lies m x c apart) (sym e) lies

-- a stage of nobody's is let go
pub past_unstaged : (n : ℕ) (k k' : Kept) → k' ≡ with_stage k n None → Past n k k'
past_unstaged n k k' e = past n k k' (held_at n None k k' e)

-- all that is held stays
pub lies_still : (m : ℕ) (k k' : Kept) (c : Shown) (apart : Text) → HeldStays k k' → Lies m k c apart → Lies m k' c apart
lies_still m k k' c apart stays lies =
    by_phase c.phase c.place m k k' c.taken apart
    (λ is unspent. let same = stays unspent in ap (λ x. x.stages m) same.1 ∙ is same.0) lies

-- ---- one call

-- what a call says of the conversation that has the whole body
pub record Moved (settings : Settings) (call : Event) (n : ℕ) (apart : Text) (c : Shown) (k : Kept) (c' : Shown) (k' : Kept) : Type 0 where
  pub apart' : Text
  pub lies : Lies n k' c' apart'
  pub happens : Happens settings call (joined apart c) (state_of k) (joined apart' c') (state_of k')
  pub others : Past n k k'

-- the clauses of a call
abbrev pub Calls : Settings → Event → ℕ → Shown → Kept → Shown → Kept → Type 0
Calls settings (came bytes) n c k c' k' = Hears bytes c c' × (k' ≡ k)
Calls settings ended n c k c' k' = Finishes c c' × (k' ≡ k)
Calls settings (acted found) n c k c' k' = ActsOn settings found n c k c' k'
Calls settings (sent text) n c k c' k' = SendsText text c c' × (k' ≡ k)

module _ (settings : Settings) (n : ℕ) (apart : Text) (c : Shown) (k : Kept) (c' : Shown) (k' : Kept) (lies : Lies n k c apart) where
  idle : (call : Event) → k' ≡ k → Lies n k c' apart → Happens settings call (joined apart c) (state_of k) (joined apart c') (state_of k') → Moved settings call n apart c k c' k'
  idle call e there x = record { apart' = apart; lies = subst (λ (z : Kept). Lies n z c' apart) (sym e) there; happens = x; others = past_same n k k' e }

  heard : (bytes : Text) → Hears bytes c c' → k' ≡ k → Moved settings (came bytes) n apart c k c' k'
  heard bytes x e =
      idle (came bytes) e (by_flag (listens c) refl)
      (λ deaf. ap (joined apart) (x.0 deaf), λ hears. joined_on apart bytes c c' (x.1 hears), ap state_of e)
    where
      by_flag : (f : Bool) → listens c ≡ f → Lies n k c' apart
      by_flag true hears = lies_on n k apart bytes c c' (x.1 hears) lies
      by_flag false deaf = subst (λ (z : Shown). Lies n k z apart) (sym (x.0 deaf)) lies

  turned : (found : Step) (all out : Text) (calls : List Event) (rs : List Replied) → ActsOn settings found n c k c' k'
      → StandsBefore settings (acted found ∷ calls) all out rs (joined apart c) → Moved settings (acted found) n apart c k c' k'
  turned found all out calls rs x stands = by c.phase refl stands
    where
      goes_on : ((e : End) → c.phase ≡ Ended e → ⊥) → (b said : Text) → Holds settings (joined apart c) b said → Moved settings (acted found) n apart c k c' k'
      goes_on still b said holds =
          let a = x.2 apart lies in
          record {
            apart' = a.apart';
            lies = a.lies;
            happens = (λ e is. absurd (still e is), x.1, a.acts);
            others = past n k k' (a.holds b said holds);
          }

      by : (p : Phase) → c.phase ≡ p → StandsAs settings p all (heard_if c.finished (acted found ∷ calls)) (out ++ c.going) rs (joined apart c) → Moved settings (acted found) n apart c k c' k'
      by Head e y = goes_on (λ end is. absurd (let bad = sym e ∙ is in cc)) y.rest y.said y.holds
      by (Body part) e y = goes_on (λ end is. absurd (let bad = sym e ∙ is in cc)) y.rest y.said y.holds
      by (Ended end) e y =
          let same = x.0 end e in
          idle (acted found) same.2 (subst (λ (z : Shown). Lies n k z apart) (sym same.1) lies) (
            λ other is. ((x.0 other is).0, ap (joined apart) same.1, ap state_of same.2),
            x.1,
            λ b said holds. absurd (subst (λ (p : Phase). HoldsAs settings p (joined apart c).taken c.unread b said) e holds),
          )

  pub moved : (call : Event) (all out : Text) (calls : List Event) (rs : List Replied) → Calls settings call n c k c' k'
      → StandsBefore settings (call ∷ calls) all out rs (joined apart c) → Moved settings call n apart c k c' k'
  moved (came bytes) all out calls rs x stands = heard bytes x.0 x.1
  moved ended all out calls rs x stands =
      idle ended x.1 (subst (λ (z : Shown). Lies n k z apart) (sym x.0) lies) (ap (joined apart) x.0, ap state_of x.1)
  moved (sent text) all out calls rs x stands =
      idle (sent text) x.1 (subst (λ (z : Shown). Lies n k z apart) (sym x.0.1) lies) (x.0.0, ap (joined apart) x.0.1, ap state_of x.1)
  moved (acted found) all out calls rs x stands = turned found all out calls rs x stands
