-- Bytes end in one way where no further request is read.
use Rattle.std.proofs.Common.{◌≡◌, ◌⊎◌, inl, inr, [], ◌++◌, length, take, refl, sym, ap, subst, ◌∙◌, arith}
use Rattle.httparse.specs.Grammar.{RequestHead, ReadsRequest, EndsInTarget}
use Rattle.httparse.proofs.GrammarLemmas.{request_unique}
use Rattle.oci_types.specs.Text.{Text}
use Rattle.registry_model.specs.declared.settings.Settings.{Settings}
use Rattle.registry_http.specs.Framing.{framing}
use Rattle.registry_http.specs.declared.framing.Framing.{Framing}
use Rattle.registry_http.specs.declared.framing.Framing.TheVariants as framed
use Rattle.registry_http.specs.declared.ending.FramingRefusal.{FramingRefusal}
use Rattle.registry_http.specs.declared.ending.FramingRefusal.TheVariants.{UnreadableHead}
use Rattle.registry_http.specs.declared.ending.End.{End}
use Rattle.registry_http.specs.declared.ending.End.TheVariants.{Closed, Cut, Refused, ReadFailed, WriteFailed}
use Rattle.registry_http.specs.Spelling.{BeginsWithHead, BodyIsCut, BodyIsRefused, HeadIsCut, HeadIsUnreadable, IsCut, IsRefused, Ends, OneWaits}
use Rattle.registry_http.proofs.HeadLemmas.{take_whole}
use Rattle.registry_http.proofs.RequestLemmas.{none_empty, head_readable}
use Rattle.registry_http.proofs.ChunkEnds.{chunks_cut_refused, chunks_refused_once}
use Rattle.registry_http.proofs.SomeHead.{some_head}

-- ---- the head

-- the head that is waited for ends in a target
head_cut_unreadable : (b : Text) → HeadIsCut b → HeadIsUnreadable b → EndsInTarget b
head_cut_unreadable b cut (inl (inl long)) = absurd (omega (arith, cut.1, long.0))
head_cut_unreadable b cut (inl (inr never)) =
    let all : b ≡ take 16384 b = sym (take_whole 16384 b (omega (arith, cut.1))) in
    elim cut.3 [
      | inl may ↦ absurd (never may.0 may.1 [] (subst (λ x. ReadsRequest (x ++ may.0) may.1 []) all may.2))
      | inr ends ↦ ends
    ]
head_cut_unreadable b cut (inr (h, rest, begins, many)) = absurd (cut.2 h rest begins.reads)

-- the same, or one of them waits for the end of a target
abbrev pub OneOf : Text → End → End → Type 0
OneOf b e f = (e ≡ f) ⊎ (EndsInTarget b × OneWaits e f)

-- ---- the body

module _ (settings : Settings) where
  body_cut_refused : (f : Framing) (b : Text) (r : FramingRefusal) → BodyIsCut settings f b → BodyIsRefused settings f b r → ⊥
  body_cut_refused (framed.Length n) b r cut bad = bad
  body_cut_refused framed.Chunked b r cut bad = chunks_cut_refused settings b r cut bad
  body_cut_refused (framed.Refused s) b r cut bad = cut

  body_refused_once : (f : Framing) (b : Text) (r s : FramingRefusal) → BodyIsRefused settings f b r → BodyIsRefused settings f b s → r ≡ s
  body_refused_once (framed.Length n) b r s bad worse = absurd bad
  body_refused_once framed.Chunked b r s bad worse = chunks_refused_once settings b r s bad worse
  body_refused_once (framed.Refused q) b r s bad worse = bad ∙ sym worse

  -- what holds of the body behind one head holds of the body behind the other
  moved : (P : Framing → Text → Type 0) (b : Text) (h k : RequestHead) (x y : Text) → BeginsWithHead b h x → BeginsWithHead b k y → P (framing settings h) x → P (framing settings k) y
  moved P b h k x y p q body =
      let same = request_unique b h k x y p.reads q.reads in
      subst (P (framing settings k)) same.1 (subst (λ (j : RequestHead). P (framing settings j) x) same.0 body)

  -- ---- the end

  pub cut_refused : (b : Text) (r : FramingRefusal) → IsCut settings b → IsRefused settings b r → (r ≡ UnreadableHead) × EndsInTarget b
  cut_refused b r (inl cut) (inl bad) = (bad.0, head_cut_unreadable b cut bad.1)
  cut_refused b r (inl cut) (inr (h, rest, begins, few, bad)) = absurd (cut.2 h rest begins.reads)
  cut_refused b r (inr (h, rest, begins, few, cut)) (inl bad) = absurd (head_readable b bad.1 h rest begins few)
  cut_refused b r (inr (h, rest, begins, few, cut)) (inr (k, behind, here, room, bad)) =
      absurd (body_cut_refused (framing settings k) behind r (moved (BodyIsCut settings) b h k rest behind begins here cut) bad)

  pub refused_once : (b : Text) (r s : FramingRefusal) → IsRefused settings b r → IsRefused settings b s → r ≡ s
  refused_once b r s (inl bad) (inl worse) = bad.0 ∙ sym worse.0
  refused_once b r s (inl bad) (inr (h, rest, begins, few, worse)) = absurd (head_readable b bad.1 h rest begins few)
  refused_once b r s (inr (h, rest, begins, few, bad)) (inl worse) = absurd (head_readable b worse.1 h rest begins few)
  refused_once b r s (inr (h, rest, begins, few, bad)) (inr (k, behind, here, room, worse)) =
      body_refused_once (framing settings k) behind r s (moved (λ f x. BodyIsRefused settings f x r) b h k rest behind begins here bad) worse

  -- no bytes at all are neither cut nor refused
  empty_not_cut : (b : Text) → b ≡ [] → IsCut settings b → ⊥
  empty_not_cut b e (inl cut) = omega (arith, cut.0, ap length e)
  empty_not_cut b e (inr (h, rest, begins, few, cut)) = none_empty b e h rest begins

  empty_not_refused : (b : Text) (r : FramingRefusal) → b ≡ [] → IsRefused settings b r → ⊥
  empty_not_refused b r e (inl (same, inl (inl long))) = omega (arith, long.0, ap length e)
  empty_not_refused b r e (inl (same, inl (inr never))) =
      let none : take 16384 b ≡ [] = ap (take 16384) e in
      let any = some_head in
      never any.0 any.1 [] (subst (λ x. ReadsRequest (x ++ any.0) any.1 []) (sym none) any.2)
  empty_not_refused b r e (inl (same, inr (h, rest, begins, many))) = none_empty b e h rest begins
  empty_not_refused b r e (inr (h, rest, begins, few, bad)) = none_empty b e h rest begins

  pub one_end : (b : Text) (e f : End) → Ends settings b e → Ends settings b f → OneOf b e f
  one_end b Closed Closed x y = inl refl
  one_end b Closed Cut x y = absurd (empty_not_cut b x y)
  one_end b Closed (Refused r) x y = absurd (empty_not_refused b r x y)
  one_end b Cut Closed x y = absurd (empty_not_cut b y x)
  one_end b Cut Cut x y = inl refl
  one_end b Cut (Refused r) x y =
      let h = cut_refused b r x y in inr (h.1, inl (refl, ap Refused h.0))
  one_end b (Refused r) Closed x y = absurd (empty_not_refused b r y x)
  one_end b (Refused r) Cut x y =
      let h = cut_refused b r y x in inr (h.1, inr (ap Refused h.0, refl))
  one_end b (Refused r) (Refused s) x y = inl (ap Refused (refused_once b r s x y))
  one_end b ReadFailed f x y = absurd x
  one_end b (WriteFailed n) f x y = absurd x
  one_end b e ReadFailed x y = absurd y
  one_end b e (WriteFailed n) x y = absurd y
