-- The bytes on a connection spell one list of requests, and one end.
use Rattle.std.proofs.Common.{◌≡◌, ◌+◌, ◌-◌, inl, inr, Bool, true, false, List, [], ◌∷◌, ◌++◌, length, take, drop, refl, sym, ap, subst, ◌∙◌, append_assoc, arith, length-append}
use Rattle.std.proofs.lemmas.List.{take-append-drop}
use Rattle.std.proofs.Math.Seq.{take-append-add}
use Rattle.httparse.specs.Grammar.{RequestHead, print_request, ReadsRequest}
use Rattle.httparse.proofs.GrammarLemmas.{request_unique}
use Rattle.oci_types.specs.Text.{Text}
use Rattle.registry_model.specs.declared.settings.Settings.{Settings}
use Rattle.registry_http.specs.Framing.{framing}
use Rattle.registry_http.specs.declared.ending.End.{End}
use Rattle.registry_http.specs.declared.ending.End.TheVariants.{Closed, Cut, Refused, ReadFailed, WriteFailed}
use Rattle.registry_http.specs.Spelling.{Item, IsBody, BodyIsCut, BodyIsRefused, IsRequest, BeginsWithHead, closes, print_item, Ends, Then, Spells, AreOneEnd}
use Rattle.registry_http.proofs.HeadLemmas.{request_some}
use Rattle.registry_http.proofs.BodyUniqueness.{body_unique, body_whole, body_served}
use Rattle.registry_http.proofs.EndUniqueness.{OneOf, one_end}

-- ---- where a request stands, nothing has ended

module _ (settings : Settings) (b : Text) (j : Item) (more : Text) (r : IsRequest settings j) (whole : b ≡ print_item j ++ more) where
  reads : ReadsRequest b j.head (j.coded ++ more)
  reads = (r.head, whole ∙ append_assoc (print_request j.head) j.coded more)

  same_head : (h : RequestHead) (rest : Text) → BeginsWithHead b h rest → (h ≡ j.head) × (rest ≡ j.coded ++ more)
  same_head h rest x = request_unique b h j.head rest (j.coded ++ more) x.reads reads

  in_front : ReadsRequest (take 16384 b) j.head (take (16384 - length (print_request j.head)) (j.coded ++ more))
  in_front =
      let p = print_request j.head in
      let n : 16384 ≡ length p + (16384 - length p) = omega (arith, r.short) in
      (r.head, ap (take 16384) reads.1 ∙ ap (λ k. take k (p ++ (j.coded ++ more))) n ∙ take-append-add p (j.coded ++ more) (16384 - length p))

  not_ended : (e : End) → Ends settings b e → ⊥
  not_ended Closed h =
      let size = ap length (sym h ∙ reads.1) in
      omega (arith, request_some j.head, length-append (print_request j.head) (j.coded ++ more), size)
  not_ended Cut (inl x) = x.2 j.head (j.coded ++ more) reads
  not_ended Cut (inr (h, rest, begins, few, short)) =
      let same = same_head h rest begins in
      body_whole settings (framing settings j.head) j.coded j.body more r.body
      (subst (λ x. BodyIsCut settings (framing settings j.head) x) same.1 (subst (λ x. BodyIsCut settings (framing settings x) rest) same.0 short))
  not_ended (Refused q) (inl (e, inl (inl x))) = x.1 j.head _ in_front
  not_ended (Refused q) (inl (e, inl (inr never))) = never (drop 16384 b) j.head (j.coded ++ more) (rw take-append-drop reads)
  not_ended (Refused q) (inl (e, inr (h, rest, begins, many))) =
      omega (arith, many, ap (λ (x : RequestHead). length x.fields) (same_head h rest begins).0, r.few)
  not_ended (Refused q) (inr (h, rest, begins, few, bad)) =
      let same = same_head h rest begins in
      body_served settings (framing settings j.head) j.coded j.body more q r.body
      (subst (λ x. BodyIsRefused settings (framing settings j.head) x q) same.1 (subst (λ x. BodyIsRefused settings (framing settings x) rest q) same.0 bad))
  not_ended ReadFailed h = h
  not_ended (WriteFailed n) h = h

-- the requests behind one that both begin with
tails : (c : Bool) (items others : List Item) (e f : End) (P Q S : Type 0) → (e ≡ f → S) → (P → Q → (items ≡ others) × S) → Then c items e P → Then c others f Q
    → (items ≡ others) × S
tails true items others e f P Q S same later x y = (x.0 ∙ sym y.0, same (x.1 ∙ sym y.1))
tails false items others e f P Q S same later x y = later x y

-- what is said of the ends behind other bytes
behind_others : (b front rest : Text) (e f : End) → b ≡ front ++ rest → AreOneEnd rest e f → AreOneEnd b e f
behind_others b front rest e f whole (inl same) = inl same
behind_others b front rest e f whole (inr (more, last, is, ends, waits)) =
    inr (front ++ more, last, whole ∙ ap (λ x. front ++ x) is ∙ sym (append_assoc front more last), ends, waits)

at_once : (b : Text) (e f : End) → OneOf b e f → AreOneEnd b e f
at_once b e f (inl same) = inl same
at_once b e f (inr (ends, waits)) = inr ([], b, refl, ends, waits)

pub one_spelling : (settings : Settings) (b : Text) (items others : List Item) (e f : End) → Spells settings b items e → Spells settings b others f → (items ≡ others) × AreOneEnd b e f
one_spelling settings b [] [] e f s z = (refl, at_once b e f (one_end settings b e f s z))
one_spelling settings b [] (j ∷ js) e f s z = absurd (not_ended settings b j z.0 z.1 z.2 e s)
one_spelling settings b (i ∷ items) [] e f s z = absurd (not_ended settings b i s.0 s.1 s.2 f z)
one_spelling settings b (i ∷ items) (j ∷ js) e f s z =
    let heads = same_head settings b j z.0 z.1 z.2 i.head (i.coded ++ s.0) (record { reads = reads settings b i s.0 s.1 s.2; short = s.1.short }) in
    let bodies = body_unique settings (framing settings j.head) i.coded i.body j.coded j.body s.0 z.0
    (subst (λ h. IsBody settings (framing settings h) i.coded i.body) heads.0 s.1.body) z.1.body heads.1 in
    let one : i ≡ j = (λ k. record { head = heads.0 k; coded = bodies.0 k; body = bodies.1 k }) in
    let behind : (items ≡ js) × AreOneEnd z.0 e f =
    tails (closes j) items js e f (Spells settings z.0 items e) (Spells settings z.0 js f) (AreOneEnd z.0 e f) (λ same. inl same) (λ x y. one_spelling settings z.0 items js e f x y)
    (subst (λ c. Then c items e (Spells settings z.0 items e)) (ap closes one) (subst (λ x. Then (closes i) items e (Spells settings x items e)) bodies.2 s.3)) z.3 in
    ((λ k. one k ∷ behind.0 k), behind_others b (print_item j) z.0 e f z.2 behind.1)
