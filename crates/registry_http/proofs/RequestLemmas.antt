-- A whole request at the front of the buffer.
use Rattle.std.proofs.Common.{◌≡◌, ◌+◌, ◌-◌, ◌<◌, ◌≤◌, inl, inr, List, [], ◌++◌, length, take, drop, refl, sym, ap, ◌∙◌, arith, length-append}
use Rattle.std.proofs.lemmas.List.{take-append-drop}
use Rattle.httparse.specs.Grammar.{RequestHead, print_request}
use Rattle.httparse.specs.declared.spans.HeaderSpan.{HeaderSpan}
use Rattle.httparse.specs.declared.spans.RequestSpans.{RequestSpans}
use Rattle.std.proofs.Math.Seq.{take-append-add}
use Rattle.httparse.proofs.GrammarLemmas.{request_unique}
use Rattle.oci_types.specs.Text.{Text}
use Rattle.registry_model.specs.declared.settings.Settings.{Settings}
use Rattle.registry_http.specs.Spelling.{HeadIsCut, HeadIsUnreadable, BeginsWithHead}
use Rattle.registry_http.specs.Expecting.{IsBefore}
use Rattle.registry_http.specs.Reading.{HeadIsRead}
use Rattle.registry_http.proofs.HeadLemmas.{request_some, front_on}

module _ (b : Text) (headers : List HeaderSpan) (spans : RequestSpans) (h : RequestHead) (read : HeadIsRead b headers spans h) where
  -- the head stands there whatever bytes follow
  pub begins : (more : Text) → BeginsWithHead (b ++ more) h (drop spans.len (b ++ more))
  begins more = record {
    reads = (read.head, front_on b more (print_request h) spans.len read.begins read.len);
    short = omega (arith, read.len, read.short);
  }

  -- more than 64 fields are refused
  pub crowded : 64 < spans.headers → (tail : Text) → HeadIsUnreadable (b ++ tail)
  crowded many tail = inr (h, drop spans.len (b ++ tail), begins tail, omega (arith, read.count))

-- ---- where no head stands

pub none_empty : (b : Text) → b ≡ [] → (h : RequestHead) (rest : Text) → BeginsWithHead b h rest → ⊥
none_empty b e h rest x =
    let size = ap length (sym e ∙ x.reads.1) in
    omega (arith, request_some h, length-append (print_request h) rest, size)

pub before_empty : (settings : Settings) (b : Text) → b ≡ [] → IsBefore settings b []
before_empty settings b e = inr (λ h rest x few. none_empty b e h rest x, refl)

pub before_cut : (settings : Settings) (b : Text) → HeadIsCut b → IsBefore settings b []
before_cut settings b cut = inr (λ h rest x few. cut.2 h rest x.reads, refl)

pub head_readable : (b : Text) → HeadIsUnreadable b → (h : RequestHead) (rest : Text) → BeginsWithHead b h rest → length h.fields ≤ 64 → ⊥
head_readable b (inl (inl y)) h rest x few =
    let p = print_request h in
    let n : 16384 ≡ length p + (16384 - length p) = omega (arith, x.short) in
    y.1 h (take (16384 - length p) rest)
    (x.reads.0, ap (take 16384) x.reads.1 ∙ ap (λ k. take k (p ++ rest)) n ∙ take-append-add p rest (16384 - length p))
head_readable b (inl (inr never)) h rest x few = never (drop 16384 b) h rest (rw take-append-drop x.reads)
head_readable b (inr (other, behind, y, many)) h rest x few =
    let same = request_unique b h other rest behind x.reads y.reads in
    omega (arith, many, few, ap (λ (k : RequestHead). length k.fields) same.0)

pub before_unreadable : (settings : Settings) (b : Text) → HeadIsUnreadable b → IsBefore settings b []
before_unreadable settings b bad = inr (λ h rest x few. head_readable b bad h rest x few, refl)
