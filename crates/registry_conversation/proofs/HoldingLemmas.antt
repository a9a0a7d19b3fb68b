-- Heads that were taken, and bytes that are held.
use Rattle.std.proofs.Common.{◌≡◌, ℕ, ◌⊎◌, inl, inr, List, [], ◌++◌, take, drop, map, refl, sym, ap, ◌∙◌, subst, append_assoc, append-nil, arith}
use Rattle.std.proofs.lemmas.List.{take_at}
use Rattle.httparse.specs.Grammar.{RequestHead, print_request, HasNoRequest}
use Rattle.httparse.specs.Spans.{header_bytes}
use Rattle.registry_http.specs.Fields.{closes_by}
use Rattle.httparse.specs.declared.spans.HeaderSpan.{HeaderSpan}
use Rattle.httparse.specs.declared.spans.RequestSpans.{RequestSpans}
use Rattle.httparse.proofs.GrammarLemmas.{request_unique}
use Rattle.oci_types.specs.Text.{Text}
use Rattle.registry_model.specs.declared.settings.Settings.{Settings}
use Rattle.registry_http.specs.Framing.{framing}
use Rattle.registry_http.specs.Expecting.{continue_if, text_before, IsBefore}
use Rattle.registry_http.specs.Reading.{HeadIsRead, IsHeadAt}
use Rattle.registry_http.specs.Spelling.{Item, IsRequest, closes, HoldsNoHead, BodyIsCut, BodyIsRefused, IsCut, IsRefused}
use Rattle.registry_http.specs.declared.ending.FramingRefusal.{FramingRefusal}
use Rattle.registry_http.proofs.RequestLemmas.{head_readable}
use Rattle.registry_conversation.specs.declared.phase.Phase.{Phase}
use Rattle.registry_conversation.specs.declared.phase.Phase.TheVariants.{Head, Body, Ended}
use Rattle.registry_http.specs.Chunks.{IsChunk}
use Rattle.registry_http.specs.declared.framing.Framing.TheVariants as framed
use Rattle.std.proofs.lemmas.List.Elements.{All-nil}
use Rattle.registry_conversation.specs.declared.part.Part.TheVariants.{Length, Line}
use Rattle.registry_conversation.specs.declared.heading.Heading.{Heading}
use Rattle.registry_conversation.specs.Headings.{HeadIsThere, BeginsAt, IsTaken}
use Rattle.registry_conversation.specs.Holding.{HoldsAs, HoldsWhole}
use Rattle.registry_conversation.proofs.PartLemmas.{on_tail, part_on}

-- ---- a head, whatever bytes follow

pub there_on : (h : RequestHead) (b v more : Text) → HeadIsThere h b v → HeadIsThere h (b ++ more) (v ++ more)
there_on h b v more x = record {
  begins = record { reads = (x.begins.reads.0, on_tail b (print_request h) v more x.begins.reads.1); short = x.begins.short };
  few = x.few;
}

pub before_there : (settings : Settings) (h : RequestHead) (b v tail : Text) → HeadIsThere h b v → IsBefore settings (b ++ tail) (text_before settings h)
before_there settings h b v tail x =
    let on = there_on h b v tail x in
    inl (h, v ++ tail, on.begins, on.few, refl)

pub before_here : (settings : Settings) (h : RequestHead) (b v : Text) → HeadIsThere h b v → IsBefore settings b (text_before settings h)
before_here settings h b v x = inl (h, v, x.begins, x.few, refl)

pub cut_there : (settings : Settings) (h : RequestHead) (b v : Text) → HeadIsThere h b v → BodyIsCut settings (framing settings h) v → IsCut settings b
cut_there settings h b v x cut = inr (h, v, x.begins, x.few, cut)

pub refused_there : (settings : Settings) (h : RequestHead) (b v tail : Text) (r : FramingRefusal) → HeadIsThere h b v → BodyIsRefused settings (framing settings h) (v ++ tail) r → IsRefused settings (b ++ tail) r
refused_there settings h b v tail r x bad =
    let on = there_on h b v tail x in
    inr (h, v ++ tail, on.begins, on.few, bad)

-- ---- more bytes come

pub holds_on : (settings : Settings) (p : Phase) (taken unread b said more : Text) → HoldsAs settings p taken unread b said → HoldsAs settings p taken (unread ++ more) (b ++ more) said
holds_on settings Head taken unread b said more x = (x.0, ap (λ (y : Text). y ++ more) x.1, x.2)
holds_on settings (Body part) taken unread b said more x =
    (x.0, x.1 ++ more, there_on x.0 b x.1 more x.2, x.3, part_on settings part (framing settings x.0) (print_request x.0) x.1 taken unread more x.4)
holds_on settings (Ended e) taken unread b said more x = absurd x

-- what was put out stands before the body, whatever bytes follow
pub said_there : (settings : Settings) (p : Phase) (taken unread b said tail : Text) → HoldsAs settings p taken unread b said → (said ≡ []) ⊎ IsBefore settings (b ++ tail) said
said_there settings Head taken unread b said tail x = inl x.2
said_there settings (Body part) taken unread b said tail x = inr (subst (λ (y : Text). IsBefore settings (b ++ tail) y) (sym x.3) (before_there settings x.0 b x.1 tail x.2))
said_there settings (Ended e) taken unread b said tail x = absurd x

-- ---- a head that is taken

pub head_taken : (settings : Settings) (heading : Heading) (b t u t' : Text) (x : BeginsAt settings heading b) → t ≡ [] → u ≡ b → t' ≡ t ++ take heading.len u → t' ≡ print_request x.head
head_taken settings heading b t u t' x none all kept =
    kept ∙ ap (λ (y : Text). y ++ take heading.len u) none ∙ ap (take heading.len) (all ∙ x.there.begins.reads.1)
    ∙ take_at (print_request x.head) (drop heading.len b) heading.len (sym x.len)

pub length_begins : (settings : Settings) (heading : Heading) (b t u t' u' : Text) (n : ℕ) (x : BeginsAt settings heading b) → heading.framing ≡ framed.Length n → t ≡ [] → u ≡ b
    → t' ≡ t ++ take heading.len u → u' ≡ drop heading.len u → HoldsAs settings (Body (Length n 0)) t' u' b (continue_if heading.awaits)
length_begins settings heading b t u t' u' n x is none all kept rest = (
  x.head,
  drop heading.len b,
  x.there,
  ap continue_if x.awaits,
  (
    sym x.framed ∙ is,
    record {
      come = [];
      counted = refl;
      fits = omega arith;
      whole = sym (rest ∙ ap (drop heading.len) all);
      kept = head_taken settings heading b t u t' x none all kept ∙ sym (append-nil (print_request x.head));
    },
  ),
)

pub chunks_begin : (settings : Settings) (heading : Heading) (b t u t' u' : Text) (x : BeginsAt settings heading b) → heading.framing ≡ framed.Chunked → t ≡ [] → u ≡ b
    → t' ≡ t ++ take heading.len u → u' ≡ drop heading.len u → HoldsAs settings (Body (Line 0)) t' u' b (continue_if heading.awaits)
chunks_begin settings heading b t u t' u' x is none all kept rest = (
  x.head,
  drop heading.len b,
  x.there,
  ap continue_if x.awaits,
  (
    sym x.framed ∙ is,
    record {
      chunks = [];
      each = All-nil IsChunk;
      within = omega arith;
      carried = omega arith;
      whole = sym (rest ∙ ap (drop heading.len) all);
      kept = head_taken settings heading b t u t' x none all kept ∙ sym (append-nil (print_request x.head));
    },
  ),
)

-- ---- a request that was taken

module _ (settings : Settings) (taken unread b said : Text) (w : HoldsWhole settings taken unread b said) where
  pub item_request : IsRequest settings (record { head = w.head; coded = w.body.coded; body = w.body.body })
  item_request = record { head = w.there.begins.reads.0; short = w.there.begins.short; few = w.there.few; body = w.body.is_body }

  pub item_begins : b ≡ (print_request w.head ++ w.body.coded) ++ unread
  item_begins =
      w.there.begins.reads.1 ∙ ap (λ (y : Text). print_request w.head ++ y) w.body.whole ∙ sym (append_assoc (print_request w.head) w.body.coded unread)

  module _ (fields : List HeaderSpan) (spans : RequestSpans) (k : RequestHead) (read : HeadIsRead taken fields spans k) where
    -- the head that is found where it stands is the one that was taken
    same_head : (k ≡ w.head) × (drop spans.len taken ≡ w.body.body)
    same_head = request_unique taken k w.head (drop spans.len taken) w.body.body (read.head, read.begins) (w.there.begins.reads.0, w.body.kept)

    pub item_taken : IsTaken taken fields spans (record { head = w.head; coded = w.body.coded; body = w.body.body })
    item_taken = record {
      at = subst (λ (h : RequestHead). IsHeadAt (take spans.len taken) (take spans.headers fields) spans h) same_head.0 read.at;
      body = same_head.1;
    }

  -- what was taken begins with its head
  pub head_there : HeadIsThere w.head taken w.body.body
  head_there = record {
    begins = record { reads = (w.there.begins.reads.0, w.body.kept); short = w.there.begins.short };
    few = w.there.few;
  }

module _ (h : RequestHead) (taken v : Text) (x : HeadIsThere h taken v) where
  pub not_without_head : HasNoRequest taken → ⊥
  not_without_head none = none h v x.begins.reads

  pub not_hopeless : ((tail : Text) → HoldsNoHead (taken ++ tail)) → ⊥
  not_hopeless never =
      head_readable (taken ++ []) (inl (never [])) h v
      (record { reads = (x.begins.reads.0, append-nil taken ∙ x.begins.reads.1); short = x.begins.short }) x.few

-- what the spans say of the end of the connection
pub closes_at : (head : Text) (fields : List HeaderSpan) (spans : RequestSpans) (i : Item) → IsHeadAt head fields spans i.head
    → closes_by spans.version (map (header_bytes head) fields) ≡ closes i
closes_at head fields spans i at = ap (λ v. closes_by v (map (header_bytes head) fields)) at.minor ∙ ap (closes_by i.head.minor) at.fields
