-- A head at the front of the unread bytes, and one that was taken.
use Rattle.std.specs.Prelude.{◌≡◌, ◌≤◌, ◌⊎◌, List, [], ◌++◌, length, take, drop}
use Rattle.httparse.specs.Grammar.{RequestHead, IsRequestHead, print_request}
use Rattle.httparse.specs.declared.spans.HeaderSpan.{HeaderSpan}
use Rattle.httparse.specs.declared.spans.RequestSpans.{RequestSpans}
use Rattle.oci_types.specs.Text.{Text}
use Rattle.registry_model.specs.declared.settings.Settings.{Settings}
use Rattle.registry_http.specs.Limits.{most_fields}
use Rattle.registry_http.specs.Fields.{fields_of}
use Rattle.registry_http.specs.Framing.{framing}
use Rattle.registry_http.specs.Expecting.{awaits_by}
use Rattle.registry_http.specs.Reading.{IsHeadAt}
use Rattle.registry_http.specs.Spelling.{Item, BeginsWithHead, HeadIsCut, HeadIsUnreadable}
use Rattle.registry_conversation.specs.declared.heading.Heading.{Heading}
use Rattle.registry_conversation.specs.declared.heading.FoundHead.{FoundHead}
use Rattle.registry_conversation.specs.declared.heading.FoundHead.TheVariants.{Whole, NotYet, Never}

-- b begins with the head h, of not too many fields, and v stands behind it
pub record HeadIsThere (h : RequestHead) (b v : Text) : Type 0 where
  pub begins : BeginsWithHead b h v
  pub few : length h.fields ≤ most_fields

-- the bytes are a head, and nothing else
abbrev pub IsHead : Text → Type 0
IsHead b = (h : RequestHead) × IsRequestHead h × (b ≡ print_request h)

-- b begins with a head of which this is known
pub record BeginsAt (settings : Settings) (heading : Heading) (b : Text) : Type 0 where
  pub head : RequestHead
  pub there : HeadIsThere head b (drop heading.len b)
  pub len : heading.len ≡ length (print_request head)
  pub framed : heading.framing ≡ framing settings head
  pub awaits : heading.awaits ≡ awaits_by head.minor (fields_of head) (framing settings head)

abbrev pub FindsHead : Settings → FoundHead → Text → Type 0
FindsHead settings (Whole heading) b = BeginsAt settings heading b
FindsHead settings NotYet b = (b ≡ []) ⊎ HeadIsCut b
FindsHead settings Never b = (tail : Text) → HeadIsUnreadable (b ++ tail)

-- the spans cover the parts of the request's head, and what it carries stands behind that
pub record IsTaken (taken : Text) (fields : List HeaderSpan) (spans : RequestSpans) (i : Item) : Type 0 where
  pub at : IsHeadAt (take spans.len taken) (take spans.headers fields) spans i.head
  pub body : drop spans.len taken ≡ i.body
