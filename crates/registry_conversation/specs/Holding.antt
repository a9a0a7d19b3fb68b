-- Which bytes a conversation may hold: those that came since the last request that was answered.
use Rattle.std.specs.Prelude.{◌≡◌, []}
use Rattle.httparse.specs.Grammar.{RequestHead, print_request}
use Rattle.oci_types.specs.Text.{Text}
use Rattle.registry_model.specs.declared.settings.Settings.{Settings}
use Rattle.registry_http.specs.Framing.{framing}
use Rattle.registry_http.specs.Expecting.{text_before}
use Rattle.registry_conversation.specs.declared.phase.Phase.{Phase}
use Rattle.registry_conversation.specs.declared.phase.Phase.TheVariants.{Head, Body, Ended}
use Rattle.registry_conversation.specs.Headings.{HeadIsThere}
use Rattle.registry_conversation.specs.Parts.{IsPart, BodyIsWhole}
use Rattle.registry_conversation.specs.Shown.{Shown}

-- the bytes b came, and said was put out of the text of the request that they begin with: nothing, as long as
-- its head is not taken, and then what stands before its body
abbrev pub HoldsAs : Settings → Phase → Text → Text → Text → Text → Type 0
HoldsAs settings Head taken unread b said = (taken ≡ []) × (unread ≡ b) × (said ≡ [])
HoldsAs settings (Body part) taken unread b said =
    (h : RequestHead) × (v : Text) × HeadIsThere h b v × (said ≡ text_before settings h)
    × IsPart settings part (framing settings h) (print_request h) v taken unread
HoldsAs settings (Ended e) taken unread b said = ⊥

abbrev pub Holds : Settings → Shown → Text → Text → Type 0
Holds settings c b said = HoldsAs settings c.phase c.taken c.unread b said

-- the request that b begins with was taken, and what stands before its body was put out
pub record HoldsWhole (settings : Settings) (taken unread b said : Text) : Type 0 where
  pub head : RequestHead
  pub behind : Text
  pub there : HeadIsThere head b behind
  pub said_is : said ≡ text_before settings head
  pub body : BodyIsWhole settings (framing settings head) (print_request head) behind taken unread
