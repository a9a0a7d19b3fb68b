-- What one connection comes to, whatever is done on others: the requests that its bytes begin with, each with
-- its answer, and the bytes that were put out.
use Rattle.std.specs.Prelude.{◌≡◌, ℕ, ◌<◌, ◌⊎◌, List, [], ◌∷◌, ◌++◌, length, take, map}
use Rattle.oci_types.specs.Text.{Text}
use Rattle.registry_model.specs.declared.settings.Settings.{Settings}
use Rattle.registry_model.specs.Answer.{Answer}
use Rattle.registry_http.specs.Expecting.{text_before, IsBefore}
use Rattle.registry_http.specs.ReplyText.{refusal_text}
use Rattle.registry_http.specs.Serving.{reply_for, text_for, joined, end_text, Leftover, IsRefusedBehind}
use Rattle.registry_http.specs.Spelling.{Item, IsRequest, print_item, Spells, Front}
use Rattle.registry_http.specs.declared.ending.FramingRefusal.{FramingRefusal}
use Rattle.registry_http.specs.declared.ending.FramingRefusal.TheVariants.{NoBufferMemory}
use Rattle.registry_http.specs.declared.ending.End.{End}
use Rattle.registry_http.specs.declared.ending.End.TheVariants.{Closed, Cut, Refused, ReadFailed, WriteFailed}
use Rattle.registry_conversation.specs.declared.phase.Phase.{Phase}
use Rattle.registry_conversation.specs.declared.phase.Phase.TheVariants.{Head, Body, Ended}
use Rattle.registry_conversation.specs.Shown.{Shown}
use Rattle.registry_conversation.specs.Holding.{Holds}

-- a request that was answered, and its answer
pub record Replied : Type 0 where
  pub item : Item
  pub answer : Answer

abbrev pub items_of : List Replied → List Item
items_of replies = map (λ r. r.item) replies

-- what is put out for each of them, one behind the other
abbrev pub texts_of : Settings → List Replied → Text
texts_of settings replies = joined (map (λ r. text_for settings r.item r.answer) replies)

-- b is these requests and then what is held, and all that was put out are the texts of the replies to them
-- and what was said of the next
pub record SoFar (settings : Settings) (b out : Text) (replies : List Replied) (c : Shown) : Type 0 where
  pub rest : Text
  pub said : Text
  pub front : Front settings b (items_of replies) rest
  pub put : out ≡ texts_of settings replies ++ said
  pub holds : Holds settings c rest said

-- b spells these requests and this end, and what was put out are the texts of the replies, what stands before
-- the body of a request that is cut or refused there, and the end's own text
pub record Answers (settings : Settings) (b : Text) (end : End) (out : Text) (replies : List Replied)
    : Type 0 where
  pub spells : Spells settings b (items_of replies) end
  pub before : Text
  pub leftover : Leftover settings b (items_of replies) before
  pub put : out ≡ texts_of settings replies ++ (before ++ end_text end)

-- no memory for the bytes that came: the requests before are answered, and nothing else is done
pub record StopsForMemory (settings : Settings) (b out : Text) (replies : List Replied) : Type 0 where
  pub rest : Text
  pub front : Front settings b (items_of replies) rest
  pub before : Text
  pub is_before : (before ≡ []) ⊎ IsBefore settings rest before
  pub put : out ≡ texts_of settings replies ++ (before ++ refusal_text NoBufferMemory)

-- the text in hand, behind the replies of earlier, with what was put out before it of the same request
pub data InHand (settings : Settings) (rest before text : Text) (earlier replies : List Replied)
    : Type 0 where
  -- the reply of a request that took effect
  replying : (i : Item) (a : Answer) (behind : Text) → rest ≡ print_item i ++ behind → IsRequest settings i
      → before ≡ text_before settings i.head → text ≡ reply_for i a
      → replies ≡ earlier ++ record { item = i; answer = a } ∷ []
      → InHand settings rest before text earlier replies
  -- a refusal's
  refusing : (r : FramingRefusal) → text ≡ refusal_text r → IsRefusedBehind settings rest before r
      → replies ≡ earlier → InHand settings rest before text earlier replies
  -- what stands before a body, which was not taken then
  continuing : before ≡ [] → IsBefore settings rest text → replies ≡ earlier
      → InHand settings rest before text earlier replies

-- no memory for what is to go out: of the text in hand the first n bytes were put out
pub record StopsAtWrite (settings : Settings) (b : Text) (n : ℕ) (out : Text) (replies : List Replied)
    : Type 0 where
  pub earlier : List Replied
  pub rest : Text
  pub front : Front settings b (items_of earlier) rest
  pub before : Text
  pub text : Text
  pub short : n < length text
  pub put : out ≡ texts_of settings earlier ++ (before ++ take n text)
  pub in_hand : InHand settings rest before text earlier replies

-- there is no further request, and why
abbrev pub EndsSo : Settings → End → Text → Text → List Replied → Type 0
EndsSo settings Closed b out replies = Answers settings b Closed out replies
EndsSo settings Cut b out replies = Answers settings b Cut out replies
EndsSo settings (Refused r) b out replies =
    Answers settings b (Refused r) out replies
    ⊎ ((r ≡ NoBufferMemory) × StopsForMemory settings b out replies)
EndsSo settings ReadFailed b out replies = ⊥
EndsSo settings (WriteFailed n) b out replies = StopsAtWrite settings b n out replies

-- of the bytes b that came and all that were put out, by where the conversation stands
abbrev pub AccountsAs : Settings → Phase → Text → Text → List Replied → Shown → Type 0
AccountsAs settings Head b out replies c = SoFar settings b out replies c
AccountsAs settings (Body part) b out replies c = SoFar settings b out replies c
AccountsAs settings (Ended e) b out replies c = EndsSo settings e b out replies

abbrev pub Accounts : Settings → Text → Text → List Replied → Shown → Type 0
Accounts settings b out replies c = AccountsAs settings c.phase b out replies c
