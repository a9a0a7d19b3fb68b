-- What a connection does, by its end.
use Rattle.std.specs.Prelude.{◌≡◌, ℕ, ◌<◌, ◌⊎◌, List, [], ◌∷◌, ◌++◌, length, take, Option, IfSome}
use mathlib.Core.Logic.{inl, inr}
use Rattle.std.specs.Bool.{MatchBool}
use Rattle.std.specs.List.{flat_map}
use Rattle.std.specs.Io.KnownBytes.{Consumes, Appends}
use Rattle.oci_types.specs.Text.{Text}
use Rattle.registry_model.specs.Answer.{Answer}
use Rattle.registry_model.specs.Keeping.{State}
use Rattle.registry_model.specs.Doing.{Does}
use Rattle.registry_model.specs.Heads.{is_head}
use Rattle.registry_model.specs.declared.settings.Settings.{Settings}
use Rattle.registry_http.specs.Asking.{ask_in, verb_of}
use Rattle.registry_http.specs.Spelling.{Item, IsRequest, IsRefused, print_item, closes, Spells, Front}
use Rattle.registry_http.specs.Expecting.{text_before, IsBefore}
use Rattle.registry_http.specs.ReplyText.{reply_text, refusal_text}
use Rattle.registry_http.specs.declared.ending.FramingRefusal.{FramingRefusal}
use Rattle.registry_http.specs.declared.ending.FramingRefusal.TheVariants.{NoBufferMemory}
use Rattle.registry_http.specs.declared.ending.End.{End}
use Rattle.registry_http.specs.declared.ending.End.TheVariants.{Closed, Cut, Refused, ReadFailed, WriteFailed}

-- the text of the reply to a request
abbrev pub reply_for : Item → Answer → Text
reply_for i a = reply_text (is_head (verb_of i.head.method)) (closes i) a

-- what is written for a request that is answered
abbrev pub text_for : Settings → Item → Answer → Text
text_for settings i a = text_before settings i.head ++ reply_for i a

-- a request is answered as the definitions say, and the text is that of the answer
abbrev pub Replies : Settings → State → Item → Text → State → Type 0
Replies settings s i text s' =
    (a : Answer) × Does s (ask_in settings i.head i.body) a s' × (text ≡ text_for settings i a)

-- requests are answered, one after the other
abbrev pub Run : Settings → State → List Item → List Text → State → Type 0
Run settings s [] [] s' = s' ≡ s
Run settings s (i ∷ items) (text ∷ texts) s' =
    (mid : State) × Replies settings s i text mid × Run settings mid items texts s'
Run settings s [] (text ∷ texts) s' = ⊥
Run settings s (i ∷ items) [] s' = ⊥

abbrev pub joined : List Text → Text
joined texts = flat_map (λ t. t) texts

abbrev pub end_text : End → Text
end_text Closed = []
end_text Cut = []
end_text (Refused r) = refusal_text r
end_text ReadFailed = []
end_text (WriteFailed n) = []

-- what a connection took and gave, with its settings: the bytes that the reader had left before and after,
-- those that the writer held, and the service's states
pub record Traffic : Type 0 where
  pub settings : Settings
  pub left : Option Text
  pub left' : Option Text
  pub held : Option Text
  pub held' : Option Text
  pub state : State
  pub state' : State

-- behind these requests, which b begins with, stands a request of which this is written, or none does
abbrev pub Leftover : Settings → Text → List Item → Text → Type 0
Leftover settings b [] text = IsBefore settings b text
Leftover settings b (i ∷ items) text =
    (rest : Text) × (b ≡ print_item i ++ rest)
    × MatchBool (closes i) (text ≡ []) (Leftover settings rest items text)

-- b spells requests and this end, and what was written are the replies to them, what stands before the body
-- of a request that is cut or refused there, and the end's own text
pub record Answers (b : Text) (end : End) (t : Traffic) : Type 0 where
  pub items : List Item
  pub texts : List Text
  pub spells : Spells t.settings b items end
  pub before : Text
  pub leftover : Leftover t.settings b items before
  pub run : Run t.settings t.state items texts t.state'
  pub written : Appends t.held t.held' (joined texts ++ (before ++ end_text end))

-- no memory for the connection's buffer: the requests before are answered, and nothing else is done
pub record StopsForMemory (b : Text) (t : Traffic) : Type 0 where
  pub items : List Item
  pub texts : List Text
  pub rest : Text
  pub front : Front t.settings b items rest
  pub before : Text
  pub is_before : (before ≡ []) ⊎ IsBefore t.settings rest before
  pub run : Run t.settings t.state items texts t.state'
  pub written : Appends t.held t.held' (joined texts ++ (before ++ refusal_text NoBufferMemory))

-- behind so much of a request's text a refusal is written: the request is refused, or memory is wanting
abbrev pub IsRefusedBehind : Settings → Text → Text → FramingRefusal → Type 0
IsRefusedBehind settings rest before r =
    (IsRefused settings rest r × IsBefore settings rest before)
    ⊎ ((r ≡ NoBufferMemory) × ((before ≡ []) ⊎ IsBefore settings rest before))

-- the text in hand, with what was written before it of the same request
pub data InHand (rest before text : Text) (t : Traffic) (items : List Item) (texts : List Text) : Type 0 where
  -- the reply of a request that was answered by it
  replying : (i : Item) → (rest' : Text) → rest ≡ print_item i ++ rest' → IsRequest t.settings i
      → before ≡ text_before t.settings i.head
      → Run t.settings t.state (items ++ i ∷ []) (texts ++ (before ++ text) ∷ []) t.state'
      → InHand rest before text t items texts
  -- a refusal's
  refusing : (r : FramingRefusal) → text ≡ refusal_text r → IsRefusedBehind t.settings rest before r
      → Run t.settings t.state items texts t.state' → InHand rest before text t items texts
  -- what stands before a body, which was not read then
  continuing : before ≡ [] → IsBefore t.settings rest text → Run t.settings t.state items texts t.state'
      → InHand rest before text t items texts

-- a write failed: the texts before went out whole, and of the text in hand the first n bytes
pub record StopsAtWrite (b : Text) (n : ℕ) (t : Traffic) : Type 0 where
  pub items : List Item
  pub texts : List Text
  pub rest : Text
  pub front : Front t.settings b items rest
  pub before : Text
  pub text : Text
  pub short : n < length text
  pub written : Appends t.held t.held' (joined texts ++ (before ++ take n text))
  pub in_hand : InHand rest before text t items texts

-- a read failed: the bytes before it are answered as if they were all
pub record StopsAtRead (t : Traffic) : Type 0 where
  pub read : Text
  pub consumed : Consumes t.left t.left' read
  pub answers : Answers read Closed t ⊎ Answers read Cut t

-- there are bytes, all that the reader had left where it tells, of which P holds
abbrev pub Gave : Option Text → (Text → Type 0) → Type 0
Gave left P = (b : Text) × IfSome left (λ known. known ≡ b) × P b

-- what a connection did, by its end
abbrev pub Serves : End → Traffic → Type 0
Serves Closed t = Gave t.left (λ b. Answers b Closed t)
Serves Cut t = Gave t.left (λ b. Answers b Cut t)
Serves (Refused r) t =
    Gave t.left (λ b. Answers b (Refused r) t ⊎ ((r ≡ NoBufferMemory) × StopsForMemory b t))
Serves ReadFailed t = StopsAtRead t
Serves (WriteFailed n) t = Gave t.left (λ b. StopsAtWrite b n t)

-- ---- the requests that were answered on a connection, in order, and their texts

abbrev pub of_hand : (rest before text : Text) (t : Traffic) (items : List Item) (texts : List Text)
    → InHand rest before text t items texts → List Item × List Text
of_hand rest before text t items texts (replying i _ _ _ _ _) =
    (items ++ i ∷ [], texts ++ (before ++ text) ∷ [])
of_hand rest before text t items texts (refusing _ _ _ _) = (items, texts)
of_hand rest before text t items texts (continuing _ _ _) = (items, texts)

abbrev pub of_refusal : (b : Text) (r : FramingRefusal) (t : Traffic)
    → Answers b (Refused r) t ⊎ ((r ≡ NoBufferMemory) × StopsForMemory b t) → List Item × List Text
of_refusal b r t (inl h) = (h.items, h.texts)
of_refusal b r t (inr h) = (h.1.items, h.1.texts)

abbrev pub of_broken : (b : Text) (t : Traffic) → Answers b Closed t ⊎ Answers b Cut t → List Item × List Text
of_broken b t (inl h) = (h.items, h.texts)
of_broken b t (inr h) = (h.items, h.texts)

abbrev pub served : (e : End) (t : Traffic) → Serves e t → List Item × List Text
served Closed t h = (h.2.items, h.2.texts)
served Cut t h = (h.2.items, h.2.texts)
served (Refused r) t h = of_refusal h.0 r t h.2
served ReadFailed t h = of_broken h.read t h.answers
served (WriteFailed n) t h = of_hand h.2.rest h.2.before h.2.text t h.2.items h.2.texts h.2.in_hand
