-- What one turn of a conversation comes to.
use Rattle.std.specs.Prelude.{◌≡◌, ℕ, ◌<◌, ◌≤◌, ◌⊎◌, true, false, [], ◌++◌, length, take, Option, Some}
use Rattle.std.specs.Io.KnownBytes.{Consumes, IsAtEnd}
use Rattle.std.specs.Bool.{MatchBool}
use Rattle.oci_types.specs.Text.{Text}
use Rattle.registry_model.specs.Answer.{Answer}
use Rattle.registry_model.specs.declared.settings.Settings.{Settings}
use Rattle.registry_model.specs.Keeping.{State}
use Rattle.registry_model.specs.Doing.{Does}
use Rattle.registry_http.specs.Asking.{ask_in}
use Rattle.registry_http.specs.Ending.{SendsRefusal}
use Rattle.registry_http.specs.Expecting.{text_before, IsBefore}
use Rattle.registry_http.specs.ReplyText.{refusal_text}
use Rattle.registry_http.specs.Serving.{reply_for}
use Rattle.registry_http.specs.Spelling.{Item, IsRequest, IsCut, IsRefused, print_item, closes}
use Rattle.registry_http.specs.declared.ending.FramingRefusal.{FramingRefusal}
use Rattle.registry_http.specs.declared.ending.FramingRefusal.TheVariants.{NoBufferMemory}
use Rattle.registry_http.specs.declared.ending.End.{End}
use Rattle.registry_http.specs.declared.ending.End.TheVariants.{Closed, Cut, Refused, ReadFailed, WriteFailed}
use Rattle.registry_conversation.specs.declared.phase.Phase.TheVariants as phase
use Rattle.registry_conversation.specs.declared.phase.Step.{Step}
use Rattle.registry_conversation.specs.declared.phase.Step.TheVariants as step
use Rattle.registry_conversation.specs.Shown.{Shown, listens, with_more, with_finished, with_phase, coming_len, turns_left}
use Rattle.registry_conversation.specs.Holding.{Holds}

-- ---- where before was put out already, behind going, of the text of the request that b begins with

-- that request is answered as the definitions say, the reply is put out, and what follows it is held
pub record AnswersFirst (settings : Settings) (b before going : Text) (s s' : State) (new : Shown)
    : Type 0 where
  pub item : Item
  pub rest : Text
  pub answer : Answer
  pub request : IsRequest settings item
  pub begins : b ≡ print_item item ++ rest
  pub before_is : before ≡ text_before settings item.head
  pub does : Does s (ask_in settings item.head item.body) answer s'
  pub put : new.going ≡ going ++ reply_for item answer
  pub goes_on : MatchBool (closes item) (new.phase ≡ phase.Ended Closed) (Holds settings new rest [])

-- b holds no whole request, and none that is refused; nothing is done
pub record WaitsForMore (settings : Settings) (b before going : Text) (s s' : State) (new : Shown)
    : Type 0 where
  pub goes_on : new.finished ≡ false
  pub cut : (b ≡ []) ⊎ IsCut settings b
  pub before_is : IsBefore settings b before
  pub holds : Holds settings new b before
  pub put : new.going ≡ going
  pub same : s' ≡ s

-- the head that b begins with was taken, and before its body, which takes turns of its own, first was put
pub record PutsInterim (settings : Settings) (b before going : Text) (s s' : State) (new : Shown)
    : Type 0 where
  pub first : Text
  pub unsaid : before ≡ []
  pub first_is : (tail : Text) → IsBefore settings (b ++ tail) first
  pub holds : Holds settings new b first
  pub put : new.going ≡ going ++ first
  pub same : s' ≡ s

-- the request is refused, whatever bytes follow
abbrev pub IsRefusedThere : Settings → Text → Text → FramingRefusal → Type 0
IsRefusedThere settings b before r =
    (tail : Text) → IsRefused settings (b ++ tail) r × IsBefore settings (b ++ tail) before

-- memory was wanting for the text in hand: its first n bytes are put out
pub data PutsPart (settings : Settings) (n : ℕ) (b before going : Text) (s s' : State) (going' : Text)
    : Type 0 where
  -- the reply of a request that took effect
  replying : (i : Item) (rest : Text) (a : Answer) → IsRequest settings i → b ≡ print_item i ++ rest
      → before ≡ text_before settings i.head → Does s (ask_in settings i.head i.body) a s'
      → n < length (reply_for i a) → going' ≡ going ++ take n (reply_for i a)
      → PutsPart settings n b before going s s' going'
  -- a refusal's
  refusing : (r : FramingRefusal) → IsRefusedThere settings b before r → n < length (refusal_text r)
      → going' ≡ going ++ take n (refusal_text r) → s' ≡ s → PutsPart settings n b before going s s' going'
  -- what stands before a body
  continuing : (text : Text) → before ≡ [] → ((tail : Text) → IsBefore settings (b ++ tail) text)
      → n < length text → going' ≡ going ++ take n text → s' ≡ s
      → PutsPart settings n b before going s s' going'

-- no further request is answered, and why
abbrev pub EndsAs : Settings → End → Text → Text → Text → State → State → Shown → Type 0
EndsAs settings Closed b before going s s' new =
    (new.finished ≡ true) × (b ≡ []) × (before ≡ []) × (new.going ≡ going) × (s' ≡ s)
EndsAs settings Cut b before going s s' new =
    (new.finished ≡ true) × IsCut settings b × IsBefore settings b before × (new.going ≡ going) × (s' ≡ s)
EndsAs settings (Refused r) b before going s s' new =
    IsRefusedThere settings b before r × (new.going ≡ going ++ refusal_text r) × (s' ≡ s)
EndsAs settings ReadFailed b before going s s' new = ⊥
EndsAs settings (WriteFailed n) b before going s s' new = PutsPart settings n b before going s s' new.going

abbrev pub ActsAs : Settings → Step → Text → Text → Text → State → State → Shown → Type 0
ActsAs settings step.Answered b before going s s' new = AnswersFirst settings b before going s s' new
ActsAs settings step.Interim b before going s s' new = PutsInterim settings b before going s s' new
ActsAs settings step.Waits b before going s s' new = WaitsForMore settings b before going s s' new
ActsAs settings (step.Ended e) b before going s s' new =
    (new.phase ≡ phase.Ended e) × EndsAs settings e b before going s s' new

-- ---- one turn

-- said was put out before, of the text of the request in hand
abbrev pub Acts : Settings → Step → Text → Text → Shown → State → State → Shown → Type 0
Acts settings found b said old s s' new = ActsAs settings found b said old.going s s' new

-- turns come to an end, which a further one says again, or to more bytes being waited for
abbrev pub LeadsOn : Step → Shown → Shown → Type 0
LeadsOn step.Answered old new = turns_left new < turns_left old
LeadsOn step.Interim old new = turns_left new < turns_left old
LeadsOn step.Waits old new = (turns_left new ≤ turns_left old) × (listens new ≡ true)
LeadsOn (step.Ended e) old new = new.phase ≡ phase.Ended e

-- ---- parts of a turn

-- the refusal is put out, or so many of its first bytes, and nothing more comes of it; what came is let go
pub record Refuses (found : Step) (r : FramingRefusal) (old new : Shown) : Type 0 where
  pub end : End
  pub found_is : found ≡ step.Ended end
  pub sends : SendsRefusal end r (Some old.going) (Some new.going)
  pub ended : new.phase ≡ phase.Ended end
  pub finished : new.finished ≡ old.finished
  pub none_held : coming_len new ≡ 0

-- no memory for the bytes that came
pub record LacksMemory (old new : Shown) : Type 0 where
  pub end : End
  pub sends : SendsRefusal end NoBufferMemory (Some old.going) (Some new.going)
  pub ended : new.phase ≡ phase.Ended end
  pub finished : new.finished ≡ old.finished

-- the bytes came behind those that are held, and nothing else is done
abbrev pub Comes : Text → Shown → Shown → Type 0
Comes bytes old new =
    (new ≡ with_more old bytes)
    × ((settings : Settings) (b said : Text) → Holds settings old b said
    → Holds settings new (b ++ bytes) said)

-- the same; or no memory
abbrev pub Receives : Text → Shown → Shown → Type 0
Receives bytes old new = Comes bytes old new ⊎ LacksMemory old new

-- bytes that the reader gave up came, at least one, or no memory; or it has none left
abbrev pub Reads : Option Text → Option Text → Shown → Shown → Type 0
Reads left left' old new =
    (((bytes : Text) × (0 < length bytes) × Consumes left left' bytes × Comes bytes old new)
    ⊎ LacksMemory old new)
    ⊎ (Consumes left left' [] × IsAtEnd left' × (new ≡ with_finished old))

-- more bytes are waited for; or where none come any more that is the end
abbrev pub Waited : Step → End → Shown → Shown → Type 0
Waited found e old new = MatchBool old.finished
    ((found ≡ step.Ended e) × (new ≡ with_phase old (phase.Ended e)))
    ((found ≡ step.Waits) × (new ≡ old))
