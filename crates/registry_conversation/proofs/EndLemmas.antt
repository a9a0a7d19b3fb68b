-- What a connection's end says does not depend on what is left behind it.
use Rattle.std.proofs.Common.{◌≡◌, ℕ, ◌⊎◌, inl, inr, List, Option}
use Rattle.oci_types.specs.Text.{Text}
use Rattle.registry_http.specs.Ending.{SendsRefusal}
use Rattle.registry_http.specs.Serving.{Traffic, Answers, StopsForMemory, InHand, replying, refusing, continuing, Serves, Gave}
use Rattle.registry_http.specs.Spelling.{Item}
use Rattle.registry_http.specs.declared.ending.FramingRefusal.{FramingRefusal}
use Rattle.registry_http.specs.declared.ending.FramingRefusal.TheVariants.{NoBufferMemory}
use Rattle.registry_http.specs.declared.ending.End.{End}
use Rattle.registry_http.specs.declared.ending.End.TheVariants.{Closed, Cut, Refused, ReadFailed, WriteFailed}
use Rattle.registry_conversation.specs.ConversationEvents.{ServedTo}

answers_off : (b : Text) (e : End) (t : Traffic) (l : Option Text) → Answers b e t → Answers b e (record t { left' = l })
answers_off b e t l x = record {
  items = x.items;
  texts = x.texts;
  spells = x.spells;
  before = x.before;
  leftover = x.leftover;
  run = x.run;
  written = x.written;
}

memory_off : (b : Text) (t : Traffic) (l : Option Text) → StopsForMemory b t → StopsForMemory b (record t { left' = l })
memory_off b t l x = record {
  items = x.items;
  texts = x.texts;
  rest = x.rest;
  front = x.front;
  before = x.before;
  is_before = x.is_before;
  run = x.run;
  written = x.written;
}

hand_off : (rest before text : Text) (t : Traffic) (l : Option Text) (items : List Item) (texts : List Text) → InHand rest before text t items texts
    → InHand rest before text (record t { left' = l }) items texts
hand_off rest before text t l items texts (replying i behind begins request same run) = replying i behind begins request same run
hand_off rest before text t l items texts (refusing r is bad run) = refusing r is bad run
hand_off rest before text t l items texts (continuing none is run) = continuing none is run

-- at an end that a request or the input's end brings
pub off_end : (e : End) (t : Traffic) (l : Option Text) → Gave t.left (λ b. Answers b e t) → Gave t.left (λ b. Answers b e (record t { left' = l }))
off_end e t l x = (x.0, x.1, answers_off x.0 e t l x.2)

pub off_refused : (r : FramingRefusal) (t : Traffic) (l : Option Text) → Serves (Refused r) t → Serves (Refused r) (record t { left' = l })
off_refused r t l x = (x.0, x.1, by_case x.2)
  where
    by_case : Answers x.0 (Refused r) t ⊎ ((r ≡ NoBufferMemory) × StopsForMemory x.0 t)
        → Answers x.0 (Refused r) (record t { left' = l }) ⊎ ((r ≡ NoBufferMemory) × StopsForMemory x.0 (record t { left' = l }))
    by_case (inl y) = inl (answers_off x.0 (Refused r) t l y)
    by_case (inr y) = inr (y.0, memory_off x.0 t l y.1)

pub off_write : (n : ℕ) (t : Traffic) (l : Option Text) → Serves (WriteFailed n) t → Serves (WriteFailed n) (record t { left' = l })
off_write n t l x =
    let y = x.2 in (
      x.0,
      x.1,
      record {
        items = y.items;
        texts = y.texts;
        rest = y.rest;
        front = y.front;
        before = y.before;
        text = y.text;
        short = y.short;
        written = y.written;
        in_hand = hand_off y.rest y.before y.text t l y.items y.texts y.in_hand;
      },
    )

-- an end at which a refusal was sent is none of a read
pub told : (e : End) (r : FramingRefusal) (held held' : Option Text) (t : Traffic) → SendsRefusal e r held held' → Serves e t → ServedTo e t
told Closed r held held' t s x = x
told Cut r held held' t s x = x
told (Refused q) r held held' t s x = x
told ReadFailed r held held' t s x = absurd s
told (WriteFailed n) r held held' t s x = x
