-- What a conversation shows.
use Rattle.registry_http.specs.Buffering.{before, behind}
use Rattle.registry_conversation.specs.declared.conversation.Conversation.{Conversation}
use Rattle.registry_outbox.specs.Outboxes.{left}
use Rattle.registry_conversation.specs.Shown.{Shown}
use Rattle.registry_conversation.specs.declared.body_place.BodyPlace.TheVariants.{Buffer}

abbrev pub shown : Conversation → Shown
shown c = record {
  phase = c.phase;
  place = Buffer;
  taken = before c.buffer;
  unread = behind c.buffer;
  finished = c.finished;
  going = left c.outbox;
}
