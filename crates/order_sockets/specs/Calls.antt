-- What callers show.
use Rattle.std.specs.Prelude.{List, map}
use Rattle.order_sockets.specs.declared.caller.Caller.{Caller}
use Rattle.order_sockets.specs.Calling.{Called}

abbrev pub called : Caller → Called
called c = record {
  heard = c.heard.items;
  answered = c.answered;
  answer = c.answer.items;
  over = c.over;
  stops = c.stops;
}

abbrev pub all_called : List Caller → List Called
all_called callers = map called callers
