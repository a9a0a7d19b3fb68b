-- What the connections show.
use Rattle.registry_server.specs.declared.connections.Connections.{Connections}
use Rattle.registry_server.specs.Open.{Open}
use Rattle.registry_server.specs.Slots.{slots_of}

abbrev pub connected : Connections → Open
connected c = record {
  slots = slots_of c.connections.items;
  next = c.next;
  bounds = c.bounds;
  settings = c.settings;
}
