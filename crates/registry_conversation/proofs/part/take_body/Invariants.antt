use Rattle.std.specs.Prelude.{◌≡◌, ◌++◌}
use Rattle.oci_types.specs.Text.{Text}
use Rattle.registry_http.specs.Buffering.{before, behind}
use Rattle.registry_http.specs.declared.framing.Framing.{Framing}
use Rattle.registry_conversation.specs.Parts.{IsPart, LetsGo, rank}
use Rattle.registry_conversation.proofs.part.take_body.Given as goal

-- the parts before the next were taken
abbrev pub invariant-parts : goal.invariant-parts
invariant-parts l = record {
  taken : (more : Text) × (before l.buffer ≡ before l.fn.buffer ++ more)
      × ((framing : Framing) (front v carried : Text) → IsPart l.fn.settings l.fn.part framing front v carried (behind l.fn.buffer)
      → IsPart l.fn.settings l.next framing front v (carried ++ more) (behind l.buffer));
  fewer : LetsGo (before l.fn.buffer) (behind l.fn.buffer) (before l.buffer) (behind l.buffer);
}

abbrev pub decreases-parts : goal.decreases-parts
decreases-parts l = rank l.fn.settings l.next
