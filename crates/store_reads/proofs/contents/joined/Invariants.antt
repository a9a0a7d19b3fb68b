use Rattle.std.proofs.Common.{◌≡◌, map, take}
use Rattle.std.specs.Prelude.{⊤}
use Rattle.std.specs.List.{concat}
use Rattle.sqlite.specs.State.{HasCleanDisk, Survives}
use Rattle.sqlite.specs.Held.{state}
use Rattle.store_statements.specs.World.{content_at}
use Rattle.store_statements.specs.Held.{IsSettled, StaysSettled, held}
use Rattle.store_bytes.specs.Reading.{IsReadable, IsAsWas}
use Rattle.store_reads.proofs.contents.joined.Given as goal

-- nothing has changed, and the buffer holds the contents so far
abbrev pub invariant-loop-id : goal.invariant-loop-id
invariant-loop-id g l =
    let kept = g.C.Contents.layout l.fn.contents in
    let old = state g.S.Store l.fn.conn in
    let now = state g.S.Store l.conn in
    record {
      survives : Survives old now (λ _. ⊤);
      same : IsAsWas g.C.Contents l.fn.contents l.contents;
      settled : HasCleanDisk now → IsSettled kept old → StaysSettled kept old now;
      bytes : IsReadable g.C.Contents l.fn.contents l.contents old → HasCleanDisk now → IsSettled kept old → l.bytes.items ≡ concat (map (λ id. content_at (held kept old).contents id.id) (take l.id-index l.ids));
    }
