use Rattle.std.specs.Prelude.{⊤}
use Rattle.sqlite.specs.State.{HasCleanDisk, Survives}
use Rattle.sqlite.specs.Held.{state}
use Rattle.store_statements.specs.Held.{IsSettled, StaysSettled, held}
use Rattle.store_bytes.specs.Reading.{IsReadable, IsAsWas}
use Rattle.store_reads.specs.Each.{AreTold, IsEntry}
use Rattle.store_reads.proofs.referrers.entries.Given as goal

-- nothing has changed, and the entries of those so far are there
abbrev pub invariant-loop-referrer : goal.invariant-loop-referrer
invariant-loop-referrer g l =
    let kept = g.C.Contents.layout l.fn.contents in
    let old = state g.S.Store l.fn.conn in
    let now = state g.S.Store l.conn in
    record {
      survives : Survives old now (λ _. ⊤);
      same : IsAsWas g.C.Contents l.fn.contents l.contents;
      settled : HasCleanDisk now → IsSettled kept old → StaysSettled kept old now;
      told : IsReadable g.C.Contents l.fn.contents l.contents old → HasCleanDisk now → IsSettled kept old → AreTold (IsEntry (held kept old)) l.yielded l.entries.items;
    }
