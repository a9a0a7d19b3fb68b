use Rattle.std.proofs.Common.{◌-◌, length}
use Rattle.std.specs.Prelude.{IsTrue}
use Rattle.registry_pack.specs.Extents.{total_of}
use Rattle.registry_pack.specs.Pack.{file_of, KeepsSpace}
use Rattle.registry_pack.specs.Standing.{KeepsAll}
use Rattle.store_pack.specs.Content.{IsFront}
use Rattle.store_pack.proofs.content.read_pieces.Given as goal

-- nothing has changed, and the first of the bytes have been read
abbrev pub invariant-pieces : goal.invariant-pieces
invariant-pieces g l = record {
  pack : KeepsAll g.D.Disk (file_of l.fn.pack) (file_of l.pack);
  usable : IsTrue (g.D.Disk.is_usable (file_of l.pack));
  space : KeepsSpace l.fn.pack l.pack;
  front : IsFront (IsTrue (g.D.Disk.is_clean (file_of l.pack))) (g.D.Disk.seen (file_of l.fn.pack)) l.extents l.bytes.items;
}

abbrev pub decreases-pieces : goal.decreases-pieces
decreases-pieces g l = total_of l.extents - length l.bytes.items
