use Rattle.std.proofs.Common.{◌≡◌, length, arith, subst}
use Rattle.std.specs.Prelude.{IsTrue}
use Rattle.registry_pack.specs.Content.{ReadsPiece}
use Rattle.registry_pack.specs.Pack.{file_of}
use Rattle.store_pack.proofs.ContentLemmas.{more_read}
use Rattle.store_pack.proofs.content.read_more.Goals as goal

pub returns-in-Ok-extend_from_slice-clause-more : goal.returns-in-Ok-extend_from_slice-clause-more
returns-in-Ok-extend_from_slice-clause-more g c =
    let clean = IsTrue (g.D.Disk.is_clean (file_of c.read_piece.new.self)) in
    let file = g.D.Disk.seen (file_of c.args.pack.now) in
    let old = c.args.bytes.now in
    let len : c.len.result ≡ length old.items = omega (arith, c.len.ensures, old.ok.0) in
    let read = subst (λ from. ReadsPiece clean file c.args.extents.now from c.args.piece.now c.read_piece.new.buf c.in-Ok.n) len c.in-Ok.ensures.read in
    more_read clean file c.args.extents.now old.items c.extend_from_slice.new.self.items c.args.piece.now c.read_piece.new.buf c.in-Ok.n read c.in-Ok-extend_from_slice.ensures.items
