use Rattle.std.proofs.Common.{List, ℕ, subst}
use Rattle.std.specs.Prelude.{IsTrue}
use Rattle.registry_pack.specs.Pack.{file_of}
use Rattle.store_pack.specs.Content.{HasMoreOf}
use Rattle.store_pack.proofs.ContentLemmas.{all_read, front_later}
use Rattle.store_pack.proofs.content.read_pieces.Goals as goal

pub returns-then-n-eq0-clause-read : goal.returns-then-n-eq0-clause-read
returns-then-n-eq0-clause-read g c is within =
    let clean_then = IsTrue (g.D.Disk.is_clean (file_of c.pieces.pack)) in
    let clean = IsTrue (g.D.Disk.is_clean (file_of c.read_more.new.pack)) in
    let file = g.D.Disk.seen (file_of c.args.pack.now) in
    let es = c.args.extents.now in
    let old = c.pieces.bytes.items in
    let new = c.read_more.new.bytes.items in
    let front = front_later clean_then clean file es old c.read_more.ensures.pack.clean c.pieces.invariant.front in
    let more = subst (λ (f : List ℕ). HasMoreOf clean f es old new c.in_ok-n.n) c.pieces.invariant.pack.seen c.in_ok-n.ensures.more in
    all_read clean file es old new c.in_ok-n.n front more c.if-n-eq0.true is within
