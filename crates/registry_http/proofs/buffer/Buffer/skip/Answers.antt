use Rattle.std.proofs.Common.{◌≤◌, length, arith}
use Rattle.registry_http.proofs.BufferLemmas.{slice_len, slice_drop}
use Rattle.registry_http.proofs.buffer.Buffer.skip.Goals as goal

pub returns-clause-behind : goal.returns-clause-behind
returns-clause-behind c =
    let b = c.args.self.now in
    let within : b.end ≤ length b.room.items = omega (arith, b.within, b.room.ok.0) in
    slice_drop b.room.items b.unread b.end c.args.count (omega (arith, c.requires, slice_len b.room.items b.unread b.end within, b.ordered))
