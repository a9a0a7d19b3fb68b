use Rattle.std.proofs.Common.{◌≤◌, length, arith}
use Rattle.registry_http.proofs.BufferLemmas.{compact_before, compact_behind}
use Rattle.registry_http.proofs.buffer.Buffer.compact.Goals as goal

pub returns-clause-before : goal.returns-clause-before
returns-clause-before c =
    let b = c.args.self.now in
    let within : b.end ≤ length b.room.items = omega (arith, b.within, b.room.ok.0) in
    compact_before b.room.items c.move_down.new.room.items _ b.start b.place b.unread b.end b.started b.placed b.ordered within
    c.move_down.ensures.front c.move_down.ensures.behind c.move_down-2.ensures.front

pub returns-clause-behind : goal.returns-clause-behind
returns-clause-behind c =
    let b = c.args.self.now in
    let within : b.end ≤ length b.room.items = omega (arith, b.within, b.room.ok.0) in
    compact_behind b.room.items c.move_down.new.room.items _ b.start b.place b.unread b.end b.started b.placed b.ordered within
    c.move_down.ensures.front c.move_down.ensures.behind c.move_down-2.ensures.front
