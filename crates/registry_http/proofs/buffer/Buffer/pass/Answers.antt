use Rattle.std.proofs.Common.{◌+◌, ◌≤◌, length, arith, sym, subst}
use Rattle.registry_http.proofs.BufferLemmas.{slice_len, moved_front, moved_behind, passed_start, passed_place}
use Rattle.registry_http.proofs.buffer.Buffer.pass.Goals as goal

pub returns : goal.returns
returns c =
    let b = c.args.self.now in
    let within : b.end ≤ length b.room.items = omega (arith, b.within, b.room.ok.0) in
    let fits : b.unread + c.args.count ≤ b.end = omega (arith, c.requires, slice_len b.room.items b.unread b.end within, b.ordered) in
    let front = c.move_down.ensures.front in
    let behind = c.move_down.ensures.behind in
    record {
      before = moved_front b.room.items c.move_down.new.room.items b.start b.place b.unread b.end c.args.count b.started b.placed fits within front behind;
      behind = moved_behind b.room.items c.move_down.new.room.items b.start b.place b.unread b.end c.args.count b.started b.placed fits within front behind;
    }

pub invariant_of-self : goal.invariant_of-self
invariant_of-self c =
    let b = c.args.self.now in
    let within : b.end ≤ length b.room.items = omega (arith, b.within, b.room.ok.0) in
    record {
      started = passed_start b.start b.place c.args.count b.started;
      placed = passed_place b.place b.unread c.args.count b.placed;
      ordered = omega (arith, c.requires, slice_len b.room.items b.unread b.end within, b.ordered);
      within = subst (λ n. b.end ≤ n) (sym c.move_down.ensures.len) b.within;
    }
