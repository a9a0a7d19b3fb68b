use Rattle.std.proofs.Common.{refl, arith}
use Rattle.registry_http.proofs.BufferLemmas.{copied_front, copied_behind, unmoved}
use Rattle.registry_http.proofs.buffer.move_down.Goals as goal

pub returns-then-to-from : goal.returns-then-to-from
returns-then-to-from c = record {
  len = refl;
  front = unmoved c.args.room.now.items c.args.from c.args.count c.args.to c.if-to-from.true;
  behind = refl;
}

pub returns-clause-front : goal.returns-clause-front
returns-clause-front c = copied_front c.args.room.now.items c.copy_within.new.self.items c.args.from c.args.count c.args.to c.requires.down (omega (arith, c.requires.within, c.args.room.now.ok.0)) c.copy_within.ensures.items

pub returns-clause-behind : goal.returns-clause-behind
returns-clause-behind c = copied_behind c.args.room.now.items c.copy_within.new.self.items c.args.from c.args.count c.args.to c.requires.down (omega (arith, c.requires.within, c.args.room.now.ok.0)) c.copy_within.ensures.items
