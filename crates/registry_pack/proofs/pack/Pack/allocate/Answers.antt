use Rattle.std.proofs.Common.{arith, subst, sym}
use Rattle.registry_pack.specs.Holes.{IsRun}
use Rattle.registry_pack.specs.Blocks.{block_ceil}
use Rattle.registry_pack.proofs.BlockLemmas.{AreBefore-taken, taken_place, taken_whole, taken_was_writable, taken_after, free_run}
use Rattle.registry_pack.proofs.OutcomeLemmas.{IfSome-then}
use Rattle.registry_pack.proofs.pack.Pack.allocate.Goals as goal

pub invariant_of-self : goal.invariant_of-self
invariant_of-self g c =
    let s = c.args.self.now in
    let got = c.in-Some.ensures in
    record {
      behind_head = s.behind_head;
      fits = s.fits;
      whole = s.whole;
      free_before = AreBefore-taken s.free.holes.items c.take.new.self.holes.items c.in-Some.blocks s.end got.taken s.free_before;
      free_whole = taken_whole s.free.holes.items c.take.new.self.holes.items s.end c.in-Some.blocks c.args.size c.block_ceil-room.result
          s.free_whole s.free_before c.requires.some c.block_ceil-room.ensures got.size got.taken got.first;
      retired_before = s.retired_before;
      retired_whole = s.retired_whole;
    }

pub returns-in-Some-clause-place : goal.returns-in-Some-clause-place
returns-in-Some-clause-place g c =
    let s = c.args.self.now in
    let got = c.in-Some.ensures in
    let (low, start) = taken_place s.free.holes.items c.take.new.self.holes.items s.end c.in-Some.blocks c.args.size c.block_ceil-room.result
    s.free_whole s.free_before c.requires.some c.block_ceil-room.ensures got.size got.taken got.first in
    IfSome-then c.new.result _ _ (λ e (at, size). (omega (arith, at, c.at.ensures.at, low), omega (arith, at, c.at.ensures.at, start))) c.new.ensures.extent

pub returns-in-Some-clause-was_writable : goal.returns-in-Some-clause-was_writable
returns-in-Some-clause-was_writable g c =
    let s = c.args.self.now in
    let got = c.in-Some.ensures in
    IfSome-then c.new.result _ _
    (λ e (at, size). taken_was_writable s.free.holes.items c.take.new.self.holes.items s.end c.in-Some.blocks c.args.size c.block_ceil-room.result
    s.free_whole s.free_before c.requires.some c.block_ceil-room.ensures got.size got.taken got.first e (omega (arith, at, c.at.ensures.at)) size)
    c.new.ensures.extent

pub returns-in-Some-clause-after : goal.returns-in-Some-clause-after
returns-in-Some-clause-after g c =
    let s = c.args.self.now in
    let got = c.in-Some.ensures in
    IfSome-then c.new.result _ _
    (λ e (at, size). taken_after s.free.holes.items c.take.new.self.holes.items s.end c.in-Some.blocks c.args.size c.block_ceil-room.result
    s.free_whole s.free_before c.requires.some c.block_ceil-room.ensures got.size got.taken got.first e (omega (arith, at, c.at.ensures.at)) size)
    c.new.ensures.extent

pub returns-in-Some-clause-first : goal.returns-in-Some-clause-first
returns-in-Some-clause-first g c =
    let s = c.args.self.now in
    let got = c.in-Some.ensures in
    let ceil = c.block_ceil-room.ensures in
    IfSome-then c.new.result _ _
    (λ e (at, size) from within run.
    let free = free_run s.free.holes.items s.end from (block_ceil c.args.size) within run in
    omega (arith, at, c.at.ensures.at, got.first from (subst (λ n. IsRun s.free.holes.items from n) (sym ceil) free)))
    c.new.ensures.extent

pub returns-then-room-self-clause-no_free_room : goal.returns-then-room-self-clause-no_free_room
returns-then-room-self-clause-no_free_room g c from within run =
    let s = c.args.self.now in
    let free = free_run s.free.holes.items s.end from (block_ceil c.args.size) within run in
    c.in_default.ensures.no_room from (subst (λ n. IsRun s.free.holes.items from n) (sym c.block_ceil-room.ensures) free)

pub returns-clause-first : goal.returns-clause-first
returns-clause-first g c =
    let s = c.args.self.now in
    IfSome-then c.new-2.result _ _
    (λ e at from within run.
    let free = free_run s.free.holes.items s.end from (block_ceil c.args.size) within run in
    absurd (c.in_default.ensures.no_room from (subst (λ n. IsRun s.free.holes.items from n) (sym c.block_ceil-room.ensures) free)))
    c.new-2.ensures.extent
