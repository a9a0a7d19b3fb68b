use Rattle.std.proofs.Common.{List, ℕ, IsTrue, subst}
use Rattle.std.proofs.lemmas.Result.{err_from_is_err_and}
use Rattle.registry_pack.specs.declared.extent.Extent.{Extent}
use Rattle.registry_pack.specs.Opening.{IsReason}
use Rattle.registry_pack.proofs.StandingLemmas.{KeepsAll-then}
use Rattle.registry_pack.proofs.BlockLemmas.{AreBefore-none, AreWhole-none}
use Rattle.registry_pack.proofs.InUseLemmas.{AreInUse, gaps_before, gaps_whole}
use Rattle.registry_pack.proofs.pack.Pack.open.Goals as goal

pub returns-in_err-check_heads-clause-err : goal.returns-in_err-check_heads-clause-err
returns-in_err-check_heads-clause-err g c =
    let p = err_from_is_err_and c.from_residual.result c.from_residual.ensures.1 in
    rw (p.1, p.2) (c.check_heads.new.disk, (c.in_err-check_heads.ensures.kept, c.in_err-check_heads.ensures.err c.args.used.items))

pub returns-in_err-end-clause-err : goal.returns-in_err-end-clause-err
returns-in_err-end-clause-err g c =
    let p = err_from_is_err_and c.from_residual-in_err-end.result c.from_residual-in_err-end.ensures.1 in
    let clean = IsTrue (g.D.Disk.is_clean c.find_end.new.disk) in
    let kept = c.in_ok-check_heads.ensures.kept in
    let reason = subst (λ (f : List ℕ). IsReason clean f c.args.mark c.args.age c.deref.result.now c.in_err-end.field-0.0) kept.seen
    (c.in_err-end.ensures.err c.args.mark c.args.age) in
    rw (p.1, p.2) (
      c.find_end.new.disk,
      (
        KeepsAll-then g.D.Disk c.args.disk c.check_heads.new.disk c.find_end.new.disk kept c.in_err-end.ensures.kept,
        subst (λ (u : List Extent). IsReason clean (g.D.Disk.seen c.args.disk) c.args.mark c.args.age u c.in_err-end.field-0.0) c.deref.ensures.value reason,
      ),
    )

pub invariant_of-result-2 : goal.invariant_of-result-2
invariant_of-result-2 g c =
    let end = c.in_ok-end.end in
    let bounds = c.in_ok-end.ensures.bounds in
    let blocks = c.in_ok-blocks.blocks.holes.items in
    let retired = c.in_ok-retired.retired.holes.items in
    let found = subst (λ (u : List Extent). AreInUse end blocks u) c.deref-2.ensures.value c.in_ok-blocks.ensures in
    record {
      behind_head = bounds.0;
      fits = bounds.1;
      whole = bounds.2;
      free_before = AreBefore-none end c.none-free.result.holes.items c.none-free.ensures;
      free_whole = AreWhole-none c.none-free.result.holes.items c.none-free.ensures;
      retired_before = gaps_before end bounds.2 c.args.used.items blocks retired found c.in_ok-retired.ensures;
      retired_whole = gaps_whole end bounds.2 c.args.used.items blocks retired found c.in_ok-retired.ensures;
    }
