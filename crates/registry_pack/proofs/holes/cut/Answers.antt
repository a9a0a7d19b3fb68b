use Rattle.std.proofs.Common.{◌≡◌, ◌≤◌, ◌<◌, ◌∙◌, length, set, ap, arith}
use Rattle.std.specs.List.{remove}
use Rattle.registry_pack.specs.declared.extent.Extent.{Extent}
use Rattle.registry_pack.proofs.TakeLemmas.{Takes-remove, holes_remove, Takes-set, holes_set}
use Rattle.registry_pack.proofs.holes.cut.Goals as goal
use Rattle.registry_pack.proofs.holes.cut.Goals.{then-size, else-size}

pub returns-clause-order : goal.returns-clause-order
returns-clause-order c =
    let old = c.args.holes.now in
    let hole = c.index-hole.result.now in
    let is = c.index-hole.ensures in
    let lt : c.args.index < length old.items = omega (arith, c.requires.within, old.ok.0) in
    let room : c.args.size ≤ hole.size = omega (arith, c.requires.room hole, ap (λ (e : Extent). e.size) is) in
    elim c.if-size.branch [
      | then-size w ↦ (
          let new : c.if-size.holes.items ≡ remove old.items c.args.index = ap (λ v. v.items) w.holes-is ∙ w.remove.ensures.items in
          holes_remove old.items c.args.index hole lt is c.requires.order c.if-size.holes.items new)
      | else-size w ↦ (
          let new : c.if-size.holes.items ≡ set old.items c.args.index w.between.result = ap (λ v. v.items) w.holes-is in
          let bounds = w.between.ensures.bounds (omega arith) in
          holes_set old.items c.args.index hole lt is c.requires.order w.between.result c.if-size.holes.items new
          (omega (arith, bounds.0)) (omega (arith, bounds.0, bounds.1)) (omega (arith, bounds.1)))
    ]

pub returns-clause-taken : goal.returns-clause-taken
returns-clause-taken c =
    let old = c.args.holes.now in
    let hole = c.index-hole.result.now in
    let is = c.index-hole.ensures in
    let lt : c.args.index < length old.items = omega (arith, c.requires.within, old.ok.0) in
    let room : c.args.size ≤ hole.size = omega (arith, c.requires.room hole, ap (λ (e : Extent). e.size) is) in
    let e = c.between-2.result in
    let taken = c.between-2.ensures.bounds (omega arith) in
    let at : e.at ≡ hole.at = omega (arith, taken.0) in
    elim c.if-size.branch [
      | then-size w ↦ (
          let new : c.if-size.holes.items ≡ remove old.items c.args.index = ap (λ v. v.items) w.holes-is ∙ w.remove.ensures.items in
          Takes-remove old.items c.args.index hole lt is c.requires.order c.if-size.holes.items new e at (omega (arith, taken.1)))
      | else-size w ↦ (
          let new : c.if-size.holes.items ≡ set old.items c.args.index w.between.result = ap (λ v. v.items) w.holes-is in
          let bounds = w.between.ensures.bounds (omega arith) in
          Takes-set old.items c.args.index hole lt is c.requires.order w.between.result c.if-size.holes.items new e at
          (omega (arith, taken.1)) (omega (arith, bounds.0, taken.1)) (omega (arith, bounds.1)))
    ]
