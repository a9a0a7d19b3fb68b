use Rattle.std.proofs.Common.{◌∙◌, ◌<◌, length, ap, sym, arith, pos}
use Rattle.std.specs.Prelude.{◌||◌}
use Rattle.std.specs.BTreeSet.{keys}
use Rattle.std.proofs.lemmas.List.{take_all}
use Rattle.store_writes.specs.Naming.{is_among}
use Rattle.store_writes.proofs.ContentNaming.{inserted_more, or_none}
use Rattle.store_writes.proofs.content_clearing.insert_all.Goals as goal

pub loop-id-init : goal.loop-id-init
loop-id-init c i = sym (or_none (is_among (keys c.args.set.now) i))

pub loop-id-preserved : goal.loop-id-preserved
loop-id-preserved c =
    let low : c.loop-id.id-index < length c.args.ids.now = omega arith in
    inserted_more (keys c.args.set.now) (keys c.loop-id.set) (keys c.insert.new.set) c.args.ids.now c.loop-id.id-index (record { id = pos 0 }) low c.loop-id.invariant c.in_ok-insert.ensures

pub returns : goal.returns
returns c i = c.loop-id.invariant i ∙ ap (λ ids. is_among (keys c.args.set.now) i || is_among ids i) (take_all c.loop-id.id-index c.args.ids.now (omega arith))
