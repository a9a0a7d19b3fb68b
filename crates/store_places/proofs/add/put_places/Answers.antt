use Rattle.std.proofs.Common.{◌+◌, ◌∙◌, take, arith, refl, sym, subst}
use Rattle.std.proofs.lemmas.List.{take_all}
use Rattle.sqlite.specs.Held.{state}
use Rattle.store_places.specs.Places.{PutsPlaces}
use Rattle.store_places.proofs.ChainLemmas.{SoFar, total_within, so_far_none, so_far_more, kept_more, survives_more, next_fits}
use Rattle.store_places.proofs.add.put_places.Goals as goal

pub loop-extent-init : goal.loop-extent-init
loop-extent-init g c = record { so_far = so_far_none g.S.Store c.args.id.id c.args.tx.now.conn.now; same_reference = refl }

pub put_place-requires : goal.put_place-requires
put_place-requires g c = record { fits = omega (arith, c.requires.fits, c.loop-extent.invariant.so_far.begins, total_within c.args.extents.now c.loop-extent.extent-index) }

pub returns-in_err-put_place-clause-kept : goal.returns-in_err-put_place-clause-kept
returns-in_err-put_place-clause-kept g c =
    kept_more g.S.Store c.args.id.id c.args.extents.now c.loop-extent.extent-index c.loop-extent.start c.args.tx.now.conn.now c.loop-extent.tx.conn.now c.put_place.new.tx.conn.now c.loop-extent.invariant.so_far
    c.put_place.ensures.survives c.put_place.ensures.kept

pub returns-in_err-put_place-clause-same_reference : goal.returns-in_err-put_place-clause-same_reference
returns-in_err-put_place-clause-same_reference g c = c.put_place.ensures.same_reference ∙ c.loop-extent.invariant.same_reference

pub returns-in_err-put_place-clause-survives : goal.returns-in_err-put_place-clause-survives
returns-in_err-put_place-clause-survives g c =
    survives_more g.S.Store c.args.id.id c.args.extents.now c.loop-extent.extent-index c.loop-extent.start c.args.tx.now.conn.now c.loop-extent.tx.conn.now c.put_place.new.tx.conn.now c.loop-extent.invariant.so_far c.put_place.ensures.survives

pub overflow_add-start : goal.overflow_add-start
overflow_add-start g c =
    let fits = next_fits g.S.Store c.args.id.id c.args.extents.now c.loop-extent.extent-index c.loop-extent.start c.args.tx.now.conn.now c.loop-extent.tx.conn.now c.put_place.new.tx.conn.now c.loop-extent.invariant.so_far
    c.put_place.ensures.survives c.extent-item.result c.loop-extent-test.true c.extent-item.is in
    omega (arith, fits, c.size-start.ensures.size, c.requires.fits)

pub loop-extent-preserved : goal.loop-extent-preserved
loop-extent-preserved g c = record {
  so_far = subst (λ n. SoFar g.S.Store c.args.id.id (take (c.loop-extent.extent-index + 1) c.args.extents.now) (c.loop-extent.start + n) c.args.tx.now.conn.now c.put_place.new.tx.conn.now) (sym c.size-start.ensures.size)
      (so_far_more g.S.Store c.args.id.id c.args.extents.now c.loop-extent.extent-index c.loop-extent.start c.args.tx.now.conn.now c.loop-extent.tx.conn.now c.put_place.new.tx.conn.now c.loop-extent.invariant.so_far
      c.put_place.ensures.survives c.extent-item.result c.loop-extent-test.true c.extent-item.is c.requires.some c.in_ok-put_place.ensures.put c.put_place.ensures.kept);
  same_reference = c.put_place.ensures.same_reference ∙ c.loop-extent.invariant.same_reference;
}

pub returns-clause-put : goal.returns-clause-put
returns-clause-put g c clean is there none =
    let so = c.loop-extent.invariant.so_far.put clean is there none in (
      subst (λ es. PutsPlaces (state g.S.Store c.args.tx.now.conn.now).now (state g.S.Store c.loop-extent.tx.conn.now).now c.args.id.id 0 es) (take_all c.loop-extent.extent-index c.args.extents.now (omega arith)) so.0,
      so.1,
    )

pub returns-clause-kept : goal.returns-clause-kept
returns-clause-kept g c = c.loop-extent.invariant.so_far.kept

pub returns-clause-same_reference : goal.returns-clause-same_reference
returns-clause-same_reference g c = c.loop-extent.invariant.same_reference

pub returns-clause-survives : goal.returns-clause-survives
returns-clause-survives g c = c.loop-extent.invariant.so_far.survives
