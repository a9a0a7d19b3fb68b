use Rattle.std.proofs.Common.{subst}
use Rattle.sqlite.specs.Held.{state}
use Rattle.store_schema.proofs.Selects.{commit_then, was_clean}
use Rattle.store_places.specs.Places.{PutsContent}
use Rattle.store_places.proofs.WorldLemmas.{adds, no_places, there}
use Rattle.store_places.proofs.add.add_content.Goals as goal

pub returns-in_err-put_places-clause-kept : goal.returns-in_err-put_places-clause-kept
returns-in_err-put_places-clause-kept g c clean is =
    let early = was_clean c.put_places.ensures.survives clean in
    let put = c.in_ok-id.ensures.put early is in
    commit_then (state g.S.Store c.args.tx.now.conn.now) (state g.S.Store c.put_content.new.tx.conn.now) (state g.S.Store c.put_places.new.tx.conn.now) (c.put_content.ensures.kept early is)
    (c.put_places.ensures.kept clean put.1 (there _ _ _ _ _ put.0) (no_places _ _ _ _ _ is.holds put.0))

pub returns-clause-added : goal.returns-clause-added
returns-clause-added g c clean is =
    let early = was_clean c.put_places.ensures.survives clean in
    let put = c.in_ok-id.ensures.put early is in
    let places = c.in_ok-put_places.ensures.put clean put.1 (there _ _ _ _ _ put.0) (no_places _ _ _ _ _ is.holds put.0) in
    let old = (state g.S.Store c.args.tx.now.conn.now).now in
    let mid = (state g.S.Store c.put_content.new.tx.conn.now).now in (
      adds old mid (state g.S.Store c.put_places.new.tx.conn.now).now c.in_ok-id.id.id c.args.sha256.now c.args.extents.now is.holds
          (subst (PutsContent old mid c.in_ok-id.id.id c.args.sha256.now) c.total.ensures put.0) places.0 c.requires.some,
      places.1,
    )

pub returns-clause-kept : goal.returns-clause-kept
returns-clause-kept g c clean is =
    let early = was_clean c.put_places.ensures.survives clean in
    let put = c.in_ok-id.ensures.put early is in
    commit_then (state g.S.Store c.args.tx.now.conn.now) (state g.S.Store c.put_content.new.tx.conn.now) (state g.S.Store c.put_places.new.tx.conn.now) (c.put_content.ensures.kept early is)
    (c.put_places.ensures.kept clean put.1 (there _ _ _ _ _ put.0) (no_places _ _ _ _ _ is.holds put.0))
