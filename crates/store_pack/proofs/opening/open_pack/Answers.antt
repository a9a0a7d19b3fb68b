use Rattle.std.proofs.Common.{refl, sym, subst}
use Rattle.sqlite.specs.Effect.{Database}
use Rattle.sqlite.specs.Held.{state}
use Rattle.store_schema.proofs.Selects.{was_clean}
use Rattle.std.specs.Prelude.{IsTrue}
use Rattle.std.specs.List.{AllByRecursion}
use Rattle.registry_pack.specs.Extents.{size_of, starts_at}
use Rattle.store_pack.specs.Contents.{IsPlaced}
use Rattle.store_pack.specs.Opening.{AreSpared, AreThere}
use Rattle.store_contents.specs.Places.{HoldsPlaces, place_rows, runs_of}
use Rattle.store_pack.proofs.OpeningLemmas.{all_spared, all_there}
use Rattle.store_pack.proofs.ContentsLemmas.{all_placed}
use Rattle.store_pack.proofs.opening.open_pack.Goals as goal

pub returns-in-Ok-open-clause-there : goal.returns-in-Ok-open-clause-there
returns-in-Ok-open-clause-there g c clean holds honest =
    let early = was_clean c.extents_in_use.ensures.lasts clean in
    let same = (c.in-Ok-Some.ensures.same early holds).0.now_is in
    let found = c.in-Ok.ensures.found clean (subst HoldsPlaces (sym same) holds) in
    subst (λ (d : Database). AreThere (g.D.Disk.seen c.args.disk) (runs_of (place_rows d))) same (all_there _ _ c.in-Ok.used.items found (c.in-Ok-open.ensures.within honest))

pub returns-in-Ok-open-clause-spared : goal.returns-in-Ok-open-clause-spared
returns-in-Ok-open-clause-spared g c clean holds honest =
    let early = was_clean c.extents_in_use.ensures.lasts clean in
    let same = (c.in-Ok-Some.ensures.same early holds).0.now_is in
    let found = c.in-Ok.ensures.found clean (subst HoldsPlaces (sym same) holds) in
    subst (λ (d : Database). AreSpared c.in-Ok-open.pack (runs_of (place_rows d))) same
    (all_spared c.in-Ok-open.pack (g.D.Disk.seen c.args.disk) c.in-Ok.used.items (c.in-Ok-open.ensures.end honest) c.in-Ok-open.ensures.writable c.in-Ok-open.ensures.retired _ found (c.in-Ok-open.ensures.within honest))

pub returns-in-Ok-open-clause-placed : goal.returns-in-Ok-open-clause-placed
returns-in-Ok-open-clause-placed g c clean holds =
    let early = was_clean c.extents_in_use.ensures.lasts clean in
    let same = (c.in-Ok-Some.ensures.same early holds).0.now_is in
    let found = c.in-Ok.ensures.found clean (subst HoldsPlaces (sym same) holds) in
    let are = c.are_placed.ensures (subst IsTrue (sym c.if-not-are_placed.false) refl) in
    subst (λ (d : Database). AllByRecursion IsPlaced (runs_of (place_rows d))) same
    (all_placed (place_rows (state g.S.Store c.read_pack_row.new.conn).now) c.in-Ok.used.items found (subst (λ es. AllByRecursion (λ e. IsPlaced (starts_at e, size_of e)) es) c.deref.ensures.value are))
