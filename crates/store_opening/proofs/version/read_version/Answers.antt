use Rattle.std.proofs.Common.{ℤ, List, Err, subst, sym}
use Rattle.sqlite.specs.Held.{state}
use Rattle.sqlite.specs.Order.{Row}
use Rattle.store_opening.specs.Asking.{ShowsAlone}
use Rattle.store_opening.specs.Opening.{versions_in}
use Rattle.store_opening.proofs.OpeningLemmas.{alone_if, alone_from, on_ok, unnamed}
use Rattle.store_opening.proofs.VersionAsked.{of_schema}
use Rattle.store_opening.proofs.version.read_version.Goals as goal

pub returns-in-Ok : goal.returns-in-Ok
returns-in-Ok g c = record {
  alone = λ clean h. alone_if (versions_in (state g.S.Store c.args.conn.now).now) _ c.in-Ok.rows.items c.version_in.result c.deref.ensures.value (c.in-Ok.ensures.shown clean h) c.version_in.ensures.alone;
  same = λ clean. on_ok c.version_in.result _ (c.in-Ok.ensures.same clean);
  whole = λ clean h n alone. c.version_in.ensures.whole n (subst (λ (rows : List Row). ShowsAlone rows n) (sym c.deref.ensures.value) (alone_from (versions_in (state g.S.Store c.args.conn.now).now) c.in-Ok.rows.items n (c.in-Ok.ensures.shown clean h) alone));
  none = c.version_in.ensures.none;
  left = c.version_rows.ensures.left;
  told = λ clean. of_schema (state g.S.Store c.args.conn.now) _ c.in-Ok.rows.items c.version_in.result c.deref.ensures.value (c.in-Ok.ensures.answered clean) c.version_in.ensures.alone;
  unnumbered = c.version_in.ensures.unnumbered;
  survives = c.version_rows.ensures.survives;
}

pub returns-in-Err : goal.returns-in-Err
returns-in-Err g c = record {
  alone = λ clean h. tt;
  same = λ clean. tt;
  whole = λ clean h n alone. c.fault_in_reading.ensures.wanting (c.in-Err.ensures.failing clean h);
  none = unnamed {A = ℤ} (Err c.fault_in_reading.result) c.fault_in_reading.ensures.unnumbered;
  left = c.version_rows.ensures.left;
  told = λ clean. tt;
  unnumbered = c.fault_in_reading.ensures.unnumbered;
  survives = c.version_rows.ensures.survives;
}
