use Rattle.std.proofs.Common.{OnOk, ap, sym, subst}
use Rattle.std.proofs.lemmas.Result.{on_ok_weaker}
use Rattle.sqlite.specs.Effect.{Database}
use Rattle.sqlite.specs.Held.{state}
use Rattle.store_contents.specs.Layouts.{InTables, Layout}
use Rattle.store_statements.specs.Between.{Outcomes}
use Rattle.store_statements.specs.Held.{SettlesOn, tables_in, world_in}
use Rattle.store_statements.specs.World.{world_of}
use Rattle.registry_store.proofs.reclaim.TableContentsReclaim.clear.Goals as goal

pub returns-clause-made : goal.returns-clause-made
returns-clause-made g c clean is = on_ok_weaker c.clear.result (λ it. (record { settled = it.0; spared = tt; named = tt }, it.1)) (c.clear.ensures.made clean.0 is.settled)

pub returns-clause-memory : goal.returns-clause-memory
returns-clause-memory g c clean is wanting =
    let it = c.clear.ensures.memory clean.0 is.settled wanting in
    (record { settled = it.0; spared = tt; named = tt }, ap (λ (d : Database). world_of (tables_in InTables d)) it.1)

pub returns-clause-crash : goal.returns-clause-crash
returns-clause-crash g c clean is m may =
    let old = state g.S.Store c.args.conn.now in
    let w = world_in InTables old in
    subst (λ (l : Layout). Outcomes old.now (state g.S.Store c.clear.new.conn) (λ s. OnOk c.clear.result (SettlesOn l s w)) (λ s. SettlesOn l s w) (λ s. SettlesOn l s w)) (sym may) (c.clear.ensures.crash clean.0 is.settled)
