use Rattle.oci_types.specs.declared.fault.Fault.TheVariants.{Memory}
use Rattle.sqlite.specs.Held.{state}
use Rattle.store_statements.specs.Held.{held}
use Rattle.registry_store.proofs.RowWrites.{not_storage, rows_places, rows_suit, same_fault}
use Rattle.registry_store.proofs.row_writes.write_rows.Goals as goal

pub returns-in-Ok-clause-made : goal.returns-in-Ok-clause-made
returns-in-Ok-clause-made g c l has = c.in-Ok.ensures.made l (rows_suit c.args.write c.requires.rows l) has

pub returns-in-Ok-clause-places : goal.returns-in-Ok-clause-places
returns-in-Ok-clause-places g c l has clean is =
    rows_places c.args.write c.requires.rows c.in-Ok.field-0 (held l (state g.S.Store c.args.conn.now)) (held l (state g.S.Store c.make_counted.new.conn)) (c.in-Ok.ensures.places l (rows_suit c.args.write c.requires.rows l) has clean is)

pub returns-in-Ok-clause-crash : goal.returns-in-Ok-clause-crash
returns-in-Ok-clause-crash g c l has = c.in-Ok.ensures.crash l (rows_suit c.args.write c.requires.rows l) has

pub returns-in-Ok-clause-known : goal.returns-in-Ok-clause-known
returns-in-Ok-clause-known g c l known has there = c.in-Ok.ensures.known l (rows_suit c.args.write c.requires.rows l) known has there

pub returns-in-Err-clause-memory : goal.returns-in-Err-clause-memory
returns-in-Err-clause-memory g c l has clean is wanting = c.in-Err.ensures.memory l (rows_suit c.args.write c.requires.rows l) has clean is (same_fault c.in-Err.fault Memory wanting)

pub returns-in-Err-clause-crash : goal.returns-in-Err-clause-crash
returns-in-Err-clause-crash g c l has = c.in-Err.ensures.crash l (rows_suit c.args.write c.requires.rows l) has

pub returns-in-Err-clause-known : goal.returns-in-Err-clause-known
returns-in-Err-clause-known g c l known has there clean is off = c.in-Err.ensures.known l (rows_suit c.args.write c.requires.rows l) known has there clean is (not_storage c.in-Err.fault off)
