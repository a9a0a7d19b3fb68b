use Rattle.std.proofs.Common.{◌≡◌}
use Rattle.sqlite.specs.Held.{state}
use Rattle.oci_types.specs.declared.fault.Fault.TheVariants.{Memory}
use Rattle.store_schema.proofs.Selects.{was_clean}
use Rattle.store_pack.proofs.CommitLemmas.{stays_back}
use Rattle.store_pack.proofs.deletion.remove_rows.Goals as goal

pub returns-in-Err-clause-memory : goal.returns-in-Err-clause-memory
returns-in-Err-clause-memory g c clean is e =
    let mid = state g.S.Store c.commit_removal.new.conn in
    let new = state g.S.Store c.checked_fault.new.conn in
    let told : c.checked_fault.result ≡ Memory = cc in
    stays_back (state g.S.Store c.args.conn.now) mid new is (c.in-Err.ensures.back (was_clean c.checked_fault.ensures.survives clean) is) (c.checked_fault.ensures.memory clean told)
