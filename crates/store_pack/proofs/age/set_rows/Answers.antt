use Rattle.std.proofs.Common.{◌≡◌}
use Rattle.sqlite.specs.Held.{state}
use Rattle.oci_types.specs.declared.fault.Fault.TheVariants.{Memory}
use Rattle.store_schema.proofs.Selects.{was_clean}
use Rattle.std.specs.Prelude.{⊤}
use Rattle.store_statements.proofs.Transactions.{survives_all}
use Rattle.store_pack.specs.Pack.{PutsPack}
use Rattle.store_pack.proofs.CommitLemmas.{stays_back, outcomes_then}
use Rattle.store_pack.proofs.age.set_rows.Goals as goal

pub returns-in-Err-clause-memory : goal.returns-in-Err-clause-memory
returns-in-Err-clause-memory g c clean is mark was says e =
    let mid = state g.S.Store c.commit_age.new.conn in
    let new = state g.S.Store c.checked_fault.new.conn in
    let told : c.checked_fault.result ≡ Memory = cc in
    stays_back (state g.S.Store c.args.conn.now) mid new is (c.in-Err.ensures.back (was_clean c.checked_fault.ensures.survives clean) is mark was says) (c.checked_fault.ensures.memory clean told)

pub returns-in-Err-clause-crash : goal.returns-in-Err-clause-crash
returns-in-Err-clause-crash g c clean is mark was says =
    outcomes_then (λ a b (v : ⊤). PutsPack a b mark c.args.age) (state g.S.Store c.args.conn.now) (state g.S.Store c.commit_age.new.conn) (state g.S.Store c.checked_fault.new.conn) clean c.checked_fault.ensures.survives
    (c.in-Err.ensures.crash (was_clean c.checked_fault.ensures.survives clean) is mark was says)

pub returns-in-Err-clause-survives : goal.returns-in-Err-clause-survives
returns-in-Err-clause-survives g c =
    survives_all (state g.S.Store c.args.conn.now) (state g.S.Store c.commit_age.new.conn) (state g.S.Store c.checked_fault.new.conn) _ _ c.commit_age.ensures.survives c.checked_fault.ensures.survives
