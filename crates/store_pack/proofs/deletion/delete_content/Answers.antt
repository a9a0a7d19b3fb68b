use Rattle.std.proofs.Common.{inr}
use Rattle.sqlite.specs.Held.{state}
use Rattle.store_pack.proofs.JointLemmas.{crashes_less, durable, joint_deleted, less_seen, rows_removed}
use Rattle.store_pack.proofs.deletion.delete_content.Goals as goal

pub returns : goal.returns
returns g c =
    let old = state g.S.Store c.args.conn.now in
    let new = state g.S.Store c.remove_rows.new.conn in
    record {
      deleted = λ clean joint. less_seen g.D.Disk old new c.args.disk.now c.args.id.id c.remove_rows.result (c.remove_rows.ensures.removed clean joint.settled);
      rows = λ clean is. rows_removed old new c.args.id.id c.remove_rows.result (c.remove_rows.ensures.removed clean is);
      memory = c.remove_rows.ensures.memory;
      joint = λ clean joint lives. joint_deleted g.D.Disk old new c.args.disk.now c.args.id.id c.remove_rows.result (c.remove_rows.ensures.removed clean joint.settled) (c.remove_rows.ensures.memory clean joint.settled) lives joint;
      crash = λ clean joint. crashes_less g.D.Disk old new c.args.disk.now c.args.id.id joint (c.remove_rows.ensures.crash clean joint.settled);
      durable = λ joint. durable g.D.Disk new c.args.disk.now (λ db opened may. g.met.S.Store.settled c.remove_rows.new.conn.store db opened may) joint;
      older = λ age olds joint aged. (inr joint.kept, aged);
    }
