use Rattle.std.proofs.Common.{◌∙◌, ℤ, ap, sym}
use Rattle.sqlite.specs.Effect.{Database}
use Rattle.sqlite.specs.Held.{state}
use Rattle.store_contents.specs.declared.content_id.ContentId.{ContentId}
use Rattle.registry_pack.specs.Extents.{bytes_at}
use Rattle.store_contents.specs.Places.{bytes_in}
use Rattle.store_pack.specs.Joint.{HasMore}
use Rattle.store_pack.proofs.JointLemmas.{aged_kept, crashes_more, crashes_same, joint_after}
use Rattle.store_pack.proofs.staged.put_staged.Goals as goal

pub returns-in_default-clause-crash : goal.returns-in_default-clause-crash
returns-in_default-clause-crash g c clean joint =
    crashes_same g.D.Disk (state g.S.Store c.args.conn.now) c.args.disk.now c.sync.new.disk
    (λ w. (id : ℤ) × HasMore w (bytes_in (state g.S.Store c.args.conn.now).now (g.D.Disk.seen c.args.disk.now)) id (bytes_at (g.D.Disk.seen c.args.disk.now) c.args.extents.now))
    (λ db may. g.met.S.Store.settled c.args.conn.now.store db joint.settled.is_open may ∙ ap (λ (d : Database). d.trees) (sym joint.settled.committed)) c.sync.ensures.kept joint

pub returns-in_default-clause-aged : goal.returns-in_default-clause-aged
returns-in_default-clause-aged g c olds aged = aged_kept g.D.Disk c.args.disk.now c.sync.new.disk c.sync.ensures.kept olds aged

pub returns-clause-joint : goal.returns-clause-joint
returns-clause-joint g c clean joint lives =
    joint_after g.D.Disk (state g.S.Store c.args.conn.now) (state g.S.Store c.put_rows.new.conn) c.args.disk.now c.sync.new.disk c.args.sha256.now c.args.extents.now c.sync.ensures.kept c.in-Ok.ensures.lasting c.requires.stands
    c.put_rows.result (c.put_rows.ensures.put clean joint.settled) (c.put_rows.ensures.memory clean joint.settled) lives joint

pub returns-clause-crash : goal.returns-clause-crash
returns-clause-crash g c clean joint =
    crashes_more g.D.Disk c.args.disk.now c.sync.new.disk c.args.sha256.now c.args.extents.now c.sync.ensures.kept c.in-Ok.ensures.lasting c.requires.stands (λ (v : ContentId). v.id) (state g.S.Store c.args.conn.now) (state g.S.Store c.put_rows.new.conn)
    joint (c.put_rows.ensures.crash clean joint.settled)

pub returns-clause-aged : goal.returns-clause-aged
returns-clause-aged g c olds aged = aged_kept g.D.Disk c.args.disk.now c.sync.new.disk c.sync.ensures.kept olds aged
