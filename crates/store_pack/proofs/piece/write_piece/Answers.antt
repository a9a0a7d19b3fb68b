use Rattle.sqlite.specs.Held.{state}
use Rattle.store_pack.proofs.JointLemmas.{aged_written, durable, joint_written}
use Rattle.store_pack.proofs.piece.write_piece.Goals as goal

pub returns-clause-joint : goal.returns-clause-joint
returns-clause-joint g c joint free = joint_written g.D.Disk c.args.disk.now c.write.new.disk _ _ c.write.ensures.elsewhere (state g.S.Store c.args.conn.now) joint free

pub returns-clause-durable : goal.returns-clause-durable
returns-clause-durable g c joint = durable g.D.Disk (state g.S.Store c.args.conn.now) c.write.new.disk (λ db opened may. g.met.S.Store.settled c.args.conn.now.store db opened may) joint

pub returns-clause-aged : goal.returns-clause-aged
returns-clause-aged g c olds aside = aged_written g.D.Disk c.args.disk.now c.write.new.disk _ _ c.write.ensures.elsewhere olds aside
