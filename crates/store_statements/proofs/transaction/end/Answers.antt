use Rattle.store_statements.proofs.Endings.{ends_committed, ends_refused, ends_given_up}
use Rattle.store_statements.proofs.transaction.end.Goals as goal

pub returns-in-Ok-commit : goal.returns-in-Ok-commit
returns-in-Ok-commit g c = record { ended = ends_committed g.S.Store c.args.tx.conn.now c.commit.new.self.0 c.args.done c.commit.ensures.survives c.in-Ok.field-0 _ c.in-Ok.is (λ clean. (c.in-Ok-commit.ensures.ok clean).1) }

pub returns-in-Err-commit : goal.returns-in-Err-commit
returns-in-Err-commit g c = record { ended = ends_refused g.S.Store c.args.tx.conn.now c.commit.new.self.0 c.args.done c.commit.ensures.survives c.in-Ok.field-0 _ _ c.in-Ok.is c.in-Err-commit.ensures.err }

pub returns-in-Err : goal.returns-in-Err
returns-in-Err g c = record { ended = ends_given_up g.S.Store c.args.tx.conn.now c.drop-tx.new.self.0 c.args.done c.drop-tx.ensures.survives _ c.drop-tx.ensures.undone }
