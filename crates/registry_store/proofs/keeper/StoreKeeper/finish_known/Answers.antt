use Rattle.registry_model.specs.Closing.{session_matches, finish_as_is}
use Rattle.registry_store.proofs.KnownAnswers.{ends_once, in_order_whether}
use Rattle.registry_store.proofs.RowCalls.{rows_clean}
use Rattle.registry_store.proofs.KeeperAnswers.{call_holds, nothing_once}
use Rattle.registry_store.proofs.keeper.StoreKeeper.finish_known.Goals as goal

pub invariant_of-self : goal.invariant_of-self
invariant_of-self g c =
    call_holds g.S.Store g.C.Contents g.O.Origin.is_ours c.self.inside.conn c.self.inside.contents c.args.self.now c.self.inside.spent c.self.view_is c.self.inside.known c.self.invariant c.if-self.false (c.finish_known-answer.new.conn, c.self.inside.contents) (rows_clean g.S.Store g.C.Contents c.self.inside.contents c.self.inside.conn c.finish_known-answer.new.conn c.finish_known-answer.ensures.survives)
    c.note_fault.result c.finish_known-answer.result c.note_fault.new.spent c.note_fault.ensures.same c.note_fault.ensures.noted c.finish_known-answer.new.known
    (λ ours clean is sound. in_order_whether g.S.Store g.C.Contents c.self.inside.conn c.self.inside.contents c.args.self.now c.self.inside.spent c.self.view_is (c.finish_known-answer.new.conn, c.self.inside.contents) (λ w. session_matches w c.args.repo.now c.args.number c.args.digest.now) (λ w. finish_as_is w c.args.repo.now c.args.number c.args.digest.now) c.finish_known-answer.result sound (c.finish_known-answer.ensures.made clean is) (c.finish_known-answer.ensures.memory clean is))
    (λ ours. c.finish_known-answer.ensures.known)

pub returns-then-self : goal.returns-then-self
returns-then-self g c = nothing_once g.S.Store g.C.Contents g.O.Origin.is_ours c.self.inside.conn c.self.inside.contents c.args.self.now c.self.inside.spent c.self.view_is c.if-self.true

pub returns : goal.returns
returns g c =
    ends_once g.S.Store g.C.Contents g.O.Origin.is_ours c.self.inside.conn c.self.inside.contents c.args.self.now c.self.inside.spent c.self.view_is c.self.inside.known c.self.invariant c.if-self.false (c.finish_known-answer.new.conn, c.self.inside.contents) (rows_clean g.S.Store g.C.Contents c.self.inside.contents c.self.inside.conn c.finish_known-answer.new.conn c.finish_known-answer.ensures.survives)
    c.note_fault.result c.finish_known-answer.result c.note_fault.new.spent c.note_fault.ensures.same c.note_fault.ensures.noted (λ w. session_matches w c.args.repo.now c.args.number c.args.digest.now) (λ w. finish_as_is w c.args.repo.now c.args.number c.args.digest.now)
    c.finish_known-answer.ensures.made c.finish_known-answer.ensures.memory c.finish_known-answer.ensures.crash
