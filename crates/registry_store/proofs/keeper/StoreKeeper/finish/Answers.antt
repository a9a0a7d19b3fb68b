use Rattle.std.proofs.Common.{◌≡◌, true, is_some}
use Rattle.registry_model.specs.Lookups.{finish, session_at}
use Rattle.registry_store.proofs.KeeperStates.{asked}
use Rattle.registry_store.proofs.KeeperAnswers.{nothing_once, write_holds, writes_once}
use Rattle.registry_store.proofs.keeper.StoreKeeper.finish.Goals as goal

pub finish-answer-requires : goal.finish-answer-requires
finish-answer-requires g c = record { matching = c.requires.matching; fits = c.requires.fits }

pub invariant_of-self : goal.invariant_of-self
invariant_of-self g c =
    write_holds g.S.Store g.C.Contents g.O.Origin.is_ours c.self.inside.conn c.self.inside.contents c.args.self.now c.self.inside.spent c.self.view_is c.self.inside.known c.self.invariant c.if-self.false (c.finish-answer.new.conn, c.finish-answer.new.contents) c.finish-answer.ensures.clean
    c.note_fault.result c.finish-answer.result c.note_fault.new.spent c.note_fault.ensures.same c.note_fault.ensures.noted c.finish-answer.new.known (λ w. finish w c.args.repo.now c.args.number c.args.digest.now c.args.bytes.now)
    (λ ours. c.finish-answer.ensures.made (asked g.S.Store g.C.Contents c.self.inside.conn c.self.inside.contents c.args.self.now c.self.inside.spent c.self.view_is (λ w. is_some (session_at w c.args.repo.now c.args.number) ≡ true) g.O.Origin.is_ours c.if-self.false ours c.requires.open))
    (λ ours. c.finish-answer.ensures.memory (asked g.S.Store g.C.Contents c.self.inside.conn c.self.inside.contents c.args.self.now c.self.inside.spent c.self.view_is (λ w. is_some (session_at w c.args.repo.now c.args.number) ≡ true) g.O.Origin.is_ours c.if-self.false ours c.requires.open))
    (λ ours. c.finish-answer.ensures.known (asked g.S.Store g.C.Contents c.self.inside.conn c.self.inside.contents c.args.self.now c.self.inside.spent c.self.view_is (λ w. is_some (session_at w c.args.repo.now c.args.number) ≡ true) g.O.Origin.is_ours c.if-self.false ours c.requires.open))

pub returns-then-self : goal.returns-then-self
returns-then-self g c = nothing_once g.S.Store g.C.Contents g.O.Origin.is_ours c.self.inside.conn c.self.inside.contents c.args.self.now c.self.inside.spent c.self.view_is c.if-self.true

pub returns : goal.returns
returns g c =
    writes_once g.S.Store g.C.Contents g.O.Origin.is_ours c.self.inside.conn c.self.inside.contents c.args.self.now c.self.inside.spent c.self.view_is c.self.inside.known c.self.invariant c.if-self.false (c.finish-answer.new.conn, c.finish-answer.new.contents) c.finish-answer.ensures.clean
    c.note_fault.result c.finish-answer.result c.note_fault.new.spent c.note_fault.ensures.same c.note_fault.ensures.noted (λ w. finish w c.args.repo.now c.args.number c.args.digest.now c.args.bytes.now)
    (λ ours. c.finish-answer.ensures.made (asked g.S.Store g.C.Contents c.self.inside.conn c.self.inside.contents c.args.self.now c.self.inside.spent c.self.view_is (λ w. is_some (session_at w c.args.repo.now c.args.number) ≡ true) g.O.Origin.is_ours c.if-self.false ours c.requires.open))
    (λ ours. c.finish-answer.ensures.memory (asked g.S.Store g.C.Contents c.self.inside.conn c.self.inside.contents c.args.self.now c.self.inside.spent c.self.view_is (λ w. is_some (session_at w c.args.repo.now c.args.number) ≡ true) g.O.Origin.is_ours c.if-self.false ours c.requires.open))
    (λ ours. c.finish-answer.ensures.crash (asked g.S.Store g.C.Contents c.self.inside.conn c.self.inside.contents c.args.self.now c.self.inside.spent c.self.view_is (λ w. is_some (session_at w c.args.repo.now c.args.number) ≡ true) g.O.Origin.is_ours c.if-self.false ours c.requires.open))
