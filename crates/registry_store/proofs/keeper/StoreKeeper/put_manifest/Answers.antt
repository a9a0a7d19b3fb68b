use Rattle.std.proofs.Common.{◌≡◌, true}
use Rattle.registry_model.specs.Ask.{text_in}
use Rattle.registry_model.specs.Lookups.{put_manifest}
use Rattle.registry_model.specs.World.{has_repo}
use Rattle.registry_store.proofs.KeeperStates.{asked}
use Rattle.registry_store.proofs.KeeperAnswers.{nothing_once, write_holds, writes_once}
use Rattle.registry_store.proofs.keeper.StoreKeeper.put_manifest.Goals as goal

pub put_manifest-answer-requires : goal.put_manifest-answer-requires
put_manifest-answer-requires g c = record { matching = c.requires.matching; reads = c.requires.reads; fits = c.requires.fits }

pub invariant_of-self : goal.invariant_of-self
invariant_of-self g c =
    write_holds g.S.Store g.C.Contents g.O.Origin.is_ours c.self.inside.conn c.self.inside.contents c.args.self.now c.self.inside.spent c.self.view_is c.self.inside.known c.self.invariant c.if-self.false (c.put_manifest-answer.new.conn, c.put_manifest-answer.new.contents) c.put_manifest-answer.ensures.clean
    c.note_fault.result c.put_manifest-answer.result c.note_fault.new.spent c.note_fault.ensures.same c.note_fault.ensures.noted c.put_manifest-answer.new.known (λ w. put_manifest w c.args.repo.now c.args.digest.now c.args.bytes.now (text_in c.args.tag))
    (λ ours. c.put_manifest-answer.ensures.made (asked g.S.Store g.C.Contents c.self.inside.conn c.self.inside.contents c.args.self.now c.self.inside.spent c.self.view_is (λ w. has_repo w c.args.repo.now ≡ true) g.O.Origin.is_ours c.if-self.false ours c.requires.there))
    (λ ours. c.put_manifest-answer.ensures.memory (asked g.S.Store g.C.Contents c.self.inside.conn c.self.inside.contents c.args.self.now c.self.inside.spent c.self.view_is (λ w. has_repo w c.args.repo.now ≡ true) g.O.Origin.is_ours c.if-self.false ours c.requires.there))
    (λ ours. c.put_manifest-answer.ensures.known (asked g.S.Store g.C.Contents c.self.inside.conn c.self.inside.contents c.args.self.now c.self.inside.spent c.self.view_is (λ w. has_repo w c.args.repo.now ≡ true) g.O.Origin.is_ours c.if-self.false ours c.requires.there))

pub returns-then-self : goal.returns-then-self
returns-then-self g c = nothing_once g.S.Store g.C.Contents g.O.Origin.is_ours c.self.inside.conn c.self.inside.contents c.args.self.now c.self.inside.spent c.self.view_is c.if-self.true

pub returns : goal.returns
returns g c =
    writes_once g.S.Store g.C.Contents g.O.Origin.is_ours c.self.inside.conn c.self.inside.contents c.args.self.now c.self.inside.spent c.self.view_is c.self.inside.known c.self.invariant c.if-self.false (c.put_manifest-answer.new.conn, c.put_manifest-answer.new.contents) c.put_manifest-answer.ensures.clean
    c.note_fault.result c.put_manifest-answer.result c.note_fault.new.spent c.note_fault.ensures.same c.note_fault.ensures.noted (λ w. put_manifest w c.args.repo.now c.args.digest.now c.args.bytes.now (text_in c.args.tag))
    (λ ours. c.put_manifest-answer.ensures.made (asked g.S.Store g.C.Contents c.self.inside.conn c.self.inside.contents c.args.self.now c.self.inside.spent c.self.view_is (λ w. has_repo w c.args.repo.now ≡ true) g.O.Origin.is_ours c.if-self.false ours c.requires.there))
    (λ ours. c.put_manifest-answer.ensures.memory (asked g.S.Store g.C.Contents c.self.inside.conn c.self.inside.contents c.args.self.now c.self.inside.spent c.self.view_is (λ w. has_repo w c.args.repo.now ≡ true) g.O.Origin.is_ours c.if-self.false ours c.requires.there))
    (λ ours. c.put_manifest-answer.ensures.crash (asked g.S.Store g.C.Contents c.self.inside.conn c.self.inside.contents c.args.self.now c.self.inside.spent c.self.view_is (λ w. has_repo w c.args.repo.now ≡ true) g.O.Origin.is_ours c.if-self.false ours c.requires.there))
