use Rattle.registry_model.specs.Lookups.{manifests_on_at}
use Rattle.registry_store.proofs.RowCalls.{bytes_clean, bytes_stay, remembered}
use Rattle.registry_store.proofs.KeeperAnswers.{read_holds, read_says, spends_told, still_spent, was_honest}
use Rattle.registry_store.proofs.keeper.StoreKeeper.manifests_of_subject.Goals as goal

pub invariant_of-self : goal.invariant_of-self
invariant_of-self g c =
    read_holds g.S.Store g.C.Contents g.O.Origin.is_ours c.self.inside.conn c.self.inside.contents c.args.self.now c.self.inside.spent c.self.view_is c.self.inside.known c.self.invariant c.if-self.false (c.manifests_of_subject-answer.new.conn, c.manifests_of_subject-answer.new.contents) (bytes_clean g.S.Store g.C.Contents c.self.inside.contents c.manifests_of_subject-answer.new.contents c.self.inside.conn c.manifests_of_subject-answer.new.conn c.manifests_of_subject-answer.ensures.same c.manifests_of_subject-answer.ensures.survives)
    c.note_fault.result c.manifests_of_subject-answer.result c.note_fault.new.spent c.note_fault.ensures.same c.note_fault.ensures.noted (bytes_stay g.S.Store g.C.Contents c.self.inside.contents c.manifests_of_subject-answer.new.contents c.self.inside.conn c.manifests_of_subject-answer.new.conn c.manifests_of_subject-answer.ensures.same c.manifests_of_subject-answer.result c.manifests_of_subject-answer.ensures.settled)

pub returns-then-self : goal.returns-then-self
returns-then-self g c = record {
  found = λ honest. tt;
  spends = still_spent g.S.Store g.C.Contents g.O.Origin.is_ours c.self.inside.conn c.self.inside.contents c.args.self.now c.self.inside.spent c.self.view_is c.if-self.true;
  honest = λ honest. honest;
}

pub returns : goal.returns
returns g c = record {
  found =
      read_says g.S.Store g.C.Contents g.O.Origin.is_ours c.self.inside.conn c.self.inside.contents c.args.self.now c.self.inside.spent c.self.view_is c.self.inside.known c.self.invariant c.if-self.false (c.manifests_of_subject-answer.new.conn, c.manifests_of_subject-answer.new.contents) (bytes_clean g.S.Store g.C.Contents c.self.inside.contents c.manifests_of_subject-answer.new.contents c.self.inside.conn c.manifests_of_subject-answer.new.conn c.manifests_of_subject-answer.ensures.same c.manifests_of_subject-answer.ensures.survives)
      c.note_fault.result c.manifests_of_subject-answer.result c.note_fault.new.spent c.note_fault.ensures.same c.note_fault.ensures.noted _ (λ w. manifests_on_at w c.args.repo.now c.args.digest.now) (λ _ clean is. c.manifests_of_subject-answer.ensures.found (record { clean = clean.1; spared = remembered g.S.Store g.C.Contents g.C.Contents.remembers_spared (c.self.inside.conn, c.self.inside.contents) is }) clean.0 is.settled) (bytes_stay g.S.Store g.C.Contents c.self.inside.contents c.manifests_of_subject-answer.new.contents c.self.inside.conn c.manifests_of_subject-answer.new.conn c.manifests_of_subject-answer.ensures.same c.manifests_of_subject-answer.result c.manifests_of_subject-answer.ensures.settled);
  spends =
      spends_told g.S.Store g.C.Contents g.O.Origin.is_ours c.self.inside.conn c.self.inside.contents c.args.self.now c.self.inside.spent c.self.view_is c.self.inside.known c.self.invariant c.if-self.false (c.manifests_of_subject-answer.new.conn, c.manifests_of_subject-answer.new.contents) (bytes_clean g.S.Store g.C.Contents c.self.inside.contents c.manifests_of_subject-answer.new.contents c.self.inside.conn c.manifests_of_subject-answer.new.conn c.manifests_of_subject-answer.ensures.same c.manifests_of_subject-answer.ensures.survives)
      c.note_fault.result c.manifests_of_subject-answer.result c.note_fault.new.spent c.note_fault.ensures.same c.note_fault.ensures.noted;
  honest =
      was_honest g.S.Store g.C.Contents g.O.Origin.is_ours c.self.inside.conn c.self.inside.contents c.args.self.now c.self.inside.spent c.self.view_is c.self.inside.known c.self.invariant c.if-self.false (c.manifests_of_subject-answer.new.conn, c.manifests_of_subject-answer.new.contents) (bytes_clean g.S.Store g.C.Contents c.self.inside.contents c.manifests_of_subject-answer.new.contents c.self.inside.conn c.manifests_of_subject-answer.new.conn c.manifests_of_subject-answer.ensures.same c.manifests_of_subject-answer.ensures.survives) c.note_fault.new.spent;
}
