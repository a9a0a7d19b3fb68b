use Rattle.registry_model.specs.Lookups.{tag_at}
use Rattle.registry_store.proofs.RowCalls.{rows_clean, rows_stay}
use Rattle.registry_store.proofs.KeeperAnswers.{read_holds, read_says, spends_told, still_spent, was_honest}
use Rattle.registry_store.proofs.keeper.StoreKeeper.tag.Goals as goal

pub invariant_of-self : goal.invariant_of-self
invariant_of-self g c =
    read_holds g.S.Store g.C.Contents g.O.Origin.is_ours c.self.inside.conn c.self.inside.contents c.args.self.now c.self.inside.spent c.self.view_is c.self.inside.known c.self.invariant c.if-self.false (c.tag-answer.new.conn, c.self.inside.contents) (rows_clean g.S.Store g.C.Contents c.self.inside.contents c.self.inside.conn c.tag-answer.new.conn c.tag-answer.ensures.survives)
    c.note_fault.result c.tag-answer.result c.note_fault.new.spent c.note_fault.ensures.same c.note_fault.ensures.noted (rows_stay g.S.Store g.C.Contents c.self.inside.contents c.self.inside.conn c.tag-answer.new.conn c.tag-answer.result (c.tag-answer.ensures.settled (g.C.Contents.layout c.self.inside.contents)))

pub returns-then-self : goal.returns-then-self
returns-then-self g c = record {
  found = λ honest. tt;
  spends = still_spent g.S.Store g.C.Contents g.O.Origin.is_ours c.self.inside.conn c.self.inside.contents c.args.self.now c.self.inside.spent c.self.view_is c.if-self.true;
  honest = λ honest. honest;
}

pub returns : goal.returns
returns g c = record {
  found =
      read_says g.S.Store g.C.Contents g.O.Origin.is_ours c.self.inside.conn c.self.inside.contents c.args.self.now c.self.inside.spent c.self.view_is c.self.inside.known c.self.invariant c.if-self.false (c.tag-answer.new.conn, c.self.inside.contents) (rows_clean g.S.Store g.C.Contents c.self.inside.contents c.self.inside.conn c.tag-answer.new.conn c.tag-answer.ensures.survives)
      c.note_fault.result c.tag-answer.result c.note_fault.new.spent c.note_fault.ensures.same c.note_fault.ensures.noted _ (λ w. tag_at w c.args.repo.now c.args.tag.now) (λ _ clean is. c.tag-answer.ensures.found (g.C.Contents.layout c.self.inside.contents) clean.0 is.settled) (rows_stay g.S.Store g.C.Contents c.self.inside.contents c.self.inside.conn c.tag-answer.new.conn c.tag-answer.result (c.tag-answer.ensures.settled (g.C.Contents.layout c.self.inside.contents)));
  spends =
      spends_told g.S.Store g.C.Contents g.O.Origin.is_ours c.self.inside.conn c.self.inside.contents c.args.self.now c.self.inside.spent c.self.view_is c.self.inside.known c.self.invariant c.if-self.false (c.tag-answer.new.conn, c.self.inside.contents) (rows_clean g.S.Store g.C.Contents c.self.inside.contents c.self.inside.conn c.tag-answer.new.conn c.tag-answer.ensures.survives)
      c.note_fault.result c.tag-answer.result c.note_fault.new.spent c.note_fault.ensures.same c.note_fault.ensures.noted;
  honest =
      was_honest g.S.Store g.C.Contents g.O.Origin.is_ours c.self.inside.conn c.self.inside.contents c.args.self.now c.self.inside.spent c.self.view_is c.self.inside.known c.self.invariant c.if-self.false (c.tag-answer.new.conn, c.self.inside.contents) (rows_clean g.S.Store g.C.Contents c.self.inside.contents c.self.inside.conn c.tag-answer.new.conn c.tag-answer.ensures.survives) c.note_fault.new.spent;
}
