use Rattle.std.specs.Prelude.{⊤}
use Rattle.registry_model.specs.Lookups.{usage_at}
use Rattle.registry_store.proofs.RowCalls.{rows_clean, rows_know, rows_stay}
use Rattle.registry_store.proofs.KeeperAnswers.{call_holds, read_says, spends_told, still_spent, was_honest}
use Rattle.registry_store.proofs.keeper.StoreKeeper.usage.Goals as goal

pub invariant_of-self : goal.invariant_of-self
invariant_of-self g c =
    call_holds g.S.Store g.C.Contents g.O.Origin.is_ours c.self.inside.conn c.self.inside.contents c.args.self.now c.self.inside.spent c.self.view_is c.self.inside.known c.self.invariant c.if-self.false (c.recalled_usage-answer.new.conn, c.self.inside.contents) (rows_clean g.S.Store g.C.Contents c.self.inside.contents c.self.inside.conn c.recalled_usage-answer.new.conn c.recalled_usage-answer.ensures.survives)
    c.note_fault.result c.recalled_usage-answer.result c.note_fault.new.spent c.note_fault.ensures.same c.note_fault.ensures.noted c.recalled_usage-answer.new.known (λ ours clean is sound. (rows_stay g.S.Store g.C.Contents c.self.inside.contents c.self.inside.conn c.recalled_usage-answer.new.conn c.recalled_usage-answer.result (c.recalled_usage-answer.ensures.settled (g.C.Contents.layout c.self.inside.contents)) clean is sound).0) (λ ours. rows_know g.S.Store g.C.Contents c.self.inside.contents c.self.inside.conn c.recalled_usage-answer.new.conn c.recalled_usage-answer.result c.self.inside.known c.recalled_usage-answer.new.known (λ _. ⊤) (λ k _. c.recalled_usage-answer.ensures.known (g.C.Contents.layout c.self.inside.contents) k) (λ early. tt) (rows_clean g.S.Store g.C.Contents c.self.inside.contents c.self.inside.conn c.recalled_usage-answer.new.conn c.recalled_usage-answer.ensures.survives))

pub returns-then-self : goal.returns-then-self
returns-then-self g c = record {
  found = λ honest. tt;
  spends = still_spent g.S.Store g.C.Contents g.O.Origin.is_ours c.self.inside.conn c.self.inside.contents c.args.self.now c.self.inside.spent c.self.view_is c.if-self.true;
  honest = λ honest. honest;
}

pub returns : goal.returns
returns g c = record {
  found =
      read_says g.S.Store g.C.Contents g.O.Origin.is_ours c.self.inside.conn c.self.inside.contents c.args.self.now c.self.inside.spent c.self.view_is c.self.inside.known c.self.invariant c.if-self.false (c.recalled_usage-answer.new.conn, c.self.inside.contents) (rows_clean g.S.Store g.C.Contents c.self.inside.contents c.self.inside.conn c.recalled_usage-answer.new.conn c.recalled_usage-answer.ensures.survives)
      c.note_fault.result c.recalled_usage-answer.result c.note_fault.new.spent c.note_fault.ensures.same c.note_fault.ensures.noted _ (λ w. usage_at w c.args.repo.now) (λ ours clean is. c.recalled_usage-answer.ensures.found (g.C.Contents.layout c.self.inside.contents) (λ early. (c.self.invariant c.if-self.false ours (early, clean.1)).1) clean.0 is.settled) (rows_stay g.S.Store g.C.Contents c.self.inside.contents c.self.inside.conn c.recalled_usage-answer.new.conn c.recalled_usage-answer.result (c.recalled_usage-answer.ensures.settled (g.C.Contents.layout c.self.inside.contents)));
  spends =
      spends_told g.S.Store g.C.Contents g.O.Origin.is_ours c.self.inside.conn c.self.inside.contents c.args.self.now c.self.inside.spent c.self.view_is c.self.inside.known c.self.invariant c.if-self.false (c.recalled_usage-answer.new.conn, c.self.inside.contents) (rows_clean g.S.Store g.C.Contents c.self.inside.contents c.self.inside.conn c.recalled_usage-answer.new.conn c.recalled_usage-answer.ensures.survives)
      c.note_fault.result c.recalled_usage-answer.result c.note_fault.new.spent c.note_fault.ensures.same c.note_fault.ensures.noted;
  honest =
      was_honest g.S.Store g.C.Contents g.O.Origin.is_ours c.self.inside.conn c.self.inside.contents c.args.self.now c.self.inside.spent c.self.view_is c.self.inside.known c.self.invariant c.if-self.false (c.recalled_usage-answer.new.conn, c.self.inside.contents) (rows_clean g.S.Store g.C.Contents c.self.inside.contents c.self.inside.conn c.recalled_usage-answer.new.conn c.recalled_usage-answer.ensures.survives) c.note_fault.new.spent;
}
