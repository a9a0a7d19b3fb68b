use Rattle.std.proofs.Common.{◌≡◌, ◌∙◌, ap, rules, pos, to_z, w64, SFits, refl}
use Rattle.std.proofs.lemmas.Int.{to_z-of_z}
use Rattle.sqlite.specs.Held.{state}
use Rattle.sqlite.specs.declared.types.Value.TheVariants.{Int}
use Rattle.store_statements.proofs.PieceRows.{added_by}
use Rattle.store_statements.proofs.Executed.{given, keeps, makes_from, is_whole}
use Rattle.store_statements.proofs.pieces.add_piece.Goals as goal

pub returns : goal.returns
returns g c =
    let numbered : to_z w64 c.args.number ≡ pos c.args.number = is_whole c.args.number c.requires.number_fits in
    let begun : to_z w64 c.args.start ≡ pos c.args.start = is_whole c.args.start c.requires.start_fits in
    let sized : to_z w64 c.args.size ≡ pos c.args.size = is_whole c.args.size c.requires.size_fits in
    let range : SFits w64 c.get.result = search rules in
    record {
      added = λ l. makes_from g.S.Store c.args.tx.now.conn.now c.execute.new.self.conn.now _ _ c.execute.result c.execute.ensures.runs _ (given c.params-to_sql.ensures (given (c.params-to_sql-2.ensures ∙ ap Int numbered) (given (c.params-to_sql-3.ensures ∙ ap Int begun) (given (c.params-to_sql-4.ensures ∙ ap Int sized) (given (c.params-to_sql-5.ensures ∙ ap Int (to_z-of_z w64 c.get.result range ∙ c.get.ensures)) refl))))) c.done.result _ _ c.done.ensures.ok
          (added_by c.args.repo.now c.args.number c.args.start c.args.size c.args.content.id (state g.S.Store c.args.tx.now.conn.now) (state g.S.Store c.execute.new.self.conn.now) c.execute.result);
      kept = keeps g.S.Store c.args.tx.now.conn.now c.execute.new.self.conn.now _ _ c.execute.result c.execute.ensures.runs;
      same_reference = c.execute.ensures.same_reference;
      survives = c.execute.ensures.survives;
    }
