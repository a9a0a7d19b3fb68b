use Rattle.std.proofs.Common.{◌≡◌, ◌∙◌, ap, pos, to_z, w64, refl}
use Rattle.sqlite.specs.Held.{state}
use Rattle.sqlite.specs.declared.types.Value.TheVariants.{Int}
use Rattle.store_statements.proofs.UploadRows.{added_by}
use Rattle.store_statements.proofs.Executed.{given, keeps, makes_from, is_whole}
use Rattle.store_statements.proofs.uploads.add_upload.Goals as goal

pub returns : goal.returns
returns g c =
    let numbered : to_z w64 c.args.number ≡ pos c.args.number = is_whole c.args.number c.requires.fits in
    record {
      added = λ l. makes_from g.S.Store c.args.tx.now.conn.now c.execute.new.self.conn.now _ _ c.execute.result c.execute.ensures.runs _ (given c.params-to_sql.ensures (given (c.params-to_sql-2.ensures ∙ ap Int numbered) refl)) c.done.result _ _ c.done.ensures.ok
          (added_by c.args.repo.now c.args.number (state g.S.Store c.args.tx.now.conn.now) (state g.S.Store c.execute.new.self.conn.now) c.execute.result);
      kept = keeps g.S.Store c.args.tx.now.conn.now c.execute.new.self.conn.now _ _ c.execute.result c.execute.ensures.runs;
      same_reference = c.execute.ensures.same_reference;
      survives = c.execute.ensures.survives;
    }
