use Rattle.std.proofs.Common.{◌≡◌, ◌∙◌, ap, pos, to_z, w64, refl}
use Rattle.sqlite.specs.Held.{state}
use Rattle.sqlite.specs.declared.types.Value.TheVariants.{Int}
use Rattle.store_contents.specs.Layouts.{Layout}
use Rattle.store_statements.proofs.UploadRows.{set_by}
use Rattle.store_statements.proofs.Executed.{given, keeps, makes_so_many, is_whole}
use Rattle.store_statements.proofs.uploads.set_size.Goals as goal

pub returns : goal.returns
returns g c =
    let numbered : to_z w64 c.args.number ≡ pos c.args.number = is_whole c.args.number c.requires.number_fits in
    let sized : to_z w64 c.args.size ≡ pos c.args.size = is_whole c.args.size c.requires.size_fits in
    let it = λ (l : Layout). makes_so_many g.S.Store c.args.tx.now.conn.now c.execute.new.self.conn.now _ _ c.execute.result c.execute.ensures.runs _ (given c.params-to_sql.ensures (given (c.params-to_sql-2.ensures ∙ ap Int numbered) (given (c.params-to_sql-3.ensures ∙ ap Int sized) refl))) {l = l} c.told.result _ _ c.told.ensures.ok (set_by c.args.repo.now c.args.number c.args.size (state g.S.Store c.args.tx.now.conn.now) (state g.S.Store c.execute.new.self.conn.now) c.execute.result) in
    record {
      set = λ l. (it l).0;
      counted = λ l. (it l).1;
      kept = keeps g.S.Store c.args.tx.now.conn.now c.execute.new.self.conn.now _ _ c.execute.result c.execute.ensures.runs;
      same_reference = c.execute.ensures.same_reference;
      survives = c.execute.ensures.survives;
    }
