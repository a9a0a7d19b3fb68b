use Rattle.std.proofs.Common.{◌≡◌, ◌∙◌, ap, pos, to_z, w64, refl}
use Rattle.sqlite.specs.Held.{state}
use Rattle.sqlite.specs.declared.types.Value.TheVariants.{Int}
use Rattle.store_contents.specs.Layouts.{Layout}
use Rattle.store_statements.proofs.RepoRows.{last_set_by}
use Rattle.store_statements.proofs.Executed.{given, keeps, makes_so_many, is_whole}
use Rattle.store_statements.proofs.repos.set_last.Goals as goal

pub returns : goal.returns
returns g c =
    let whole : to_z w64 c.args.number ≡ pos c.args.number = is_whole c.args.number c.requires.fits in
    let it = λ (l : Layout). makes_so_many g.S.Store c.args.tx.now.conn.now c.execute.new.self.conn.now _ _ c.execute.result c.execute.ensures.runs _ (given c.params-to_sql.ensures (given (c.params-to_sql-2.ensures ∙ ap Int whole) refl)) {l = l} c.told.result _ _ c.told.ensures.ok (last_set_by c.args.name.now c.args.number (state g.S.Store c.args.tx.now.conn.now) (state g.S.Store c.execute.new.self.conn.now) c.execute.result) in
    record {
      set = λ l. (it l).0;
      counted = λ l. (it l).1;
      kept = keeps g.S.Store c.args.tx.now.conn.now c.execute.new.self.conn.now _ _ c.execute.result c.execute.ensures.runs;
      same_reference = c.execute.ensures.same_reference;
      survives = c.execute.ensures.survives;
    }
