use Rattle.std.proofs.Common.{◌∙◌, ap, rules, w64, SFits, refl}
use Rattle.std.proofs.lemmas.Int.{to_z-of_z}
use Rattle.sqlite.specs.Held.{state}
use Rattle.sqlite.specs.declared.types.Value.TheVariants.{Int}
use Rattle.store_contents.specs.Layouts.{Layout}
use Rattle.store_statements.proofs.GrantRows.{set_by}
use Rattle.store_statements.proofs.Executed.{given, keeps, makes_so_many}
use Rattle.store_statements.proofs.grants.set_level.Goals as goal

pub returns : goal.returns
returns g c =
    let range : SFits w64 c.number_of.result = search rules in
    let it = λ (l : Layout). makes_so_many g.S.Store c.args.tx.now.conn.now c.execute.new.self.conn.now _ _ c.execute.result c.execute.ensures.runs _ (given c.params-to_sql.ensures (given c.params-to_sql-2.ensures (given (c.params-to_sql-3.ensures ∙ ap Int (to_z-of_z w64 c.number_of.result range ∙ c.number_of.ensures)) refl))) {l = l} c.told.result _ _ c.told.ensures.ok (set_by c.args.token.now c.args.repo.now c.args.level (state g.S.Store c.args.tx.now.conn.now) (state g.S.Store c.execute.new.self.conn.now) c.execute.result) in
    record {
      set = λ l. (it l).0;
      counted = λ l. (it l).1;
      kept = keeps g.S.Store c.args.tx.now.conn.now c.execute.new.self.conn.now _ _ c.execute.result c.execute.ensures.runs;
      same_reference = c.execute.ensures.same_reference;
      survives = c.execute.ensures.survives;
    }
