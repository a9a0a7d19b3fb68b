use Rattle.std.proofs.Common.{◌∙◌, ap, rules, w64, SFits, refl}
use Rattle.std.proofs.lemmas.Int.{to_z-of_z}
use Rattle.sqlite.specs.Held.{state}
use Rattle.sqlite.specs.declared.types.Value.TheVariants.{Int}
use Rattle.store_statements.proofs.GrantRows.{added_by}
use Rattle.store_statements.proofs.Executed.{given, keeps, makes_from}
use Rattle.store_statements.proofs.grants.add_grant.Goals as goal

pub returns : goal.returns
returns g c =
    let range : SFits w64 c.number_of.result = search rules in
    record {
      added = λ l. makes_from g.S.Store c.args.tx.now.conn.now c.execute.new.self.conn.now _ _ c.execute.result c.execute.ensures.runs _ (given c.params-to_sql.ensures (given c.params-to_sql-2.ensures (given (c.params-to_sql-3.ensures ∙ ap Int (to_z-of_z w64 c.number_of.result range ∙ c.number_of.ensures)) refl))) c.done.result _ _ c.done.ensures.ok
          (added_by c.args.token.now c.args.repo.now c.args.level (state g.S.Store c.args.tx.now.conn.now) (state g.S.Store c.execute.new.self.conn.now) c.execute.result);
      kept = keeps g.S.Store c.args.tx.now.conn.now c.execute.new.self.conn.now _ _ c.execute.result c.execute.ensures.runs;
      same_reference = c.execute.ensures.same_reference;
      survives = c.execute.ensures.survives;
    }
