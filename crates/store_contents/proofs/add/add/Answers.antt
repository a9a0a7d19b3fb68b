use Rattle.std.proofs.Common.{◌≡◌, ◌∙◌, ap, arith, rules, length, pos, to_z, w64, SFits, sym, subst}
use Rattle.std.proofs.lemmas.Int.{ints, to_z-of_z}
use Rattle.sqlite.specs.Held.{state}
use Rattle.sqlite.specs.declared.types.Value.TheVariants.{Int}
use Rattle.store_contents.specs.Contents.{Adds}
use Rattle.store_contents.proofs.AddLemmas.{added}
use Rattle.store_contents.proofs.add.add.Goals as goal

pub returns-in-Ok-clause-added : goal.returns-in-Ok-clause-added
returns-in-Ok-clause-added g c clean is nowhere =
    let whole : to_z w64 (length c.args.bytes.now) ≡ pos (length c.args.bytes.now) = omega (arith, ints) in
    let range : SFits w64 c.last_insert_rowid.result = search rules in
    let runs = c.in-Ok.ensures.runs clean is.inside in
    subst (λ id. Adds (state g.S.Store c.args.tx.now.conn.now).now (state g.S.Store c.execute.new.self.conn.now).now id c.args.bytes.now) (sym (c.new.ensures ∙ to_z-of_z w64 c.last_insert_rowid.result range ∙ c.last_insert_rowid.ensures))
    (added (state g.S.Store c.args.tx.now.conn.now) (state g.S.Store c.execute.new.self.conn.now) c.args.sha256.now c.args.bytes.now _ is.contents c.requires.hashed nowhere
    (rw (c.params-to_sql.ensures, c.params-to_sql-2.ensures ∙ ap Int whole, c.params-to_sql-3.ensures) at runs.0)).0

pub returns-in-Ok-clause-inside : goal.returns-in-Ok-clause-inside
returns-in-Ok-clause-inside g c clean is nowhere =
    let whole : to_z w64 (length c.args.bytes.now) ≡ pos (length c.args.bytes.now) = omega (arith, ints) in
    let runs = c.in-Ok.ensures.runs clean is.inside in
    record {
      inside = runs.1.mode;
      contents = (added (state g.S.Store c.args.tx.now.conn.now) (state g.S.Store c.execute.new.self.conn.now) c.args.sha256.now c.args.bytes.now _ is.contents c.requires.hashed nowhere
          (rw (c.params-to_sql.ensures, c.params-to_sql-2.ensures ∙ ap Int whole, c.params-to_sql-3.ensures) at runs.0)).1;
    }
