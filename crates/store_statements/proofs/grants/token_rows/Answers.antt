use Rattle.std.proofs.Common.{[], ◌∷◌}
use Rattle.sqlite.specs.Held.{state}
use Rattle.sqlite.specs.declared.types.Value.TheVariants.{Text}
use Rattle.store_schema.proofs.Selects.{leaves_all}
use Rattle.store_statements.specs.GrantTexts.{grant_list}
use Rattle.store_contents.proofs.Lasting.{lasts}
use Rattle.store_statements.proofs.SelectedRows.{leaves_failed}
use Rattle.store_statements.proofs.GrantReads.{shows_levels}
use Rattle.store_statements.proofs.grants.token_rows.Goals as goal

pub returns-clause-shown : goal.returns-clause-shown
returns-clause-shown g c l clean is =
    shows_levels c.args.repo.now (state g.S.Store c.args.conn.now) (state g.S.Store c.query_all.new.self) c.query_all.result is.holds (rw c.params-to_sql.ensures at (c.query_all.ensures.ok clean))

pub returns-clause-same : goal.returns-clause-same
returns-clause-same g c l clean is =
    leaves_all grant_list (Text c.args.repo.now ∷ []) (state g.S.Store c.args.conn.now) (state g.S.Store c.query_all.new.self) c.query_all.result is.holds.known.grant_texts.list.plain (rw c.params-to_sql.ensures at (c.query_all.ensures.ok clean))

pub returns-clause-err : goal.returns-clause-err
returns-clause-err g c l clean is =
    leaves_failed grant_list (Text c.args.repo.now ∷ []) (state g.S.Store c.args.conn.now) (state g.S.Store c.query_all.new.self) c.query_all.result is.holds.known.grant_texts.list.plain (rw c.params-to_sql.ensures at (c.query_all.ensures.err clean))

pub returns-clause-survives : goal.returns-clause-survives
returns-clause-survives g c = lasts (state g.S.Store c.args.conn.now) (state g.S.Store c.query_all.new.self) _ c.query_all.ensures.survives
