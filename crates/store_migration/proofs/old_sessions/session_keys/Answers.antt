use Rattle.std.proofs.Common.{[]}
use Rattle.sqlite.specs.Held.{state}
use Rattle.store_schema.proofs.Selects.{leaves_all, keeps_by_query}
use Rattle.store_migration.specs.OldTexts.{session_keys as text}
use Rattle.store_migration.proofs.Read.{same_of}
use Rattle.store_migration.proofs.SessionRows.{keys_read}
use Rattle.store_migration.proofs.old_sessions.session_keys.Goals as goal

pub returns : goal.returns
returns g c =
    let old = state g.S.Store c.args.tx.now.conn.now in
    let new = state g.S.Store c.query_all.new.self.conn.now in
    record {
      found = λ clean is olds. keys_read old new c.query_all.result c.keys_of.result olds c.keys_of.ensures (c.query_all.ensures.ok clean);
      same = λ clean is olds. same_of c.query_all.result c.keys_of.result _ _ c.keys_of.ensures (leaves_all text [] old new c.query_all.result olds.known.session_texts.keys_mean.plain (c.query_all.ensures.ok clean));
      kept = λ clean is olds. keeps_by_query text [] old new c.query_all.result olds.known.session_texts.keys_mean.plain (c.query_all.ensures.ok clean) (c.query_all.ensures.err clean);
      same_reference = c.query_all.ensures.same_reference;
      survives = c.query_all.ensures.survives;
    }
