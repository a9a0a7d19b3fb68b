use Rattle.std.proofs.Common.{refl}
use Rattle.sqlite.specs.Held.{state}
use Rattle.store_schema.proofs.Selects.{leaves_all, keeps_by_query}
use Rattle.store_statements.proofs.Executed.{given}
use Rattle.store_migration.specs.OldTexts.{blob_bytes as text}
use Rattle.store_migration.proofs.Read.{same_of, shown_for}
use Rattle.store_migration.proofs.BlobRows.{bytes_read}
use Rattle.store_migration.proofs.old_blobs.blob_bytes.Goals as goal

pub returns : goal.returns
returns g c =
    let old = state g.S.Store c.args.tx.now.conn.now in
    let new = state g.S.Store c.query_all.new.self.conn.now in
    record {
      found = λ clean is olds. bytes_read c.args.repo.now c.args.digest.now old new c.query_all.result c.first_bytes.result olds c.first_bytes.ensures (shown_for text _ _ old new c.query_all.result (given c.params-to_sql.ensures (given c.params-to_sql-2.ensures refl)) (c.query_all.ensures.ok clean));
      same = λ clean is olds. same_of c.query_all.result c.first_bytes.result _ _ c.first_bytes.ensures (leaves_all text _ old new c.query_all.result olds.known.blob_texts.bytes_mean.plain (c.query_all.ensures.ok clean));
      kept = λ clean is olds. keeps_by_query text _ old new c.query_all.result olds.known.blob_texts.bytes_mean.plain (c.query_all.ensures.ok clean) (c.query_all.ensures.err clean);
      same_reference = c.query_all.ensures.same_reference;
      survives = c.query_all.ensures.survives;
    }
