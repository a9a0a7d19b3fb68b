use Rattle.std.specs.Prelude.{◌≡◌}
use Rattle.store_statements.specs.Between.{Finds, Keeps, Stays}
use Rattle.store_statements.specs.ContentShown.{has_sha256_digest}
use Rattle.store_bytes.proofs.OfKind.{of_tables}
use Rattle.store_bytes.proofs.table_contents.TableContentsContents.has_digest.Goals as goal

pub returns-clause-found : goal.returns-clause-found
returns-clause-found g c =
    of_tables (λ l. Finds g.S.Store l c.args.conn.now c.has_digest.new.conn c.has_digest.result (λ t has. has ≡ has_sha256_digest (t.contents c.args.id.id) c.args.digest.now)) c.has_digest.ensures.found

pub returns-clause-settled : goal.returns-clause-settled
returns-clause-settled g c = of_tables (λ l. Stays g.S.Store l c.args.conn.now c.has_digest.new.conn c.has_digest.result) c.has_digest.ensures.settled

pub returns-clause-kept : goal.returns-clause-kept
returns-clause-kept g c = of_tables (λ l. Keeps g.S.Store l c.args.conn.now c.has_digest.new.conn) c.has_digest.ensures.kept
