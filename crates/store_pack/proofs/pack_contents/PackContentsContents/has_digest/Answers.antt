use Rattle.std.specs.Prelude.{◌≡◌}
use Rattle.registry_pack.specs.Pack.{file_of}
use Rattle.store_bytes.proofs.OfKind.{of_packs}
use Rattle.store_statements.specs.Between.{Finds, Keeps, Stays}
use Rattle.store_statements.specs.ContentShown.{has_sha256_digest}
use Rattle.store_pack.proofs.pack_contents.PackContentsContents.has_digest.Goals as goal

pub returns-clause-found : goal.returns-clause-found
returns-clause-found g c =
    of_packs
    (λ l. Finds g.S.Store l c.args.conn.now c.has_digest_in_pack.new.conn c.has_digest_in_pack.result (λ t has. has ≡ has_sha256_digest (t.contents c.args.id.id) c.args.digest.now))
    (g.D.Disk.seen (file_of c.args.self.now.pack)) c.has_digest_in_pack.ensures.found

pub returns-clause-settled : goal.returns-clause-settled
returns-clause-settled g c =
    of_packs (λ l. Stays g.S.Store l c.args.conn.now c.has_digest_in_pack.new.conn c.has_digest_in_pack.result) (g.D.Disk.seen (file_of c.args.self.now.pack)) c.has_digest_in_pack.ensures.settled

pub returns-clause-kept : goal.returns-clause-kept
returns-clause-kept g c = of_packs (λ l. Keeps g.S.Store l c.args.conn.now c.has_digest_in_pack.new.conn) (g.D.Disk.seen (file_of c.args.self.now.pack)) c.has_digest_in_pack.ensures.kept
