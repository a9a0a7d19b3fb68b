use Rattle.std.proofs.Common.{refl}
use Rattle.std.specs.Prelude.{IfSome}
use Rattle.sqlite.specs.Held.{state}
use Rattle.registry_model.specs.Manifests.{without_manifest}
use Rattle.store_statements.proofs.Transactions.{survives_all}
use Rattle.store_reads.specs.Usages.{Foretells, AreNaming}
use Rattle.store_reads.proofs.Behind.{found_behind, tells_behind, stays_behind, kept_behind}
use Rattle.store_reads.proofs.deletion_lookups.delete_manifest_change.Goals as goal

pub returns-in-Ok : goal.returns-in-Ok
returns-in-Ok g c = record {
  found = λ l clean is.
      tells_behind g.S.Store c.args.conn.now c.count_tags_naming.new.conn (λ mid is. c.in-Ok.ensures.settled l mid is refl) c.named_manifest_change.new.conn c.named_manifest_change.ensures.survives
      c.named_manifest_change.result (λ w change. IfSome change (Foretells w c.args.repo.now (λ r. without_manifest r c.args.digest.now)))
      (c.named_manifest_change.ensures.found l (found_behind g.S.Store c.args.conn.now c.count_tags_naming.new.conn (λ mid is. c.in-Ok.ensures.settled l mid is refl)
      (λ w. AreNaming w c.args.repo.now c.args.digest.now c.in-Ok.tags) is (λ mid. c.in-Ok.ensures.found l mid is))) clean is;
  settled = λ l. stays_behind g.S.Store c.args.conn.now c.count_tags_naming.new.conn (λ mid is. c.in-Ok.ensures.settled l mid is refl) c.named_manifest_change.new.conn c.named_manifest_change.ensures.survives
      c.named_manifest_change.result (c.named_manifest_change.ensures.settled l);
  kept = λ l. kept_behind g.S.Store c.args.conn.now c.count_tags_naming.new.conn (λ mid is. c.in-Ok.ensures.settled l mid is refl) c.named_manifest_change.new.conn c.named_manifest_change.ensures.survives (c.named_manifest_change.ensures.kept l);
  survives = survives_all (state g.S.Store c.args.conn.now) (state g.S.Store c.count_tags_naming.new.conn) (state g.S.Store c.named_manifest_change.new.conn) _ _ c.count_tags_naming.ensures.survives c.named_manifest_change.ensures.survives;
}

pub returns-in-Err : goal.returns-in-Err
returns-in-Err g c = record {
  found = λ l clean is. tt;
  settled = λ l clean is unspent. c.in-Err.ensures.settled l clean is unspent;
  kept = c.count_tags_naming.ensures.kept;
  survives = c.count_tags_naming.ensures.survives;
}
