use Rattle.std.proofs.Common.{◌≡◌, ◌∙◌, None, refl, sym}
use Rattle.std.specs.Prelude.{IfSome}
use Rattle.sqlite.specs.Held.{state}
use Rattle.registry_model.specs.Lookups.{blob_at, blob_size_at, with_mounted}
use Rattle.store_statements.specs.Held.{world_in}
use Rattle.store_statements.proofs.Transactions.{survives_all}
use Rattle.store_reads.specs.Usages.{Foretells}
use Rattle.store_reads.proofs.Foretold.{mount_kept}
use Rattle.store_reads.proofs.Behind.{found_behind, tells_behind, stays_behind, kept_behind}
use Rattle.store_reads.proofs.change_lookups.mount_change.Goals as goal

pub returns-in-Ok-Some : goal.returns-in-Ok-Some
returns-in-Ok-Some g c = record {
  found = λ l clean is.
      let w = world_in l (state g.S.Store c.args.conn.now) in
      mount_kept w c.args.to.now c.args.digest.now (blob_at w c.args.from.now c.args.digest.now) c.in-Ok-Some.field-0-0 (sym c.in-Ok-Some.field-0-is ∙ c.in-Ok-Some.ensures.found l clean is);
  settled = c.in-Ok-Some.ensures.settled;
  kept = c.blob_size.ensures.kept;
  survives = c.blob_size.ensures.survives;
}

pub returns-in-Ok-None : goal.returns-in-Ok-None
returns-in-Ok-None g c = record {
  found = λ l clean is.
      tells_behind g.S.Store c.args.conn.now c.blob_size.new.conn (λ mid is. c.in-Ok-None.ensures.settled l mid is refl) c.source_change.new.conn c.source_change.ensures.survives
      c.source_change.result (λ w change. IfSome change (Foretells w c.args.to.now (with_mounted c.args.digest.now (blob_at w c.args.from.now c.args.digest.now))))
      (c.source_change.ensures.found l (found_behind g.S.Store c.args.conn.now c.blob_size.new.conn (λ mid is. c.in-Ok-None.ensures.settled l mid is refl)
      (λ w. blob_size_at w c.args.to.now c.args.digest.now ≡ None) is (λ mid. sym (c.in-Ok-None.ensures.found l mid is) ∙ c.in-Ok-None.field-0-is))) clean is;
  settled = λ l. stays_behind g.S.Store c.args.conn.now c.blob_size.new.conn (λ mid is. c.in-Ok-None.ensures.settled l mid is refl) c.source_change.new.conn c.source_change.ensures.survives
      c.source_change.result (c.source_change.ensures.settled l);
  kept = λ l. kept_behind g.S.Store c.args.conn.now c.blob_size.new.conn (λ mid is. c.in-Ok-None.ensures.settled l mid is refl) c.source_change.new.conn c.source_change.ensures.survives (c.source_change.ensures.kept l);
  survives = survives_all (state g.S.Store c.args.conn.now) (state g.S.Store c.blob_size.new.conn) (state g.S.Store c.source_change.new.conn) _ _ c.blob_size.ensures.survives c.source_change.ensures.survives;
}

pub returns-in-Err : goal.returns-in-Err
returns-in-Err g c = record {
  found = λ l clean is. tt;
  settled = λ l clean is unspent. c.in-Err.ensures.settled l clean is unspent;
  kept = c.blob_size.ensures.kept;
  survives = c.blob_size.ensures.survives;
}
