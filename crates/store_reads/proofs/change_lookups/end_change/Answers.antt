use Rattle.std.proofs.Common.{◌∙◌, ℕ, sym, subst}
use Rattle.sqlite.specs.Held.{state}
use Rattle.registry_model.specs.Sessions.{finished}
use Rattle.store_statements.specs.Held.{world_in}
use Rattle.store_reads.specs.Usages.{Foretells}
use Rattle.store_reads.proofs.CleanBefore.{was_clean}
use Rattle.store_reads.proofs.Foretold.{end_kept, end_added}
use Rattle.store_reads.proofs.UsageTurns.{change}
use Rattle.store_reads.proofs.change_lookups.end_change.Goals as goal

pub returns-in-Ok-Some : goal.returns-in-Ok-Some
returns-in-Ok-Some g c = record {
  found = λ l sized bytes long clean is.
      end_kept (world_in l (state g.S.Store c.args.conn.now)) c.args.repo.now c.args.digest.now bytes c.args.number c.args.size
      (sized (was_clean (state g.S.Store c.args.conn.now) (state g.S.Store c.blob_size.new.conn) c.blob_size.ensures.survives clean)) c.in-Ok-Some.field-0-0 (sym c.in-Ok-Some.field-0-is ∙ c.in-Ok-Some.ensures.found l clean is);
  settled = c.in-Ok-Some.ensures.settled;
  kept = c.blob_size.ensures.kept;
  survives = c.blob_size.ensures.survives;
}

pub returns-in-Ok-None : goal.returns-in-Ok-None
returns-in-Ok-None g c = record {
  found = λ l sized bytes long clean is.
      subst (λ (n : ℕ). Foretells (world_in l (state g.S.Store c.args.conn.now)) c.args.repo.now (λ r. finished r c.args.number c.args.digest.now bytes) (change n c.args.size 1 0 0 0 1)) long
      (end_added (world_in l (state g.S.Store c.args.conn.now)) c.args.repo.now c.args.digest.now bytes c.args.number c.args.size
      (sized (was_clean (state g.S.Store c.args.conn.now) (state g.S.Store c.blob_size.new.conn) c.blob_size.ensures.survives clean)) (sym c.in-Ok-None.field-0-is ∙ c.in-Ok-None.ensures.found l clean is));
  settled = c.in-Ok-None.ensures.settled;
  kept = c.blob_size.ensures.kept;
  survives = c.blob_size.ensures.survives;
}

pub returns-in-Err : goal.returns-in-Err
returns-in-Err g c = record {
  found = λ l sized bytes long clean is. tt;
  settled = λ l clean is unspent. c.in-Err.ensures.settled l clean is unspent;
  kept = c.blob_size.ensures.kept;
  survives = c.blob_size.ensures.survives;
}
