use Rattle.std.proofs.Common.{◌∙◌, OnOk, subst, sym}
use Rattle.sqlite.specs.State.{HasCleanDisk}
use Rattle.sqlite.specs.Held.{state}
use Rattle.store_schema.proofs.Selects.{commit_then, survives_both}
use Rattle.store_places.specs.Source.{runs_in, text_in}
use Rattle.store_statements.specs.Changes.{blob_columns}
use Rattle.store_statements.specs.Steps.{BlobComes}
use Rattle.store_statements.specs.Held.{held}
use Rattle.store_statements.proofs.BlobLinks.{blob_fresh, blob_stored_if}
use Rattle.store_statements.proofs.CleanBefore.{was_clean}
use Rattle.store_statements.proofs.blob_storing.store_blob.Goals as goal

pub returns-in-Ok : goal.returns-in-Ok
returns-in-Ok g c =
    let old = state g.S.Store c.args.tx.now.conn.now in
    let mid = state g.S.Store c.keep_matching.new.tx.conn.now in
    let new = state g.S.Store c.add_blob_link.new.tx.conn.now in
    record {
      stored = λ l suits clean is fresh.
          let early : HasCleanDisk mid = was_clean c.add_blob_link.ensures.survives clean in
          let here = c.in-Ok.ensures.content l suits early is in
          blob_stored_if l old mid new c.in-Ok.content.id c.args.repo.now c.args.digest.now (text_in l c.args.source) (runs_in c.args.source) c.add_blob_link.result here.1
          (subst (λ size. OnOk c.add_blob_link.result (BlobComes l mid new (blob_columns c.args.repo.now c.args.digest.now size c.in-Ok.content.id))) (sym (c.len.ensures.text l suits)) (c.add_blob_link.ensures.added l clean here.0 (blob_fresh (held l old) (held l mid) c.in-Ok.content.id c.args.repo.now c.args.digest.now (text_in l c.args.source) here.1 fresh)));
      kept = λ l suits clean is.
          let early : HasCleanDisk mid = was_clean c.add_blob_link.ensures.survives clean in
          commit_then old mid new (c.keep_matching.ensures.kept l suits early is) (c.add_blob_link.ensures.kept l clean (c.in-Ok.ensures.content l suits early is).0);
      same_reference = c.add_blob_link.ensures.same_reference ∙ c.keep_matching.ensures.same_reference;
      survives = survives_both old mid new c.keep_matching.ensures.survives c.add_blob_link.ensures.survives;
    }

pub returns-in-Err : goal.returns-in-Err
returns-in-Err g c = record {
  stored = λ l suits clean is fresh. tt;
  kept = c.keep_matching.ensures.kept;
  same_reference = c.keep_matching.ensures.same_reference;
  survives = c.keep_matching.ensures.survives;
}
