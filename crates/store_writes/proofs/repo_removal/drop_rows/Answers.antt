use Rattle.std.proofs.Common.{OnOk, subst, ◌∙◌}
use Rattle.std.proofs.lemmas.Result.{IfOk-from_err}
use Rattle.sqlite.specs.State.{HasCleanDisk}
use Rattle.sqlite.specs.Held.{state}
use Rattle.store_statements.specs.Keys.{of_first, of_second}
use Rattle.store_statements.specs.Tables.{Tables}
use Rattle.store_contents.specs.Layouts.{Layout, InTables}
use Rattle.store_statements.specs.Held.{Becomes, held}
use Rattle.store_statements.specs.Steps.{tags_without, manifests_without, blobs_without, pieces_without, uploads_without, grants_without, repos_without}
use Rattle.store_statements.proofs.ChildLemmas.{childless_now}
use Rattle.store_statements.proofs.CleanBefore.{was_clean}
use Rattle.store_writes.proofs.StatementSequences.{SoFar, one_more, stopped}
use Rattle.store_writes.proofs.repo_removal.drop_rows.Goals as goal

pub returns : goal.returns
returns g c =
    let old = c.args.tx.now.conn.now in
    let s1 = c.take_tags.new.tx.conn.now in
    let f1 = tags_without (of_first c.args.name.now) in
    let so1 : (l : Layout) → SoFar g.S.Store l old s1 f1 = λ l. record { became = c.in_ok-take_tags.ensures.taken l; kept = c.take_tags.ensures.kept l; survives = c.take_tags.ensures.survives } in
    let s2 = c.take_manifest_links.new.tx.conn.now in
    let f2 = λ (t : Tables). manifests_without (of_first c.args.name.now) (f1 t) in
    let so2 : (l : Layout) → SoFar g.S.Store l old s2 f2 = λ l. one_more g.S.Store old s1 s2 f1 (so1 l) (c.take_manifest_links.ensures.kept l) c.take_manifest_links.ensures.survives (manifests_without (of_first c.args.name.now)) (c.in_ok-take_manifest_links.ensures.taken l) in
    let s3 = c.take_blob_links.new.tx.conn.now in
    let f3 = λ (t : Tables). blobs_without (of_first c.args.name.now) (f2 t) in
    let so3 : (l : Layout) → SoFar g.S.Store l old s3 f3 = λ l. one_more g.S.Store old s2 s3 f2 (so2 l) (c.take_blob_links.ensures.kept l) c.take_blob_links.ensures.survives (blobs_without (of_first c.args.name.now)) (c.in_ok-take_blob_links.ensures.taken l) in
    let s4 = c.take_pieces.new.tx.conn.now in
    let f4 = λ (t : Tables). pieces_without (of_first c.args.name.now) (f3 t) in
    let so4 : (l : Layout) → SoFar g.S.Store l old s4 f4 = λ l. one_more g.S.Store old s3 s4 f3 (so3 l) (c.take_pieces.ensures.kept l) c.take_pieces.ensures.survives (pieces_without (of_first c.args.name.now)) (c.in_ok-take_pieces.ensures.taken l) in
    let s5 = c.take_uploads.new.tx.conn.now in
    let f5 = λ (t : Tables). uploads_without (of_first c.args.name.now) (f4 t) in
    let so5 : (l : Layout) → SoFar g.S.Store l old s5 f5 = λ l. one_more g.S.Store old s4 s5 f4 (so4 l) (c.take_uploads.ensures.kept l) c.take_uploads.ensures.survives (uploads_without (of_first c.args.name.now)) (c.in_ok-take_uploads.ensures.taken l) in
    let s6 = c.take_grants.new.tx.conn.now in
    let f6 = λ (t : Tables). grants_without (of_second c.args.name.now) (f5 t) in
    let so6 : (l : Layout) → SoFar g.S.Store l old s6 f6 = λ l. one_more g.S.Store old s5 s6 f5 (so5 l) (c.take_grants.ensures.kept l) c.take_grants.ensures.survives (grants_without (of_second c.args.name.now)) (c.in_ok-take_grants.ensures.taken l) in
    let new = c.take_repo.new.tx.conn.now in
    let it = λ (l : Layout). stopped g.S.Store old s6 new f6 (so6 l) (c.take_repo.ensures.kept l) c.take_repo.ensures.survives in
    record {
      dropped = λ l clean is none.
          let early : HasCleanDisk (state g.S.Store s6) = was_clean c.take_repo.ensures.survives clean in
          let became = (so6 l).became early is in
          subst (λ x. OnOk c.take_repo.result (Becomes l (state g.S.Store new) (repos_without (of_first c.args.name.now) x))) became.1 (c.take_repo.ensures.taken l clean became.0 (childless_now c.args.name.now (held l (state g.S.Store old)) (held l (state g.S.Store s6)) none became.1));
      kept = λ l. (it l).0;
      same_reference = c.take_repo.ensures.same_reference ∙ c.take_grants.ensures.same_reference ∙ c.take_uploads.ensures.same_reference ∙ c.take_pieces.ensures.same_reference ∙ c.take_blob_links.ensures.same_reference ∙ c.take_manifest_links.ensures.same_reference ∙ c.take_tags.ensures.same_reference;
      survives = (it InTables).1;
    }

pub returns-in_err-take_tags : goal.returns-in_err-take_tags
returns-in_err-take_tags g c = record {
  dropped = λ l clean is none. IfOk-from_err c.from_residual.result _ c.from_residual.ensures.0;
  kept = c.take_tags.ensures.kept;
  same_reference = c.take_tags.ensures.same_reference;
  survives = c.take_tags.ensures.survives;
}

pub returns-in_err-take_manifest_links : goal.returns-in_err-take_manifest_links
returns-in_err-take_manifest_links g c =
    let old = c.args.tx.now.conn.now in
    let s1 = c.take_tags.new.tx.conn.now in
    let f1 = tags_without (of_first c.args.name.now) in
    let so1 : (l : Layout) → SoFar g.S.Store l old s1 f1 = λ l. record { became = c.in_ok-take_tags.ensures.taken l; kept = c.take_tags.ensures.kept l; survives = c.take_tags.ensures.survives } in
    let it = λ (l : Layout). stopped g.S.Store old s1 c.take_manifest_links.new.tx.conn.now f1 (so1 l) (c.take_manifest_links.ensures.kept l) c.take_manifest_links.ensures.survives in
    record {
      dropped = λ l clean is none. IfOk-from_err c.from_residual-in_err-take_manifest_links.result _ c.from_residual-in_err-take_manifest_links.ensures.0;
      kept = λ l. (it l).0;
      same_reference = c.take_manifest_links.ensures.same_reference ∙ c.take_tags.ensures.same_reference;
      survives = (it InTables).1;
    }

pub returns-in_err-take_blob_links : goal.returns-in_err-take_blob_links
returns-in_err-take_blob_links g c =
    let old = c.args.tx.now.conn.now in
    let s1 = c.take_tags.new.tx.conn.now in
    let f1 = tags_without (of_first c.args.name.now) in
    let so1 : (l : Layout) → SoFar g.S.Store l old s1 f1 = λ l. record { became = c.in_ok-take_tags.ensures.taken l; kept = c.take_tags.ensures.kept l; survives = c.take_tags.ensures.survives } in
    let s2 = c.take_manifest_links.new.tx.conn.now in
    let f2 = λ (t : Tables). manifests_without (of_first c.args.name.now) (f1 t) in
    let so2 : (l : Layout) → SoFar g.S.Store l old s2 f2 = λ l. one_more g.S.Store old s1 s2 f1 (so1 l) (c.take_manifest_links.ensures.kept l) c.take_manifest_links.ensures.survives (manifests_without (of_first c.args.name.now)) (c.in_ok-take_manifest_links.ensures.taken l) in
    let it = λ (l : Layout). stopped g.S.Store old s2 c.take_blob_links.new.tx.conn.now f2 (so2 l) (c.take_blob_links.ensures.kept l) c.take_blob_links.ensures.survives in
    record {
      dropped = λ l clean is none. IfOk-from_err c.from_residual-in_err-take_blob_links.result _ c.from_residual-in_err-take_blob_links.ensures.0;
      kept = λ l. (it l).0;
      same_reference = c.take_blob_links.ensures.same_reference ∙ c.take_manifest_links.ensures.same_reference ∙ c.take_tags.ensures.same_reference;
      survives = (it InTables).1;
    }

pub returns-in_err-take_pieces : goal.returns-in_err-take_pieces
returns-in_err-take_pieces g c =
    let old = c.args.tx.now.conn.now in
    let s1 = c.take_tags.new.tx.conn.now in
    let f1 = tags_without (of_first c.args.name.now) in
    let so1 : (l : Layout) → SoFar g.S.Store l old s1 f1 = λ l. record { became = c.in_ok-take_tags.ensures.taken l; kept = c.take_tags.ensures.kept l; survives = c.take_tags.ensures.survives } in
    let s2 = c.take_manifest_links.new.tx.conn.now in
    let f2 = λ (t : Tables). manifests_without (of_first c.args.name.now) (f1 t) in
    let so2 : (l : Layout) → SoFar g.S.Store l old s2 f2 = λ l. one_more g.S.Store old s1 s2 f1 (so1 l) (c.take_manifest_links.ensures.kept l) c.take_manifest_links.ensures.survives (manifests_without (of_first c.args.name.now)) (c.in_ok-take_manifest_links.ensures.taken l) in
    let s3 = c.take_blob_links.new.tx.conn.now in
    let f3 = λ (t : Tables). blobs_without (of_first c.args.name.now) (f2 t) in
    let so3 : (l : Layout) → SoFar g.S.Store l old s3 f3 = λ l. one_more g.S.Store old s2 s3 f2 (so2 l) (c.take_blob_links.ensures.kept l) c.take_blob_links.ensures.survives (blobs_without (of_first c.args.name.now)) (c.in_ok-take_blob_links.ensures.taken l) in
    let it = λ (l : Layout). stopped g.S.Store old s3 c.take_pieces.new.tx.conn.now f3 (so3 l) (c.take_pieces.ensures.kept l) c.take_pieces.ensures.survives in
    record {
      dropped = λ l clean is none. IfOk-from_err c.from_residual-in_err-take_pieces.result _ c.from_residual-in_err-take_pieces.ensures.0;
      kept = λ l. (it l).0;
      same_reference = c.take_pieces.ensures.same_reference ∙ c.take_blob_links.ensures.same_reference ∙ c.take_manifest_links.ensures.same_reference ∙ c.take_tags.ensures.same_reference;
      survives = (it InTables).1;
    }

pub returns-in_err-take_uploads : goal.returns-in_err-take_uploads
returns-in_err-take_uploads g c =
    let old = c.args.tx.now.conn.now in
    let s1 = c.take_tags.new.tx.conn.now in
    let f1 = tags_without (of_first c.args.name.now) in
    let so1 : (l : Layout) → SoFar g.S.Store l old s1 f1 = λ l. record { became = c.in_ok-take_tags.ensures.taken l; kept = c.take_tags.ensures.kept l; survives = c.take_tags.ensures.survives } in
    let s2 = c.take_manifest_links.new.tx.conn.now in
    let f2 = λ (t : Tables). manifests_without (of_first c.args.name.now) (f1 t) in
    let so2 : (l : Layout) → SoFar g.S.Store l old s2 f2 = λ l. one_more g.S.Store old s1 s2 f1 (so1 l) (c.take_manifest_links.ensures.kept l) c.take_manifest_links.ensures.survives (manifests_without (of_first c.args.name.now)) (c.in_ok-take_manifest_links.ensures.taken l) in
    let s3 = c.take_blob_links.new.tx.conn.now in
    let f3 = λ (t : Tables). blobs_without (of_first c.args.name.now) (f2 t) in
    let so3 : (l : Layout) → SoFar g.S.Store l old s3 f3 = λ l. one_more g.S.Store old s2 s3 f2 (so2 l) (c.take_blob_links.ensures.kept l) c.take_blob_links.ensures.survives (blobs_without (of_first c.args.name.now)) (c.in_ok-take_blob_links.ensures.taken l) in
    let s4 = c.take_pieces.new.tx.conn.now in
    let f4 = λ (t : Tables). pieces_without (of_first c.args.name.now) (f3 t) in
    let so4 : (l : Layout) → SoFar g.S.Store l old s4 f4 = λ l. one_more g.S.Store old s3 s4 f3 (so3 l) (c.take_pieces.ensures.kept l) c.take_pieces.ensures.survives (pieces_without (of_first c.args.name.now)) (c.in_ok-take_pieces.ensures.taken l) in
    let it = λ (l : Layout). stopped g.S.Store old s4 c.take_uploads.new.tx.conn.now f4 (so4 l) (c.take_uploads.ensures.kept l) c.take_uploads.ensures.survives in
    record {
      dropped = λ l clean is none. IfOk-from_err c.from_residual-in_err-take_uploads.result _ c.from_residual-in_err-take_uploads.ensures.0;
      kept = λ l. (it l).0;
      same_reference = c.take_uploads.ensures.same_reference ∙ c.take_pieces.ensures.same_reference ∙ c.take_blob_links.ensures.same_reference ∙ c.take_manifest_links.ensures.same_reference ∙ c.take_tags.ensures.same_reference;
      survives = (it InTables).1;
    }

pub returns-in_err-take_grants : goal.returns-in_err-take_grants
returns-in_err-take_grants g c =
    let old = c.args.tx.now.conn.now in
    let s1 = c.take_tags.new.tx.conn.now in
    let f1 = tags_without (of_first c.args.name.now) in
    let so1 : (l : Layout) → SoFar g.S.Store l old s1 f1 = λ l. record { became = c.in_ok-take_tags.ensures.taken l; kept = c.take_tags.ensures.kept l; survives = c.take_tags.ensures.survives } in
    let s2 = c.take_manifest_links.new.tx.conn.now in
    let f2 = λ (t : Tables). manifests_without (of_first c.args.name.now) (f1 t) in
    let so2 : (l : Layout) → SoFar g.S.Store l old s2 f2 = λ l. one_more g.S.Store old s1 s2 f1 (so1 l) (c.take_manifest_links.ensures.kept l) c.take_manifest_links.ensures.survives (manifests_without (of_first c.args.name.now)) (c.in_ok-take_manifest_links.ensures.taken l) in
    let s3 = c.take_blob_links.new.tx.conn.now in
    let f3 = λ (t : Tables). blobs_without (of_first c.args.name.now) (f2 t) in
    let so3 : (l : Layout) → SoFar g.S.Store l old s3 f3 = λ l. one_more g.S.Store old s2 s3 f2 (so2 l) (c.take_blob_links.ensures.kept l) c.take_blob_links.ensures.survives (blobs_without (of_first c.args.name.now)) (c.in_ok-take_blob_links.ensures.taken l) in
    let s4 = c.take_pieces.new.tx.conn.now in
    let f4 = λ (t : Tables). pieces_without (of_first c.args.name.now) (f3 t) in
    let so4 : (l : Layout) → SoFar g.S.Store l old s4 f4 = λ l. one_more g.S.Store old s3 s4 f3 (so3 l) (c.take_pieces.ensures.kept l) c.take_pieces.ensures.survives (pieces_without (of_first c.args.name.now)) (c.in_ok-take_pieces.ensures.taken l) in
    let s5 = c.take_uploads.new.tx.conn.now in
    let f5 = λ (t : Tables). uploads_without (of_first c.args.name.now) (f4 t) in
    let so5 : (l : Layout) → SoFar g.S.Store l old s5 f5 = λ l. one_more g.S.Store old s4 s5 f4 (so4 l) (c.take_uploads.ensures.kept l) c.take_uploads.ensures.survives (uploads_without (of_first c.args.name.now)) (c.in_ok-take_uploads.ensures.taken l) in
    let it = λ (l : Layout). stopped g.S.Store old s5 c.take_grants.new.tx.conn.now f5 (so5 l) (c.take_grants.ensures.kept l) c.take_grants.ensures.survives in
    record {
      dropped = λ l clean is none. IfOk-from_err c.from_residual-in_err-take_grants.result _ c.from_residual-in_err-take_grants.ensures.0;
      kept = λ l. (it l).0;
      same_reference = c.take_grants.ensures.same_reference ∙ c.take_uploads.ensures.same_reference ∙ c.take_pieces.ensures.same_reference ∙ c.take_blob_links.ensures.same_reference ∙ c.take_manifest_links.ensures.same_reference ∙ c.take_tags.ensures.same_reference;
      survives = (it InTables).1;
    }
