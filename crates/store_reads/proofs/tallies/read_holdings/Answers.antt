use Rattle.std.proofs.Common.{false, refl}
use Rattle.std.proofs.lemmas.Result.{IfOk-from_err}
use Rattle.sqlite.specs.State.{HasCleanDisk}
use Rattle.sqlite.specs.Held.{state}
use Rattle.store_contents.specs.Layouts.{Layout}
use Rattle.store_statements.specs.Held.{IsSettled, StaysSettled, held}
use Rattle.store_statements.proofs.Transactions.{survives_all}
use Rattle.store_reads.proofs.ReadSequences.{stays_behind, told_behind, passed_on}
use Rattle.store_reads.proofs.TallyLemmas.{tallied, held_together}
use Rattle.store_reads.proofs.tallies.read_holdings.Goals as goal

pub returns : goal.returns
returns g c =
    let old = state g.S.Store c.args.conn.now in
    let mid = state g.S.Store c.blob_sizes.new.conn in
    let late = state g.S.Store c.manifest_sizes.new.conn in
    let new = state g.S.Store c.upload_sizes.new.conn in
    let first : (l : Layout) → HasCleanDisk mid → IsSettled l old → StaysSettled l old mid = λ l early is. c.blob_sizes.ensures.settled l early is (c.in_ok-blobs.ensures.storage (refl {a = false})) in
    let both : (l : Layout) → HasCleanDisk late → IsSettled l old → StaysSettled l old late = λ l. stays_behind old mid late c.manifest_sizes.ensures.survives (first l) (λ clean is. c.manifest_sizes.ensures.settled l clean is (c.in_ok-manifests.ensures.storage (refl {a = false}))) in
    record {
      found = λ l clean is.
          told_behind old late new c.upload_sizes.ensures.survives (both l) (λ between stays.
          told_behind old mid late c.manifest_sizes.ensures.survives (first l) (λ early here.
          held_together l old mid late c.args.repo.now c.in_ok-blobs.blobs c.in_ok-manifests.manifests c.in_ok-sessions.sessions here.1 stays.1
          (tallied (held l old).blobs c.args.repo.now c.blob_sizes.result c.in_ok-blobs.blobs (rw c.as_str-repo.ensures.text at (c.blob_sizes.ensures.found l early is)) c.in_ok-blobs.ensures.value) (tallied (held l mid).manifests c.args.repo.now c.manifest_sizes.result c.in_ok-manifests.manifests (rw c.as_str-repo.ensures.text at (c.manifest_sizes.ensures.found l between here.0)) c.in_ok-manifests.ensures.value) (tallied (held l late).uploads c.args.repo.now c.upload_sizes.result c.in_ok-sessions.sessions (rw c.as_str-repo.ensures.text at (c.upload_sizes.ensures.found l clean stays.0)) c.in_ok-sessions.ensures.value)) between is) clean is;
      settled = λ l clean is unspent. stays_behind old late new c.upload_sizes.ensures.survives (both l) (λ clean is. c.upload_sizes.ensures.settled l clean is (c.in_ok-sessions.ensures.storage (refl {a = false}))) clean is;
      survives = survives_all old late new _ _ (survives_all old mid late _ _ c.blob_sizes.ensures.survives c.manifest_sizes.ensures.survives) c.upload_sizes.ensures.survives;
    }

pub returns-in_err-blobs : goal.returns-in_err-blobs
returns-in_err-blobs g c = record {
  found = λ l clean is. IfOk-from_err c.from_residual.result _ c.from_residual.ensures.0;
  settled = λ l clean is unspent. c.blob_sizes.ensures.settled l clean is (c.tallied.ensures.storage (passed_on c.from_residual.result c.tallied.result _ c.in_err-blobs.was c.from_residual.ensures.1 unspent));
  survives = c.blob_sizes.ensures.survives;
}

pub returns-in_err-manifests : goal.returns-in_err-manifests
returns-in_err-manifests g c =
    let old = state g.S.Store c.args.conn.now in
    let mid = state g.S.Store c.blob_sizes.new.conn in
    let late = state g.S.Store c.manifest_sizes.new.conn in
    record {
      found = λ l clean is. IfOk-from_err c.from_residual-in_err-manifests.result _ c.from_residual-in_err-manifests.ensures.0;
      settled = λ l clean is unspent.
          stays_behind old mid late c.manifest_sizes.ensures.survives (λ early is. c.blob_sizes.ensures.settled l early is (c.in_ok-blobs.ensures.storage (refl {a = false})))
          (λ clean is. c.manifest_sizes.ensures.settled l clean is (c.tallied-2.ensures.storage (passed_on c.from_residual-in_err-manifests.result c.tallied-2.result _ c.in_err-manifests.was c.from_residual-in_err-manifests.ensures.1 unspent))) clean is;
      survives = survives_all old mid late _ _ c.blob_sizes.ensures.survives c.manifest_sizes.ensures.survives;
    }

pub returns-in_err-sessions : goal.returns-in_err-sessions
returns-in_err-sessions g c =
    let old = state g.S.Store c.args.conn.now in
    let mid = state g.S.Store c.blob_sizes.new.conn in
    let late = state g.S.Store c.manifest_sizes.new.conn in
    let new = state g.S.Store c.upload_sizes.new.conn in
    record {
      found = λ l clean is. IfOk-from_err c.from_residual-in_err-sessions.result _ c.from_residual-in_err-sessions.ensures.0;
      settled = λ l clean is unspent.
          stays_behind old late new c.upload_sizes.ensures.survives
          (stays_behind old mid late c.manifest_sizes.ensures.survives (λ early is. c.blob_sizes.ensures.settled l early is (c.in_ok-blobs.ensures.storage (refl {a = false}))) (λ clean is. c.manifest_sizes.ensures.settled l clean is (c.in_ok-manifests.ensures.storage (refl {a = false}))))
          (λ clean is. c.upload_sizes.ensures.settled l clean is (c.tallied-3.ensures.storage (passed_on c.from_residual-in_err-sessions.result c.tallied-3.result _ c.in_err-sessions.was c.from_residual-in_err-sessions.ensures.1 unspent))) clean is;
      survives = survives_all old late new _ _ (survives_all old mid late _ _ c.blob_sizes.ensures.survives c.manifest_sizes.ensures.survives) c.upload_sizes.ensures.survives;
    }
