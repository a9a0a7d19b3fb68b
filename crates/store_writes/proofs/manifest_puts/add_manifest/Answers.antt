use Rattle.sqlite.specs.State.{HasCleanDisk}
use Rattle.sqlite.specs.Held.{state}
use Rattle.oci_types.specs.Manifest.{shown}
use Rattle.registry_model.specs.Ask.{text_in}
use Rattle.store_places.specs.Source as source
use Rattle.store_statements.specs.Steps.{ManifestComes}
use Rattle.store_statements.specs.Changes.{manifest_columns}
use Rattle.store_schema.proofs.Selects.{commit_then, survives_both}
use Rattle.store_writes.proofs.ManifestPuts.{then_ok, fresh_manifest, manifest_came}
use Rattle.store_statements.proofs.CleanBefore.{was_clean}
use Rattle.std.proofs.Common.{◌∙◌, subst, sym, OnOk}
use Rattle.std.proofs.lemmas.Result.{IfOk-from_err}
use Rattle.store_writes.proofs.manifest_puts.add_manifest.Goals as goal

pub returns-in_err-content : goal.returns-in_err-content
returns-in_err-content g c = record {
  made = λ l suits reads clean is there fresh. IfOk-from_err c.from_residual.result _ c.from_residual.ensures.0;
  kept = λ l suits clean is. c.keep_matching.ensures.kept l suits clean is.ready;
  same_reference = c.keep_matching.ensures.same_reference;
  survives = c.keep_matching.ensures.survives;
}

pub returns : goal.returns
returns g c = record {
  made = λ l suits reads clean is there fresh.
      let old = state g.S.Store c.args.tx.now.conn.now in
      let mid = state g.S.Store c.keep_matching.new.tx.conn.now in
      let early : HasCleanDisk mid = was_clean c.add_manifest_link.ensures.survives clean in
      let found = c.in_ok-content.ensures.content l suits early is.ready in
      then_ok c.add_manifest_link.result
      (manifest_came old mid (state g.S.Store c.add_manifest_link.new.tx.conn.now) c.in_ok-content.content.id c.args.repo.now c.args.digest.now (source.text_in l c.args.source) (source.runs_in c.args.source) is there fresh found.1
      (shown c.args.manifest.now) reads (text_in c.subject_of.result) c.subject_of.ensures)
      (subst (λ size. OnOk c.add_manifest_link.result (ManifestComes l mid (state g.S.Store c.add_manifest_link.new.tx.conn.now) (manifest_columns c.args.repo.now c.args.digest.now size (shown c.args.manifest.now).kind (text_in c.subject_of.result) c.in_ok-content.content.id))) (sym (c.len-size.ensures.text l suits))
      (c.add_manifest_link.ensures.added l clean found.0 (fresh_manifest l old mid c.in_ok-content.content.id c.args.repo.now c.args.digest.now (source.text_in l c.args.source) found.1 fresh)));
  kept = λ l suits clean is.
      let old = state g.S.Store c.args.tx.now.conn.now in
      let mid = state g.S.Store c.keep_matching.new.tx.conn.now in
      let early : HasCleanDisk mid = was_clean c.add_manifest_link.ensures.survives clean in
      commit_then old mid (state g.S.Store c.add_manifest_link.new.tx.conn.now)
      (c.keep_matching.ensures.kept l suits early is.ready) (c.add_manifest_link.ensures.kept l clean (c.in_ok-content.ensures.content l suits early is.ready).0);
  same_reference = c.add_manifest_link.ensures.same_reference ∙ c.keep_matching.ensures.same_reference;
  survives = survives_both (state g.S.Store c.args.tx.now.conn.now) (state g.S.Store c.keep_matching.new.tx.conn.now) (state g.S.Store c.add_manifest_link.new.tx.conn.now) c.keep_matching.ensures.survives c.add_manifest_link.ensures.survives;
}
