use Rattle.std.proofs.Common.{◌≡◌, ◌∙◌, true, ap}
use Rattle.sqlite.specs.State.{HasCleanDisk}
use Rattle.sqlite.specs.Held.{state}
use Rattle.registry_model.specs.Ask.{text_in}
use Rattle.store_places.specs.Source as source
use Rattle.store_schema.proofs.Selects.{commit_then, survives_both}
use Rattle.store_statements.specs.Registry.{is_repo}
use Rattle.store_statements.specs.Held.{held}
use Rattle.store_writes.proofs.ManifestPuts.{then_ok, tagged_put}
use Rattle.store_statements.proofs.CleanBefore.{was_clean}
use Rattle.std.proofs.lemmas.Result.{IfOk-from_err}
use Rattle.store_writes.proofs.manifest_puts.add_tagged.Goals as goal

pub returns-in_err-add_manifest : goal.returns-in_err-add_manifest
returns-in_err-add_manifest g c = record {
  made = λ l suits reads clean is there fresh. IfOk-from_err c.from_residual.result _ c.from_residual.ensures.0;
  kept = λ l suits reads clean is there fresh. c.add_manifest.ensures.kept l suits clean is;
  same_reference = c.add_manifest.ensures.same_reference;
  survives = c.add_manifest.ensures.survives;
}

pub add_manifest-requires : goal.add_manifest-requires
add_manifest-requires g c = record { right = c.requires.right; fits = c.requires.fits; matching = c.requires.matching }

pub returns : goal.returns
returns g c = record {
  made = λ l suits reads clean is there fresh.
      let mid : HasCleanDisk (state g.S.Store c.add_manifest.new.tx.conn.now) = was_clean c.put_tag_if.ensures.survives clean in
      let first = c.in_ok-add_manifest.ensures.made l suits reads mid is there fresh in
      let still : is_repo (held l (state g.S.Store c.add_manifest.new.tx.conn.now)).repos c.args.repo.now ≡ true = ap (λ rows. is_repo rows c.args.repo.now) first.repos ∙ there in
      then_ok c.put_tag_if.result (tagged_put (state g.S.Store c.args.tx.now.conn.now) (state g.S.Store c.add_manifest.new.tx.conn.now) (state g.S.Store c.put_tag_if.new.tx.conn.now) c.args.repo.now c.args.digest.now (source.text_in l c.args.source) (source.runs_in c.args.source) (text_in c.args.tag) first)
      (c.put_tag_if.ensures.made l clean first.whole still);
  kept = λ l suits reads clean is there fresh.
      let mid : HasCleanDisk (state g.S.Store c.add_manifest.new.tx.conn.now) = was_clean c.put_tag_if.ensures.survives clean in
      commit_then (state g.S.Store c.args.tx.now.conn.now) (state g.S.Store c.add_manifest.new.tx.conn.now) (state g.S.Store c.put_tag_if.new.tx.conn.now) (c.add_manifest.ensures.kept l suits mid is) (c.put_tag_if.ensures.kept l clean (c.in_ok-add_manifest.ensures.made l suits reads mid is there fresh).whole);
  same_reference = c.put_tag_if.ensures.same_reference ∙ c.add_manifest.ensures.same_reference;
  survives = survives_both (state g.S.Store c.args.tx.now.conn.now) (state g.S.Store c.add_manifest.new.tx.conn.now) (state g.S.Store c.put_tag_if.new.tx.conn.now) c.add_manifest.ensures.survives c.put_tag_if.ensures.survives;
}
