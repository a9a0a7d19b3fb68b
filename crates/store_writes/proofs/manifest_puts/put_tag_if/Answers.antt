use Rattle.std.proofs.Common.{◌≢◌, ◌∙◌, length, refl, sym}
use Rattle.std.proofs.lemmas.Result.{IfOk-from_err}
use Rattle.std.specs.Prelude.{filter}
use Rattle.sqlite.specs.State.{HasCleanDisk}
use Rattle.sqlite.specs.Held.{state}
use Rattle.store_schema.proofs.Selects.{commit_then, survives_both}
use Rattle.store_statements.specs.Keys.{has_key}
use Rattle.store_statements.specs.Held.{held}
use Rattle.store_statements.proofs.CleanBefore.{was_clean}
use Rattle.store_writes.proofs.RowCounts.{none_counted, some_counted}
use Rattle.store_writes.proofs.ManifestPuts.{then_ok, tag_was_set, fresh_tag, tag_came, no_tag}
use Rattle.store_writes.proofs.StatementSequences.{keeps_still, survives_still}
use Rattle.store_writes.proofs.manifest_puts.put_tag_if.Goals as goal

pub returns-then-count-eq0 : goal.returns-then-count-eq0
returns-then-count-eq0 g c =
    let old = state g.S.Store c.args.tx.now.conn.now in
    let mid = state g.S.Store c.set_tag.new.tx.conn.now in
    let new = state g.S.Store c.add_tag.new.tx.conn.now in
    let early : HasCleanDisk new → HasCleanDisk mid = was_clean c.add_tag.ensures.survives in
    record {
      made = λ l clean is there.
          let none = none_counted (has_key c.args.repo.now c.as_str-tag.result.now) (held l old).tags (sym (c.in_ok-count-in-Some.ensures.counted l (early clean) is.ready) ∙ c.if-count-eq0.true) in
          let became = c.in_ok-count-in-Some.ensures.set l (early clean) is.ready in
          rw c.in-Some.is (rw c.as_str-tag.ensures.text at (then_ok c.add_tag.result (tag_came old mid new c.args.repo.now c.as_str-tag.result.now c.args.digest.now is there none became) (c.add_tag.ensures.added l clean became.0 (fresh_tag old mid c.args.repo.now c.as_str-tag.result.now c.args.digest.now none became))));
      kept = λ l clean is. commit_then old mid new (c.set_tag.ensures.kept l (early clean) is.ready) (c.add_tag.ensures.kept l clean (c.in_ok-count-in-Some.ensures.set l (early clean) is.ready).0);
      same_reference = c.add_tag.ensures.same_reference ∙ c.set_tag.ensures.same_reference;
      survives = survives_both old mid new c.set_tag.ensures.survives c.add_tag.ensures.survives;
    }

pub returns-else-count-eq0 : goal.returns-else-count-eq0
returns-else-count-eq0 g c =
    let old = state g.S.Store c.args.tx.now.conn.now in
    let mid = state g.S.Store c.set_tag.new.tx.conn.now in
    record {
      made = λ l clean is there.
          let some : length (filter (has_key c.args.repo.now c.as_str-tag.result.now) (held l old).tags) ≢ 0 = λ e. c.if-count-eq0.false (c.in_ok-count-in-Some.ensures.counted l clean is.ready ∙ e) in
          rw c.in-Some.is (rw c.as_str-tag.ensures.text at (tag_was_set old mid c.args.repo.now c.as_str-tag.result.now c.args.digest.now is (some_counted (has_key c.args.repo.now c.as_str-tag.result.now) _ some) (c.in_ok-count-in-Some.ensures.set l clean is.ready)));
      kept = λ l clean is. c.set_tag.ensures.kept l clean is.ready;
      same_reference = c.set_tag.ensures.same_reference;
      survives = c.set_tag.ensures.survives;
    }

pub returns-in_err-count-in-Some : goal.returns-in_err-count-in-Some
returns-in_err-count-in-Some g c = record {
  made = λ l clean is there. IfOk-from_err c.from_residual.result _ c.from_residual.ensures.0;
  kept = λ l clean is. c.set_tag.ensures.kept l clean is.ready;
  same_reference = c.set_tag.ensures.same_reference;
  survives = c.set_tag.ensures.survives;
}

pub returns-in-None : goal.returns-in-None
returns-in-None g c = record {
  made = λ l clean is there. rw c.in-None.is (no_tag (state g.S.Store c.args.tx.now.conn.now) c.args.repo.now c.args.digest.now is);
  kept = λ l clean is. keeps_still (state g.S.Store c.args.tx.now.conn.now);
  same_reference = refl;
  survives = survives_still (state g.S.Store c.args.tx.now.conn.now);
}
