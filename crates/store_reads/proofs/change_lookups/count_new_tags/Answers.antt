use Rattle.std.proofs.Common.{◌∙◌, ap, refl, rules, sym}
use Rattle.sqlite.specs.Held.{state}
use Rattle.registry_model.specs.Ask.{text_in}
use Rattle.store_statements.specs.Held.{world_in}
use Rattle.store_statements.proofs.Checks.{survives_here}
use Rattle.store_reads.specs.Usages.{new_tags}
use Rattle.store_reads.proofs.Foretold.{tag_there, tag_new}
use Rattle.store_statements.proofs.Crashes.{kept_stayed}
use Rattle.store_reads.proofs.change_lookups.count_new_tags.Goals as goal

pub returns-in_default : goal.returns-in_default
returns-in_default g c = record {
  found = λ l clean is. search rules;
  settled = λ l clean is unspent. (is, refl);
  kept = λ l clean is. kept_stayed g.S.Store g.met.S.Store.settled c.args.conn.now c.args.conn.now is (is, refl);
  survives = survives_here (state g.S.Store c.args.conn.now);
}

pub returns-in-Ok-Some : goal.returns-in-Ok-Some
returns-in-Ok-Some g c = record {
  found = λ l clean is.
      let w = world_in l (state g.S.Store c.args.conn.now) in
      tag_there w c.args.repo.now c.in-Some.tag.now c.in-Ok-Some.field-0-0 (sym c.in-Ok-Some.field-0-is ∙ c.in-Ok-Some.ensures.found l clean is) ∙ ap (λ t. new_tags w c.args.repo.now (text_in t)) (sym c.in-Some.is);
  settled = c.in-Ok-Some.ensures.settled;
  kept = c.tag.ensures.kept;
  survives = c.tag.ensures.survives;
}

pub returns-in-Ok-None : goal.returns-in-Ok-None
returns-in-Ok-None g c = record {
  found = λ l clean is.
      let w = world_in l (state g.S.Store c.args.conn.now) in
      tag_new w c.args.repo.now c.in-Some.tag.now (sym c.in-Ok-None.field-0-is ∙ c.in-Ok-None.ensures.found l clean is) ∙ ap (λ t. new_tags w c.args.repo.now (text_in t)) (sym c.in-Some.is);
  settled = c.in-Ok-None.ensures.settled;
  kept = c.tag.ensures.kept;
  survives = c.tag.ensures.survives;
}

pub returns : goal.returns
returns g c = record {
  found = λ l clean is. tt;
  settled = λ l clean is unspent. c.in-Err.ensures.settled l clean is unspent;
  kept = c.tag.ensures.kept;
  survives = c.tag.ensures.survives;
}
