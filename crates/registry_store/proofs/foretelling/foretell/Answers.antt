use Rattle.std.proofs.Common.{◌≡◌, ◌∙◌, true, false, not, is_some, refl, sym, ap}
use Rattle.sqlite.specs.Held.{state}
use Rattle.store_statements.specs.Held.{world_in}
use Rattle.store_statements.proofs.Checks.{survives_here}
use Rattle.store_statements.proofs.Crashes.{kept_stayed}
use Rattle.store_reads.specs.Usages.{Foretells}
use Rattle.store_reads.proofs.Foretold.{untold_settled, if_told, untold_fails}
use Rattle.registry_store.specs.Writes.{becomes}
use Rattle.registry_store.proofs.foretelling.foretell.Goals as goal

pub returns-then-is_none : goal.returns-then-is_none
returns-then-is_none g c = record {
  found = λ l clean is. tt;
  unasked = λ none. refl;
  settled = λ l clean is sound. (is, refl);
  kept = λ l clean is. kept_stayed g.S.Store g.met.S.Store.settled c.args.conn.now c.args.conn.now is (is, refl);
  survives = survives_here (state g.S.Store c.args.conn.now);
  failing = tt;
}

pub returns : goal.returns
returns g c = record {
  found = λ l clean is.
      let w = world_in l (state g.S.Store c.args.conn.now) in
      rw c.or_untold.ensures (if_told c.look_up.result (Foretells w c.args.repo.now (becomes c.args.write c.args.repo.now w)) (c.look_up.ensures.found l clean is));
  unasked = λ none.
      let bad : true ≡ false = sym (c.is_none.ensures ∙ ap not c.if-is_none.false) ∙ ap is_some (c.usage.ensures ∙ none) in
      absurd (cc);
  settled = λ l clean is sound. c.look_up.ensures.settled l clean is (untold_settled c.look_up.result (rw c.or_untold.ensures at sound));
  kept = c.look_up.ensures.kept;
  survives = c.look_up.ensures.survives;
  failing = rw c.or_untold.ensures (untold_fails c.look_up.result);
}
