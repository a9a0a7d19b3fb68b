use Rattle.std.proofs.Common.{sym, ap, ◌∙◌}
use Rattle.registry_http.specs.Decoding.{keys_shown, keys_behind}
use Rattle.registry_http.proofs.QueryLemmas.{keys_behind_all}
use Rattle.registry_http.proofs.query.Values.of.Goals as goal

pub loop-name-preserved : goal.loop-name-preserved
loop-name-preserved c =
    sym (c.in_ok-add.ensures _ _ c.in_ok-name.ensures.value.2) ∙ sym (ap (keys_behind (keys_shown c.loop-name.values)) c.in-Some.ensures.steps) ∙ c.loop-name.invariant
