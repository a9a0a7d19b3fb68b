use Rattle.std.proofs.Common.{◌≡◌}
use Rattle.form_urlencoded.specs.Parse.{raw_pairs_left}
use Rattle.registry_http.specs.Asking.{keys_in}
use Rattle.registry_http.specs.Decoding.{keys_shown, keys_behind}
use Rattle.registry_http.proofs.query.Values.of.Given as goal

-- with the pairs that are left the values are those of all
abbrev pub invariant-loop-name : goal.invariant-loop-name
invariant-loop-name l = keys_behind (keys_shown l.values) (raw_pairs_left l.name-iterator) ≡ keys_in l.query
