-- What decoded texts show.
use Rattle.std.specs.Prelude.{Option, Some, None, List, codes, option_map}
use Rattle.std.specs.declared.borrow.CowStr.{CowStr}
use Rattle.std.specs.declared.alloc.Global.{Global}
use Rattle.std.specs.Cow.{cow_str_bytes}
use Rattle.oci_types.specs.Text.{Text}
use Rattle.registry_model.specs.Ask.{Keys}
use Rattle.registry_http.specs.Asking.{value_among}
use Rattle.registry_http.specs.declared.query.Values.{Values}

abbrev pub cow_text : Option (CowStr Global) → Option Text
cow_text o = option_map cow_str_bytes o

abbrev pub keys_shown : Values → Keys
keys_shown v = record {
  digest = cow_text v.digest;
  mount = cow_text v.mount;
  «from» = cow_text v.«from»;
  n = cow_text v.n;
  last = cow_text v.last;
  artifact_type = cow_text v.artifact_type;
}

abbrev pub no_keys : Keys
no_keys = record { digest = None; mount = None; «from» = None; n = None; last = None; artifact_type = None }

-- the one, or where there is none the other
abbrev pub or_else : Option Text → Option Text → Option Text
or_else None other = other
or_else (Some one) other = Some one

-- these values, and of the keys that have none those among the pairs
abbrev pub keys_behind : Keys → List (Text × Text) → Keys
keys_behind keys pairs = record {
  digest = or_else keys.digest (value_among (codes "digest") pairs);
  mount = or_else keys.mount (value_among (codes "mount") pairs);
  «from» = or_else keys.«from» (value_among (codes "from") pairs);
  n = or_else keys.n (value_among (codes "n") pairs);
  last = or_else keys.last (value_among (codes "last") pairs);
  artifact_type = or_else keys.artifact_type (value_among (codes "artifactType") pairs);
}
