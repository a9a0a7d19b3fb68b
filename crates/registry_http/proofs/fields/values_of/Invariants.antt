use Rattle.std.proofs.Common.{◌≡◌, ◌≤◌, take, map, length}
use Rattle.httparse.specs.Spans.{header_bytes}
use Rattle.registry_model.specs.Ask.{text_in}
use Rattle.registry_http.specs.Fields.{values, first}
use Rattle.registry_http.proofs.fields.values_of.Given as goal

-- the count and the first of the fields so far
abbrev pub invariant-loop-field : goal.invariant-loop-field
invariant-loop-field l = record {
  few : l.count ≤ l.field-index;
  count : l.count ≡ length (values l.name (map (header_bytes l.head) (take l.field-index l.fields)));
  first : text_in l.found ≡ first (values l.name (map (header_bytes l.head) (take l.field-index l.fields)));
}
