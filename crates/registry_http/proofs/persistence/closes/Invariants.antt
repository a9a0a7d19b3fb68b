use Rattle.std.proofs.Common.{◌≡◌, false, take, map, codes}
use Rattle.std.specs.List.{list_any}
use Rattle.httparse.specs.Spans.{header_bytes}
use Rattle.registry_http.specs.Fields.{values, lists_close}
use Rattle.registry_http.proofs.persistence.closes.Given as goal

-- no field so far lists the word
abbrev pub invariant-loop-field : goal.invariant-loop-field
invariant-loop-field l =
    list_any lists_close (values (codes "connection") (map (header_bytes l.head) (take l.field-index l.fields))) ≡ false
