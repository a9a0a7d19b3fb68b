use Rattle.std.proofs.Common.{◌≡◌, ◌++◌, List, map}
use Rattle.oci_types.specs.Json.{with_commas}
use Rattle.oci_types.specs.Member.{pairs_of}
use Rattle.oci_types.specs.Referrers.{pair_line}
use Rattle.oci_documents.specs.Referrers.{has_none}
use Rattle.oci_documents.proofs.Pieces.{Took}
use Rattle.oci_documents.proofs.Texts.{TextEntry}
use Rattle.oci_documents.proofs.referrers.write_pairs.Given as goal

-- some texts have been written
abbrev pub invariant-loop-key : goal.invariant-loop-key
invariant-loop-key g l = record {
  done : List TextEntry;
  parts : l.texts.entries ≡ done ++ l.key-iterator;
  is_first : l.is_first ≡ has_none done;
  taken : Took g.S.Sink.took l.fn.out l.out (with_commas (map pair_line (pairs_of done)));
}
