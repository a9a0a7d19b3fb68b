use Rattle.std.proofs.Common.{◌≡◌, ◌++◌, length}
use Rattle.json.specs.Print.{escape}
use Rattle.oci_types.specs.Text.{Text}
use Rattle.oci_documents.proofs.Pieces.{Took}
use Rattle.oci_documents.proofs.quoting.write_escaped.Given as goal

-- what stands before the rest was taken with its escapes
abbrev pub invariant-loop-at : goal.invariant-loop-at
invariant-loop-at g l = record {
  done : Text;
  parts : l.text ≡ done ++ l.rest;
  taken : Took g.S.Sink.took l.fn.out l.out (escape done);
}

abbrev pub decreases-loop-at : goal.decreases-loop-at
decreases-loop-at g l = length l.rest
