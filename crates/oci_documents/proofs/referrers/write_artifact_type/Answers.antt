use Rattle.std.proofs.Common.{◌≡◌}
use Rattle.oci_documents.proofs.Pieces.{takes_both}
use Rattle.oci_documents.proofs.referrers.write_artifact_type.Goals as goal

pub returns : goal.returns
returns g c =
    rw (c.in-Some.is, ← c.as_str.ensures.value)
    (takes_both g.S.Sink.took c.take-2.result c.args.out.now _ c.take-2.new.self _ _ c.in_ok-take.ensures
    (takes_both g.S.Sink.took c.take-2.result _ _ c.take-2.new.self _ _ c.in_ok-write_quoted.ensures c.take-2.ensures))
