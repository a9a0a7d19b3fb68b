use Rattle.std.proofs.Common.{codes, subst}
use Rattle.oci_documents.specs.Sink.{Takes}
use Rattle.oci_documents.proofs.Commas.{some_line}
use Rattle.oci_documents.proofs.Pieces.{takes_both}
use Rattle.oci_documents.proofs.referrers.write_annotations.Goals as goal

pub returns : goal.returns
returns g c =
    let took = g.S.Sink.took in
    let r = c.take-2.result in
    let new = c.take-2.new.self in
    subst (Takes took r c.args.out.now new) (some_line c.args.annotations.now.entries c.if-is_empty.ensures.1)
    (takes_both took r c.args.out.now c.take.new.self new (codes "\"annotations\":{") _ c.in_ok-take.ensures
    (takes_both took r c.take.new.self c.write_pairs.new.out new _ _ c.in_ok-write_pairs.ensures c.take-2.ensures))
