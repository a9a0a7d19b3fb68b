use Rattle.std.proofs.Common.{◌≡◌, ◌∙◌, codes, subst}
use Rattle.json.specs.Print.{quoted}
use Rattle.oci_documents.proofs.Pieces.{Took, takes_both}
use Rattle.oci_documents.proofs.referrers.write_fixed.Goals as goal

pub returns : goal.returns
returns g c =
    let took = g.S.Sink.took in
    let r = c.take-5.result in
    let new = c.take-5.new.self in
    takes_both took r c.args.out.now c.take.new.self new (codes "\"digest\":") _ c.in_ok-take.ensures
    (takes_both took r c.take.new.self c.write_quoted.new.out new _ _ (subst (λ t. Took took c.take.new.self c.write_quoted.new.out (quoted t)) c.as_str.ensures.text c.in_ok-write_quoted.ensures)
    (takes_both took r c.write_quoted.new.out c.take-2.new.self new (codes ",\"mediaType\":") _ c.in_ok-take-2.ensures
    (takes_both took r c.take-2.new.self c.write_quoted-2.new.out new _ _ (subst (λ t. Took took c.take-2.new.self c.write_quoted-2.new.out (quoted t)) c.media_type.ensures c.in_ok-write_quoted-2.ensures)
    (takes_both took r c.write_quoted-2.new.out c.take-3.new.self new (codes ",\"size\":") _ c.in_ok-take-3.ensures
    (takes_both took r c.take-3.new.self c.take-4.new.self new _ _ (subst (Took took c.take-3.new.self c.take-4.new.self) (c.as_bytes.ensures.value ∙ c.format.ensures.text) c.in_ok-take-4.ensures)
    c.take-5.ensures)))))
