use Rattle.std.proofs.Common.{◌∙◌, sym, ap, subst}
use Rattle.oci_documents.specs.Sink.{Takes}
use Rattle.oci_documents.proofs.Escapes.{by_letter, by_digits}
use Rattle.oci_documents.proofs.quoting.write_escape.Goals as goal

pub returns-in-Some : goal.returns-in-Some
returns-in-Some g c =
    subst (Takes g.S.Sink.took c.take.result c.args.out.now c.take.new.self)
    (by_letter c.args.byte c.in-Some.letter (sym c.in-Some.is ∙ c.short_escape.ensures)) c.take.ensures

pub returns-in-None : goal.returns-in-None
returns-in-None g c =
    subst (Takes g.S.Sink.took c.take-in-None.result c.args.out.now c.take-in-None.new.self)
    (by_digits c.args.byte c.hex_digit-first.result c.hex_digit-second.result (sym c.in-None.is ∙ c.short_escape.ensures) c.requires c.hex_digit-first.ensures c.hex_digit-second.ensures) c.take-in-None.ensures
