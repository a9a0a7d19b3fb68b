use Rattle.oci_types.proofs.DigestLaw.{refused_by_grammar, refused_by_form, taken_by_both}
use Rattle.oci_types.proofs.digest.check.Goals as goal

pub returns-then-not-fits_grammar-clause-grammar : goal.returns-then-not-fits_grammar-clause-grammar
returns-then-not-fits_grammar-clause-grammar c =
    refused_by_grammar c.args.text.now c.fits_grammar.result c.fits_grammar.ensures c.if-not-fits_grammar.true

pub returns-then-not-fits_algorithm-clause-grammar : goal.returns-then-not-fits_algorithm-clause-grammar
returns-then-not-fits_algorithm-clause-grammar c =
    refused_by_form c.args.text.now c.as_bytes.result.now c.fits_grammar.result c.fits_algorithm.result
    c.fits_grammar.ensures c.if-not-fits_grammar.false c.as_bytes.ensures.value c.fits_algorithm.ensures c.if-not-fits_algorithm.true

pub returns-clause-grammar : goal.returns-clause-grammar
returns-clause-grammar c =
    taken_by_both c.args.text.now c.as_bytes.result.now c.fits_grammar.result c.fits_algorithm.result
    c.fits_grammar.ensures c.if-not-fits_grammar.false c.as_bytes.ensures.value c.fits_algorithm.ensures c.if-not-fits_algorithm.false
