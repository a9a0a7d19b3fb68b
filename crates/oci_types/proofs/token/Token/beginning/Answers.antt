use Rattle.std.proofs.Common.{◌≤◌, length, arith}
use Rattle.std.proofs.lemmas.Grind.{common_steps}
use Rattle.std.proofs.lemmas.List.{take_min}
use Rattle.oci_types.proofs.PlainTokens.{cut_anywhere}
use Rattle.oci_types.proofs.token.Token.beginning.Goals as goal

pub range-requires-clause-end_boundary : goal.range-requires-clause-end_boundary
range-requires-clause-end_boundary c =
    let short : c.min.result ≤ length c.as_str-text.result.now = omega arith in
    cut_anywhere _ c.min.result c.as_str-text.ensures.valid short

pub returns : goal.returns
returns c = grind (arith, common_steps, take_min)
