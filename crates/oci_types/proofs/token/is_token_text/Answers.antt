use Rattle.std.proofs.Common.{rules, ◌≡◌}
use Rattle.oci_types.specs.Token.{is_token}
use Rattle.oci_types.proofs.TokenLaw.{is_token_decides}
use Rattle.oci_types.proofs.token.is_token_text.Goals as goal

-- the answer is that of the test, which decides the grammar
pub returns-then-text-le-LONGEST_TOKEN-clause-grammar : goal.returns-then-text-le-LONGEST_TOKEN-clause-grammar
returns-then-text-le-LONGEST_TOKEN-clause-grammar c =
    let same : c.has_b64token.result ≡ is_token c.args.text.now = search rules in rw same (is_token_decides c.args.text.now)
