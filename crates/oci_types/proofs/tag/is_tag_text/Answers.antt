use Rattle.std.proofs.Common.{rules, ◌≡◌}
use Rattle.oci_types.specs.Tag.{is_tag}
use Rattle.oci_types.proofs.TagLaw.{is_tag_decides}
use Rattle.oci_types.proofs.tag.is_tag_text.Goals as goal

-- the answer is that of the test, which decides the grammar
pub returns-then-text-le-LONGEST_TAG-clause-grammar : goal.returns-then-text-le-LONGEST_TAG-clause-grammar
returns-then-text-le-LONGEST_TAG-clause-grammar c =
    let same : c.has_characters.result ≡ is_tag c.args.text.now = search rules in rw same (is_tag_decides c.args.text.now)
