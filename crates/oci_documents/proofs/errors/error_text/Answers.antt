use Rattle.oci_types.specs.Errors.{error_data, error_line}
use Rattle.oci_documents.proofs.Replies.{line_is, error_is}
use Rattle.oci_documents.proofs.errors.error_text.Goals as goal

pub returns-clause-text : goal.returns-clause-text
returns-clause-text c =
    let code = c.args.code.now in
    let message = c.args.message.now in
    line_is c.error_value.result c.written.result (error_data code message) (error_line code message) c.error_value.ensures (error_is code message) c.written.ensures.text
