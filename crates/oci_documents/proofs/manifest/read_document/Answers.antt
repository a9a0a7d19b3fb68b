use Rattle.std.proofs.Common.{true≢false, refl, sym}
use Rattle.oci_types.proofs.Documents.{document_read, document_refused}
use Rattle.oci_documents.proofs.manifest.read_document.Goals as goal

pub returns-in-Ok : goal.returns-in-Ok
returns-in-Ok c = document_read c.args.bytes.now _ c.in-Ok.ensures.ok

pub returns-else-is_memory : goal.returns-else-is_memory
returns-else-is_memory c = λ other. (refl, document_refused c.args.bytes.now (c.in-Err.ensures.err (λ m. true≢false (sym (c.if-is_memory.ensures.1 m)))))
