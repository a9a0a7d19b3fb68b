use Rattle.oci_documents.proofs.FoundOrRefused.{gives_by_rules, gives_no_document, gives_found, gives_only, gives_fault}
use Rattle.oci_documents.proofs.manifest.read_manifest.Goals as goal

pub returns-in_err-value-clause-only : goal.returns-in_err-value-clause-only
returns-in_err-value-clause-only c =
    let r = c.from_residual.result in
    gives_only r c.args.bytes.now (gives_no_document r c.args.bytes.now c.in_err-value.field-0.0 c.in_err-value.ensures c.from_residual.ensures.1)

pub returns-in_err-value-clause-first_fault : goal.returns-in_err-value-clause-first_fault
returns-in_err-value-clause-first_fault c =
    let r = c.from_residual.result in
    gives_fault r c.args.bytes.now (gives_no_document r c.args.bytes.now c.in_err-value.field-0.0 c.in_err-value.ensures c.from_residual.ensures.1)

pub returns-clause-found : goal.returns-clause-found
returns-clause-found c =
    let r = c.read_rules.result in
    gives_found r c.args.bytes.now (gives_by_rules r c.args.bytes.now _ c.in_ok-value.ensures c.read_rules.ensures)

pub returns-clause-only : goal.returns-clause-only
returns-clause-only c =
    let r = c.read_rules.result in
    gives_only r c.args.bytes.now (gives_by_rules r c.args.bytes.now _ c.in_ok-value.ensures c.read_rules.ensures)

pub returns-clause-first_fault : goal.returns-clause-first_fault
returns-clause-first_fault c =
    let r = c.read_rules.result in
    gives_fault r c.args.bytes.now (gives_by_rules r c.args.bytes.now _ c.in_ok-value.ensures c.read_rules.ensures)
