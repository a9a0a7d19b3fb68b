use Rattle.std.proofs.Common.{slice_index}
use Rattle.oci_types.specs.Byte.{is_between}
use Rattle.std.proofs.Common.{ap, sym, ◌∙◌, slice_index}
use Rattle.oci_types.specs.Byte.{is_between}
use Rattle.oci_types.proofs.SessionNumbers.{session_number_of-read, session_number_of-unread}
use Rattle.oci_types.proofs.session.session_number.Goals as goal

-- src/session.rt:17:1
pub returns-in-Ok : goal.returns-in-Ok
returns-in-Ok c =
    session_number_of-read c.args.text.now c.parse.result c.in-Ok.number
    (ap (λ t. is_between 49 57 (slice_index t 0)) (sym c.as_bytes.ensures.value) ∙ sym c.begins_with_nonzero_digit.ensures ∙ c.if-not-begins_with_nonzero_digit.false)
    c.parse.ensures.value.0 c.in-Ok.is c.if-number-le-LARGEST_SESSION_NUMBER.true

-- src/session.rt:17:1
pub returns-in_default-2 : goal.returns-in_default-2
returns-in_default-2 c =
    session_number_of-unread c.args.text.now c.parse.result c.in_default.field-0
    (ap (λ t. is_between 49 57 (slice_index t 0)) (sym c.as_bytes.ensures.value) ∙ sym c.begins_with_nonzero_digit.ensures ∙ c.if-not-begins_with_nonzero_digit.false)
    c.parse.ensures.value.0 c.in_default.is
