use Rattle.std.proofs.Common.{◌∙◌, sym}
use Rattle.oci_types.specs.Digest.{is_verified}
use Rattle.operation_parts.proofs.DigestLemmas.{digest_absent, undigested, unverifiable, verifiable, unsupported, supported}
use Rattle.operation_parts.proofs.digests.verifiable_digest.Goals as goal

pub returns-in_default : goal.returns-in_default
returns-in_default c =
    undigested c.args.text.now (digest_absent c.in_ok-digest.field-0 c.args.text.now c.in_default.not-Some c.in_ok-digest.ensures)

pub returns-in-Unsupported : goal.returns-in-Unsupported
returns-in-Unsupported c =
    unverifiable c.in_ok-digest.field-0 c.in-Some.digest c.args.text.now c.in-Some.is c.in_ok-digest.ensures
    (unsupported (is_verified c.in-Some.digest) _ (sym c.in-Unsupported.ensures))

pub returns-in_default-verifies : goal.returns-in_default-verifies
returns-in_default-verifies c =
    verifiable c.in_ok-digest.field-0 c.in-Some.digest c.args.text.now c.in-Some.is c.in_ok-digest.ensures
    (supported (is_verified c.in-Some.digest) _ (λ h. c.in_default-verifies.not-Unsupported (c.verifies.ensures ∙ h)))
