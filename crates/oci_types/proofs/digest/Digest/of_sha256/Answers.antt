use Rattle.std.proofs.Common.{string_bytes}
use Rattle.oci_types.proofs.MadeDigests.{is_digest-sha256_made}
use Rattle.oci_types.proofs.digest.Digest.of_sha256.Goals as goal

-- the text that the format made is the digest's
pub invariant_of-result : goal.invariant_of-result
invariant_of-result c =
    is_digest-sha256_made (string_bytes c.in_ok-text.text) (string_bytes c.in_ok-encoded.encoded) c.digest.result c.args.bytes.now
    c.in_ok-text.ensures.ok c.in_ok-encoded.ensures c.digest.ensures
