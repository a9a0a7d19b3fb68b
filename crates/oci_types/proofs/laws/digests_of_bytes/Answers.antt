use Rattle.oci_types.proofs.MadeDigests.{is_digest-sha256_digest, is_digest-sha512_digest}
use Rattle.oci_types.proofs.laws.digests_of_bytes.Goals as goal

pub returns-clause-sha256 : goal.returns-clause-sha256
returns-clause-sha256 c = is_digest-sha256_digest

pub returns-clause-sha512 : goal.returns-clause-sha512
returns-clause-sha512 c = is_digest-sha512_digest
