-- What is known of a content without its bytes.
use Rattle.std.specs.Prelude.{Bool, false, bytes_eq, Option}
use Rattle.std.specs.Option.{option_map_or}
use Rattle.oci_types.specs.Text.{Text}
use Rattle.oci_types.specs.Digest.{sha256_digest}

-- there is such a content, and the digest is that of its bytes by sha256
abbrev pub has_sha256_digest : Option Text → Text → Bool
has_sha256_digest content digest =
    option_map_or (λ bytes. bytes_eq digest (sha256_digest bytes)) content false
