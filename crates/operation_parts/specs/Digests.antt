-- The digest that a text is, if it is one.
use Rattle.std.specs.Prelude.{Option, None, Some, if◌then◌else◌}
use Rattle.oci_types.specs.Text.{Text}
use Rattle.oci_types.specs.Digest.{is_digest}
use Rattle.registry_model.specs.Blobs.{can_verify}

abbrev pub digest_in : Text → Option Text
digest_in t = if is_digest t then Some t else None

-- one that bytes can be verified against
abbrev pub verifiable_in : Text → Option Text
verifiable_in t = if can_verify t then Some t else None
