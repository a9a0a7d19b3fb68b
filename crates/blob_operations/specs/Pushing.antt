-- The push of a whole blob, by what comparing its bytes with the digest found.
use Rattle.std.specs.Prelude.{Bool, Option, None, Some, if◌then◌else◌}
use Rattle.oci_types.specs.declared.digest.Verdict.{Verdict}
use Rattle.oci_types.specs.declared.digest.Verdict.TheVariants.{Matches, Differs, Unsupported}
use Rattle.registry_model.specs.declared.refusal.Refusal.{Refusal}
use Rattle.registry_model.specs.declared.refusal.Refusal.TheVariants.{InvalidDigest, DigestMismatch, ContentTooLarge}

-- why the bytes are not pushed, if they are not
abbrev pub push_refusal : Verdict → Bool → Option Refusal
push_refusal Unsupported too_large = Some InvalidDigest
push_refusal Differs too_large = if too_large then Some ContentTooLarge else Some DigestMismatch
push_refusal Matches too_large = if too_large then Some ContentTooLarge else None
