-- References (OCI Distribution Specification 1.1, Definitions): a tag or a digest.
use Rattle.std.specs.Prelude.{◌≡◌, Bool, true, false, ◌||◌, ◌⊎◌, Result, MatchResult}
use Rattle.oci_types.specs.Text.{Text}
use Rattle.oci_types.specs.Tag.{IsTag, is_tag}
use Rattle.oci_types.specs.Digest.{IsDigest, is_digest}
use Rattle.oci_types.specs.declared.fault.NameFault.{NameFault}
use Rattle.oci_types.specs.declared.fault.NameFault.TheVariants.{Memory, Reference as NoReference}
use Rattle.oci_types.specs.declared.reference.Reference.{Reference}
use Rattle.oci_types.specs.declared.reference.Reference.TheVariants.{Tag, Digest}

abbrev pub IsReference : Text → Type 0
IsReference t = IsTag t ⊎ IsDigest t

abbrev pub is_reference : Text → Bool
is_reference t = is_tag t || is_digest t

-- the reference is what the text says
abbrev pub IsSaidBy : Text → Reference → Type 0
IsSaidBy t (Tag v) = (v ≡ t) × (is_tag t ≡ true)
IsSaidBy t (Digest v) = (v ≡ t) × (is_digest t ≡ true)

-- The reference that the text says, or want of memory where it says one; and else the fault.
abbrev pub ReadsReference : Result Reference NameFault → Text → Type 0
ReadsReference result t = MatchResult result (IsSaidBy t)
    (λ e. ((e ≡ Memory) × (is_reference t ≡ true)) ⊎ ((e ≡ NoReference) × (is_reference t ≡ false)))
