-- Digests (OCI Image Specification 1.1, Descriptors, Digests).
use Rattle.std.specs.Prelude.{◌≡◌, ℕ, ◌++◌, Bool, true, false, ◌==◌, ◌||◌, ◌&&◌, length, drop, codes, bytes_eq, if◌then◌else◌, nat_eq, Result, MatchResult}
use Rattle.std.specs.List.{starts_with, fold, list_all}
use Rattle.sha2.specs.Sha256.{sha256}
use Rattle.sha2.specs.Sha512.{sha512}
use Rattle.hex.specs.Hex.{encode_lower}
use Rattle.oci_types.specs.Text.{Text}
use Rattle.oci_types.specs.Byte.{is_lowercase_or_digit, is_alphanumeric, is_lowercase_hex}
use Rattle.oci_types.specs.Language.{Language, IsIn, both, many, some, one, byte}
use Rattle.oci_types.specs.declared.fault.NameFault.{NameFault}
use Rattle.oci_types.specs.declared.fault.NameFault.TheVariants.{DigestGrammar, DigestLength, Memory}
use Rattle.oci_types.specs.declared.digest.Verdict.{Verdict}
use Rattle.oci_types.specs.declared.digest.Verdict.TheVariants.{Matches, Differs, Unsupported}
use Rattle.oci_types.specs.declared.digest.Place.{Place}
use Rattle.oci_types.specs.declared.digest.Place.TheVariants.{ComponentStart, Component, EncodedStart, Encoded, Outside}

-- `[+._-]`
abbrev pub is_algorithm_separator : ℕ → Bool
is_algorithm_separator b = b == 43 || b == 46 || b == 95 || b == 45

-- `[a-zA-Z0-9=_-]`
abbrev pub is_encoded : ℕ → Bool
is_encoded b = is_alphanumeric b || b == 61 || b == 95 || b == 45

-- `[a-z0-9]+`
abbrev pub algorithm_component : Language
algorithm_component = some (one is_lowercase_or_digit)

-- components with separators between them
abbrev pub algorithm : Language
algorithm = both algorithm_component (many (both (one is_algorithm_separator) algorithm_component))

-- algorithm ":" encoded
abbrev pub digest : Language
digest = both algorithm (both (byte 58) (some (one is_encoded)))

-- what begins the digests of the two registered algorithms
abbrev pub sha256_prefix : Text
sha256_prefix = codes "sha256:"

abbrev pub sha512_prefix : Text
sha512_prefix = codes "sha512:"

-- n characters of `[a-f0-9]`
abbrev pub IsHex : ℕ → Text → Type 0
IsHex n t = IsIn (many (one is_lowercase_hex)) t × (length t ≡ n)

-- a digest: the grammar has it, and where its algorithm is registered the encoded part has its form
pub record IsDigest (t : Text) : Type 0 where
  pub grammar : IsIn digest t
  pub sha256_form : (encoded : Text) → t ≡ sha256_prefix ++ encoded → IsHex 64 encoded
  pub sha512_form : (encoded : Text) → t ≡ sha512_prefix ++ encoded → IsHex 128 encoded

-- ---- the test

-- where one more byte leads
abbrev pub place_after : Place → ℕ → Place
place_after ComponentStart b = if is_lowercase_or_digit b then Component else Outside
place_after Component b =
    if is_lowercase_or_digit b then Component
    else if is_algorithm_separator b then ComponentStart
    else if b == 58 then EncodedStart
    else Outside
place_after EncodedStart b = if is_encoded b then Encoded else Outside
place_after Encoded b = if is_encoded b then Encoded else Outside
place_after Outside b = Outside

-- a digest may end there
abbrev pub is_end : Place → Bool
is_end Encoded = true
is_end _ = false

-- the grammar has the text
abbrev pub has_grammar : Text → Bool
has_grammar t = is_end (fold place_after ComponentStart t)

-- n characters of `[a-f0-9]`
abbrev pub is_hex : ℕ → Text → Bool
is_hex n t = length t == n && list_all is_lowercase_hex t

-- the digest's algorithm is sha256
abbrev pub is_sha256 : Text → Bool
is_sha256 d = starts_with nat_eq d sha256_prefix

-- the digest's algorithm is sha512
abbrev pub is_sha512 : Text → Bool
is_sha512 d = starts_with nat_eq d sha512_prefix

-- the encoded part has the form of its algorithm, where that is registered
abbrev pub has_registered_form : Text → Bool
has_registered_form t =
    if is_sha256 t then is_hex 64 (drop 7 t)
    else if is_sha512 t then is_hex 128 (drop 7 t)
    else true

abbrev pub is_digest : Text → Bool
is_digest t = has_grammar t && has_registered_form t

-- why reading the text gives the fault
abbrev pub IsDigestFault : Text → NameFault → Type 0
IsDigestFault t DigestGrammar = has_grammar t ≡ false
IsDigestFault t DigestLength = (has_grammar t ≡ true) × (has_registered_form t ≡ false)
IsDigestFault t Memory = is_digest t ≡ true
IsDigestFault t _ = ⊥

-- The text itself where it is a digest, or want of memory there; and else why it is none.
abbrev pub ReadsDigest : Result Text NameFault → Text → Type 0
ReadsDigest result t = MatchResult result (λ v. (v ≡ t) × (is_digest t ≡ true)) (IsDigestFault t)

-- why the text is no digest, or want of memory for one
abbrev pub IsRefusal : Text → NameFault → Type 0
IsRefusal t DigestGrammar = ¬ IsIn digest t
IsRefusal t DigestLength = IsIn digest t × ¬ IsDigest t
IsRefusal t Memory = IsDigest t
IsRefusal t _ = ⊥

-- It gives one where the text is a digest, and else why it is none.
abbrev pub ReadsByGrammar : {T : Type 0} → Result T NameFault → Text → Type 0
ReadsByGrammar result t = MatchResult result (λ _. IsDigest t) (IsRefusal t)

-- ---- digests of bytes

abbrev pub sha256_digest : Text → Text
sha256_digest b = sha256_prefix ++ encode_lower (sha256 b)

abbrev pub sha512_digest : Text → Text
sha512_digest b = sha512_prefix ++ encode_lower (sha512 b)

-- the digest's algorithm is one by which bytes can be verified
abbrev pub is_verified : Text → Bool
is_verified d = is_sha256 d || is_sha512 d

-- the digest is that of the bytes
abbrev pub matches : Text → Text → Bool
matches d b = bytes_eq d (sha256_digest b) || bytes_eq d (sha512_digest b)

abbrev pub verdict_of : Text → Text → Verdict
verdict_of d b = if is_verified d then (if matches d b then Matches else Differs) else Unsupported
