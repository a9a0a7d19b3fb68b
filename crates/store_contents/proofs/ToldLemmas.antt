-- The digits that a sha256 digest has behind its name.
use Rattle.std.proofs.Common.{◌≡◌, ℕ, List, refl, ap, ◌∙◌}
use Rattle.std.specs.Prelude.{drop}
use Rattle.oci_types.specs.Digest.{sha256_digest}
use Rattle.store_contents.specs.Contents.{sha256_text}

made : (bytes : List ℕ) → drop 7 (sha256_digest bytes) ≡ sha256_text bytes
unfolding sha256_text
made bytes = refl

pub sha256_told : (digest bytes : List ℕ) → digest ≡ sha256_digest bytes → drop 7 digest ≡ sha256_text bytes
sha256_told digest bytes e = ap (drop 7) e ∙ made bytes
