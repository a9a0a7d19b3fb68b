-- A content has a digest where it has the digits behind `sha256:`.
use Rattle.std.proofs.Common.{◌≡◌, ◌∙◌, Bool, true, false, Option, Some, None, refl, sym, ap, ◌++◌}
use Rattle.std.specs.Prelude.{drop, bytes_eq}
use Rattle.std.specs.Str.Pattern.{FindsTextPrefix, StripsPrefix, LacksTextAt}
use Rattle.std.proofs.lemmas.Slice.Eq.{bytes_eq-Decides}
use Rattle.sha2.specs.Sha256.{sha256}
use Rattle.hex.specs.Hex.{encode_lower}
use Rattle.oci_types.specs.Text.{Text}
use Rattle.oci_types.specs.Digest.{sha256_digest, sha256_prefix}
use Rattle.store_contents.specs.Contents.{sha256_text}
use Rattle.store_contents.specs.Hashed.{has_hash}
use Rattle.store_contents.proofs.ToldLemmas.{sha256_told}
use Rattle.store_statements.specs.ContentShown.{has_sha256_digest}

both_so : (a b : Bool) → (a ≡ true → b ≡ true) → (b ≡ true → a ≡ true) → a ≡ b
both_so true b f g = sym (f refl)
both_so false true f g = g refl
both_so false false f g = refl

made : (bytes : Text) → sha256_prefix ++ sha256_text bytes ≡ sha256_digest bytes
unfolding sha256_text
made bytes = refl

pub told : (digest digits : Text) (content : Option Text) → StripsPrefix (FindsTextPrefix sha256_prefix) digest digits → has_hash content digits ≡ has_sha256_digest content digest
told digest digits None strips = refl
told digest digits (Some bytes) (n, found, rest, whole) = both_so _ _
    (λ e. (bytes_eq-Decides digest (sha256_digest bytes)).1 (split ∙ ap (λ t. sha256_prefix ++ t) (sym ((bytes_eq-Decides (sha256_text bytes) digits).0 e)) ∙ made bytes))
    (λ e. (bytes_eq-Decides (sha256_text bytes) digits).1 (sym (behind ∙ sha256_told digest bytes ((bytes_eq-Decides digest (sha256_digest bytes)).0 e))))
  where
    behind : digits ≡ drop 7 digest
    behind = rest ∙ ap (λ k. drop k digest) found.0

    split : digest ≡ sha256_prefix ++ digits
    split = found.1 ∙ ap (λ t. sha256_prefix ++ t) (sym rest)

-- a digest of another algorithm is not one of sha256
pub other : (digest : Text) (content : Option Text) → LacksTextAt sha256_prefix digest 0 → false ≡ has_sha256_digest content digest
other digest None lacks = refl
other digest (Some bytes) lacks = go (bytes_eq digest (sha256_digest bytes)) refl
  where
    go : (b : Bool) → bytes_eq digest (sha256_digest bytes) ≡ b → false ≡ bytes_eq digest (sha256_digest bytes)
    go true e = absurd (lacks (encode_lower (sha256 bytes)) ((bytes_eq-Decides digest (sha256_digest bytes)).0 e))
    go false e = sym e
