-- The digests that the hash functions make are digests.
use Rattle.std.proofs.Common.{◌≡◌, ℕ, zero, suc, cond, ◌<◌, ◌≤◌, ◌*◌, ◌/◌, ◌%◌, ◌^◌, Bool, true, List, [], ◌∷◌, ◌++◌, ◌||◌, ◌==◌, nat_lt, nat_le, length, slice_index, refl, ap, ◌∙◌, arith, inl, inr}
use Rattle.std.specs.List.{list_all, fold}
use Rattle.std.specs.Int.{to_be_bytes, bytes_high_first, byte_at, w32, w64}
use Rattle.std.proofs.lemmas.Bool.{and_parts, and_from, or_cases, or_left, or_right, lt-ltb, ltb-true, leb-true, le-leb, eq-eqb, eqb-true, agree_below_at}
use Rattle.std.proofs.lemmas.List.Folds.{list_all-append}
use Rattle.sha2.specs.Sha256.{sha256, digest_bytes, final_hash, initial_hash_256}
use Rattle.sha2.specs.Sha512.{sha512, digest_bytes as digest_bytes_512, final_hash as final_hash_512, initial_hash_512}
use Rattle.sha2.proofs.Facts256.{length-sha256}
use Rattle.sha2.proofs.Facts512.{length-sha512}
use Rattle.hex.specs.Hex.{encode_lower, encode_with, lower_digits}
use Rattle.hex.proofs.HexLemmas.{length-encode_with}
use Rattle.oci_types.specs.Text.{Text}
use Rattle.oci_types.specs.Byte.{is_between, is_lowercase_hex, is_digit, is_lowercase, is_uppercase, is_alphanumeric}
use Rattle.oci_types.specs.Digest.{is_digest, is_hex, is_encoded, has_grammar, has_registered_form, is_end, place_after, sha256_digest, sha512_digest, sha256_prefix, sha512_prefix}
use Rattle.oci_types.specs.declared.digest.Place.TheVariants.{EncodedStart, Encoded, Outside}

-- ---- hashes are bytes

abbrev is_byte : ℕ → Bool
is_byte b = nat_lt b 256

remainder_is_byte : (n : ℕ) → is_byte (n % 256) ≡ true
remainder_is_byte n = lt-ltb (n % 256) 256 (omega arith)

both_bytes : (xs ys : List ℕ) → list_all is_byte xs ≡ true → list_all is_byte ys ≡ true → list_all is_byte (xs ++ ys) ≡ true
both_bytes xs ys h k = list_all-append is_byte xs ys ∙ and_from (list_all is_byte xs) (list_all is_byte ys) h k

byte_at-is_byte : (k n : ℕ) → is_byte (byte_at k n) ≡ true
byte_at-is_byte zero n = remainder_is_byte n
byte_at-is_byte (suc k) n = remainder_is_byte (n / 256 ^ suc k)

word-is_bytes : (k n : ℕ) → list_all is_byte (bytes_high_first k n) ≡ true
word-is_bytes zero n = refl
word-is_bytes (suc k) n = and_from (is_byte (byte_at k n)) (list_all is_byte (bytes_high_first k n)) (byte_at-is_byte k n) (word-is_bytes k n)

digest_bytes-are_bytes : (h : List ℕ) (n : ℕ) → list_all is_byte (digest_bytes h n) ≡ true
unfolding digest_bytes
digest_bytes-are_bytes h zero = refl
digest_bytes-are_bytes h (suc n) =
    both_bytes (digest_bytes h n) (to_be_bytes w32 (slice_index h n)) (digest_bytes-are_bytes h n) (word-is_bytes 4 (slice_index h n))

digest_bytes_512-are_bytes : (h : List ℕ) (n : ℕ) → list_all is_byte (digest_bytes_512 h n) ≡ true
unfolding digest_bytes_512
digest_bytes_512-are_bytes h zero = refl
digest_bytes_512-are_bytes h (suc n) =
    both_bytes (digest_bytes_512 h n) (to_be_bytes w64 (slice_index h n)) (digest_bytes_512-are_bytes h n) (word-is_bytes 8 (slice_index h n))

sha256-is_bytes : (b : Text) → list_all is_byte (sha256 b) ≡ true
unfolding sha256
sha256-is_bytes b = digest_bytes-are_bytes (final_hash initial_hash_256 b) 8

sha512-is_bytes : (b : Text) → list_all is_byte (sha512 b) ≡ true
unfolding sha512
sha512-is_bytes b = digest_bytes_512-are_bytes (final_hash_512 initial_hash_512 b) 8

-- ---- their hexadecimal text

digit_is_hex : (d : ℕ) → d < 16 → is_lowercase_hex (slice_index lower_digits d) ≡ true
digit_is_hex d small = agree_below_at (λ d. is_lowercase_hex (slice_index lower_digits d)) (λ _. true) 16 d refl small

encoding_is_hex : (bs : List ℕ) → list_all is_byte bs ≡ true → list_all is_lowercase_hex (encode_lower bs) ≡ true
unfolding encode_with
encoding_is_hex [] h = refl
encoding_is_hex (b ∷ bs) h =
    let parts = and_parts (is_byte b) (list_all is_byte bs) h in
    let small : b < 256 = ltb-true b 256 parts.0 in
    let high : b / 16 < 16 = omega arith in
    let low : b % 16 < 16 = omega arith in
    and_from (is_lowercase_hex (slice_index lower_digits (b / 16))) _ (digit_is_hex (b / 16) high)
    (and_from (is_lowercase_hex (slice_index lower_digits (b % 16))) (list_all is_lowercase_hex (encode_lower bs)) (digit_is_hex (b % 16) low) (encoding_is_hex bs parts.1))

encoding_fits : (n : ℕ) (bs : List ℕ) → length bs ≡ n → list_all is_byte bs ≡ true → is_hex (2 * n) (encode_lower bs) ≡ true
encoding_fits n bs size h =
    and_from (length (encode_lower bs) == 2 * n) (list_all is_lowercase_hex (encode_lower bs))
    (eq-eqb (length (encode_lower bs)) (2 * n) (length-encode_with lower_digits bs ∙ ap (λ k. 2 * k) size)) (encoding_is_hex bs h)

-- ---- fits the grammar

hex_is_encoded : (b : ℕ) → is_lowercase_hex b ≡ true → is_encoded b ≡ true
hex_is_encoded b h =
    or_left (is_alphanumeric b || b == 61 || b == 95) (b == 45)
    (or_left (is_alphanumeric b || b == 61) (b == 95) (or_left (is_alphanumeric b) (b == 61)
    (elim (or_cases (is_between 97 102 b) (is_digit b) h) [
      | inl letter ↦
          let parts = and_parts (nat_le 97 b) (nat_le b 102) letter in
          let below : b ≤ 102 = leb-true b 102 parts.1 in
          or_left (is_lowercase b || is_uppercase b) (is_digit b)
          (or_left (is_lowercase b) (is_uppercase b) (and_from (nat_le 97 b) (nat_le b 122) parts.0 (le-leb b 122 (omega arith))))
      | inr digit ↦ or_right (is_lowercase b || is_uppercase b) (is_digit b) digit
    ])))

hex_stays : (e : Text) → list_all is_lowercase_hex e ≡ true → fold place_after Encoded e ≡ Encoded
hex_stays [] h = refl
hex_stays (b ∷ e) h =
    let parts = and_parts (is_lowercase_hex b) (list_all is_lowercase_hex e) h in
    ap (λ x. fold place_after (cond x Encoded Outside) e) (hex_is_encoded b parts.0) ∙ hex_stays e parts.1

hex_begins : (e : Text) → 0 < length e → list_all is_lowercase_hex e ≡ true → fold place_after EncodedStart e ≡ Encoded
hex_begins [] some h = absurd (omega arith)
hex_begins (b ∷ e) some h =
    let parts = and_parts (is_lowercase_hex b) (list_all is_lowercase_hex e) h in
    ap (λ x. fold place_after (cond x Encoded Outside) e) (hex_is_encoded b parts.0) ∙ hex_stays e parts.1

sha256_text : (e : Text) → is_hex 64 e ≡ true → is_digest (sha256_prefix ++ e) ≡ true
sha256_text e h =
    let parts = and_parts (length e == 64) (list_all is_lowercase_hex e) h in
    let size : length e ≡ 64 = eqb-true (length e) 64 parts.0 in
    and_from (has_grammar (sha256_prefix ++ e)) (has_registered_form (sha256_prefix ++ e)) (ap is_end (hex_begins e (omega arith) parts.1)) h

sha512_text : (e : Text) → is_hex 128 e ≡ true → is_digest (sha512_prefix ++ e) ≡ true
sha512_text e h =
    let parts = and_parts (length e == 128) (list_all is_lowercase_hex e) h in
    let size : length e ≡ 128 = eqb-true (length e) 128 parts.0 in
    and_from (has_grammar (sha512_prefix ++ e)) (has_registered_form (sha512_prefix ++ e)) (ap is_end (hex_begins e (omega arith) parts.1)) h

pub is_digest-sha256_digest : (b : Text) → is_digest (sha256_digest b) ≡ true
is_digest-sha256_digest b = sha256_text (encode_lower (sha256 b)) (encoding_fits 32 (sha256 b) (length-sha256 b) (sha256-is_bytes b))

pub is_digest-sha512_digest : (b : Text) → is_digest (sha512_digest b) ≡ true
is_digest-sha512_digest b = sha512_text (encode_lower (sha512 b)) (encoding_fits 64 (sha512 b) (length-sha512 b) (sha512-is_bytes b))

-- what the code puts together
pub is_digest-sha256_made : (t e h b : Text) → t ≡ sha256_prefix ++ e → e ≡ encode_lower h → h ≡ sha256 b → is_digest t ≡ true
is_digest-sha256_made t e h b whole encoded hash =
    ap is_digest (whole ∙ ap (λ x. sha256_prefix ++ x) (encoded ∙ ap encode_lower hash)) ∙ is_digest-sha256_digest b

pub is_digest-sha512_made : (t e h b : Text) → t ≡ sha512_prefix ++ e → e ≡ encode_lower h → h ≡ sha512 b → is_digest t ≡ true
is_digest-sha512_made t e h b whole encoded hash =
    ap is_digest (whole ∙ ap (λ x. sha512_prefix ++ x) (encoded ∙ ap encode_lower hash)) ∙ is_digest-sha512_digest b
