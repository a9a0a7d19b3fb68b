-- A digest with a verified algorithm matches where its encoded part is the hexadecimal text of that hash.
use Rattle.std.proofs.Common.{◌⊎◌, inl, inr, ◌≡◌, Bool, true, false, cond, ◌||◌, ◌++◌, drop, take, sym, refl, ap, ◌∙◌, length, length-drop, ◌-◌, arith}
use Rattle.std.specs.Prelude.{bytes_eq}
use Rattle.std.specs.Prelude.{◌↔◌}
use Rattle.std.proofs.Math.Bool.{or-false}
use Rattle.std.proofs.lemmas.Bool.{or_cases}
use Rattle.std.proofs.lemmas.List.{take-append-drop, take_all}
use Rattle.std.proofs.lemmas.Slice.Eq.{bytes_eq-Decides}
use Rattle.sha2.specs.Sha256.{sha256}
use Rattle.sha2.specs.Sha512.{sha512}
use Rattle.hex.specs.Hex.{encode_lower}
use Rattle.oci_types.specs.Text.{Text}
use Rattle.oci_types.specs.Digest.{is_verified, sha256_digest, sha512_digest, is_sha256, is_sha512, sha256_prefix, sha512_prefix, matches, verdict_of}
use Rattle.oci_types.specs.declared.digest.Verdict.TheVariants.{Matches, Differs, Unsupported}

-- a text of that algorithm is the prefix and the rest
pub sha256_parts : (d : Text) → is_sha256 d ≡ true → d ≡ sha256_prefix ++ drop 7 d
sha256_parts d h = sym (take-append-drop 7 d) ∙ ap (λ p. p ++ drop 7 d) (sym ((bytes_eq-Decides sha256_prefix (take 7 d)).0 h))

pub sha512_parts : (d : Text) → is_sha512 d ≡ true → d ≡ sha512_prefix ++ drop 7 d
sha512_parts d h = sym (take-append-drop 7 d) ∙ ap (λ p. p ++ drop 7 d) (sym ((bytes_eq-Decides sha512_prefix (take 7 d)).0 h))

matches-sha256_encoded : (e b : Text) → matches (sha256_prefix ++ e) b ≡ bytes_eq e (encode_lower (sha256 b))
matches-sha256_encoded e b = or-false (bytes_eq e (encode_lower (sha256 b)))

matches-sha512_encoded : (e b : Text) → matches (sha512_prefix ++ e) b ≡ bytes_eq e (encode_lower (sha512 b))
matches-sha512_encoded e b = refl

pub matches-sha256 : (d b : Text) → is_sha256 d ≡ true → matches d b ≡ bytes_eq (drop 7 d) (encode_lower (sha256 b))
matches-sha256 d b h = ap (λ t. matches t b) (sha256_parts d h) ∙ matches-sha256_encoded (drop 7 d) b

pub matches-sha512 : (d b : Text) → is_sha512 d ≡ true → matches d b ≡ bytes_eq (drop 7 d) (encode_lower (sha512 b))
matches-sha512 d b h = ap (λ t. matches t b) (sha512_parts d h) ∙ matches-sha512_encoded (drop 7 d) b

-- ---- verdicts

pub verdict_of-sha256 : (d b : Text) → is_sha256 d ≡ true → verdict_of d b ≡ cond (bytes_eq (drop 7 d) (encode_lower (sha256 b))) Matches Differs
verdict_of-sha256 d b h =
    ap (λ v. cond (v || is_sha512 d) (cond (matches d b) Matches Differs) Unsupported) h
    ∙ ap (λ m. cond m Matches Differs) (matches-sha256 d b h)

pub verdict_of-sha512 : (d b : Text) → is_sha256 d ≡ false → is_sha512 d ≡ true → verdict_of d b ≡ cond (bytes_eq (drop 7 d) (encode_lower (sha512 b))) Matches Differs
verdict_of-sha512 d b n h =
    ap (λ v. cond (v || is_sha512 d) (cond (matches d b) Matches Differs) Unsupported) n
    ∙ ap (λ v. cond v (cond (matches d b) Matches Differs) Unsupported) h
    ∙ ap (λ m. cond m Matches Differs) (matches-sha512 d b h)

pub verdict_of-other : (d b : Text) → is_sha256 d ≡ false → is_sha512 d ≡ false → verdict_of d b ≡ Unsupported
verdict_of-other d b n h =
    ap (λ v. cond (v || is_sha512 d) (cond (matches d b) Matches Differs) Unsupported) n
    ∙ ap (λ v. cond v (cond (matches d b) Matches Differs) Unsupported) h

-- what the code finds in the text t of the digest d
pub verdict_by-sha256 : (d t b : Text) (s : Bool) → t ≡ d → is_sha256 t ≡ true → s ≡ bytes_eq (take (length t - 7) (drop 7 t)) (encode_lower (sha256 b))
    → cond s Matches Differs ≡ verdict_of d b
verdict_by-sha256 d t b s same is equal =
    ap (λ m. cond m Matches Differs) (equal ∙ ap (λ e. bytes_eq e (encode_lower (sha256 b))) (take_all _ (drop 7 t) (simp length-drop (omega arith))))
    ∙ sym (verdict_of-sha256 t b is) ∙ ap (λ x. verdict_of x b) same

pub verdict_by-sha512 : (d t b : Text) (s : Bool) → t ≡ d → is_sha256 t ≡ false → is_sha512 t ≡ true
    → s ≡ bytes_eq (take (length t - 7) (drop 7 t)) (encode_lower (sha512 b)) → cond s Matches Differs ≡ verdict_of d b
verdict_by-sha512 d t b s same other is equal =
    ap (λ m. cond m Matches Differs) (equal ∙ ap (λ e. bytes_eq e (encode_lower (sha512 b))) (take_all _ (drop 7 t) (simp length-drop (omega arith))))
    ∙ sym (verdict_of-sha512 t b other is) ∙ ap (λ x. verdict_of x b) same

-- ---- what a verdict tells

verdict_cases : (d b : Text) (verified is_match : Bool) → is_verified d ≡ verified → matches d b ≡ is_match
    → cond verified (cond is_match Matches Differs) Unsupported ≡ Matches → matches d b ≡ true
verdict_cases d b true true v m is = m
verdict_cases d b true false v m is = cc
verdict_cases d b false is_match v m is = cc

pub matches-from_verdict : (d b : Text) → verdict_of d b ≡ Matches → matches d b ≡ true
matches-from_verdict d b is = verdict_cases d b (is_verified d) (matches d b) refl refl is

-- bytes match just the two digests of them
pub matches-cases : (d b : Text) → matches d b ≡ true → (d ≡ sha256_digest b) ⊎ (d ≡ sha512_digest b)
matches-cases d b h =
    elim (or_cases (bytes_eq d (sha256_digest b)) (bytes_eq d (sha512_digest b)) h) [
      | inl first ↦ inl ((bytes_eq-Decides d (sha256_digest b)).0 first)
      | inr second ↦ inr ((bytes_eq-Decides d (sha512_digest b)).0 second)
    ]

bytes_eq-same : (t : Text) → bytes_eq t t ≡ true
bytes_eq-same t = (bytes_eq-Decides t t).1 refl

pub verdict_of-sha256_digest : (b : Text) → verdict_of (sha256_digest b) b ≡ Matches
verdict_of-sha256_digest b =
    verdict_of-sha256 (sha256_digest b) b refl
    ∙ ap (λ m. cond m Matches Differs) (bytes_eq-same (encode_lower (sha256 b)))

pub verdict_of-sha512_digest : (b : Text) → verdict_of (sha512_digest b) b ≡ Matches
verdict_of-sha512_digest b =
    verdict_of-sha512 (sha512_digest b) b refl refl
    ∙ ap (λ m. cond m Matches Differs) (bytes_eq-same (encode_lower (sha512 b)))

pub verdict_decides : (d b : Text) → (verdict_of d b ≡ Matches) ↔ ((d ≡ sha256_digest b) ⊎ (d ≡ sha512_digest b))
verdict_decides d b = (
  λ is. matches-cases d b (matches-from_verdict d b is),
  λ h. elim h [
    | inl first ↦ ap (λ t. verdict_of t b) first ∙ verdict_of-sha256_digest b
    | inr second ↦ ap (λ t. verdict_of t b) second ∙ verdict_of-sha512_digest b
  ],
)
