-- What reading a digest tells of the text.
use Rattle.std.proofs.Common.{◌≡◌, ◌∙◌, Bool, true, false, cond, ◌&&◌, None, Some, Ok, refl, sym, ap}
use Rattle.std.specs.Prelude.{Option, Result, MatchResult}
use Rattle.oci_types.specs.Text.{Text}
use Rattle.oci_types.specs.Digest.{is_digest, is_verified}
use Rattle.oci_types.specs.declared.fault.Fault.{Fault}
use Rattle.oci_types.specs.declared.fault.Fault.TheVariants.{Memory}
use Rattle.oci_types.specs.declared.digest.Verdict.TheVariants.{Matches, Differs, Unsupported}
use Rattle.registry_model.specs.Blobs.{can_verify}
use Rattle.operation_parts.specs.Digests.{digest_in, verifiable_in}
use Rattle.operation_parts.proofs.ReadLemmas.{text_read}

pub some_by : (d text : Text) (b : Bool) → Some d ≡ cond b (Some text) None → (b ≡ true) × (d ≡ text)
some_by d text true e = (refl, let h : d ≡ text = cc in h)
some_by d text false e = absurd (cc)

pub none_by : (text : Text) (b : Bool) → None ≡ cond b (Some text) None → b ≡ false
none_by text true e = absurd (cc)
none_by text false e = refl

pub not_found : (o : Option Text) → ((t : Text) → o ≡ Some t → ⊥) → None ≡ o
not_found None h = refl
not_found (Some t) h = absurd (h t refl)

-- the text is no digest
pub digest_absent : (o : Option Text) (text : Text) → ((d : Text) → o ≡ Some d → ⊥) → o ≡ digest_in text → is_digest text ≡ false
digest_absent o text none e = none_by text (is_digest text) (not_found o none ∙ e)

-- the digest that was found is the text, which is one
pub digest_found : (o : Option Text) (d text : Text) → o ≡ Some d → o ≡ digest_in text → (d ≡ text) × (is_digest text ≡ true)
digest_found o d text is e =
    let h = some_by d text (is_digest text) (sym is ∙ e) in (h.1, h.0)

both_true : (a b : Bool) → (a && b) ≡ true → b ≡ true
both_true true b e = e
both_true false b e = absurd (cc)

-- a digest that was read can be verified
pub is_verifiable : (d text : Text) → Some d ≡ verifiable_in text → is_verified d ≡ true
is_verifiable d text e =
    let h = some_by d text (can_verify text) e in
    ap is_verified h.1 ∙ both_true (is_digest text) (is_verified text) h.0

-- ---- what cannot be verified

pub unsupported : (v m : Bool) → cond v (cond m Matches Differs) Unsupported ≡ Unsupported → v ≡ false
unsupported true true e = absurd (cc)
unsupported true false e = absurd (cc)
unsupported false m e = refl

pub supported : (v m : Bool) → (cond v (cond m Matches Differs) Unsupported ≡ Unsupported → ⊥) → v ≡ true
supported true m h = refl
supported false m h = absurd (h refl)

pub and_false : (b : Bool) → (b && false) ≡ false
and_false true = refl
and_false false = refl

-- a text that is no digest
pub undigested : (text : Text) → is_digest text ≡ false → None ≡ verifiable_in text
undigested text invalid = sym (ap (λ b. cond (b && is_verified text) (Some text) None) invalid)

-- one that can be
pub verifiable : (o : Option Text) (d text : Text) → o ≡ Some d → o ≡ digest_in text → is_verified d ≡ true → Some d ≡ verifiable_in text
verifiable o d text is e v =
    let found = digest_found o d text is e in
    let can : (is_digest text && is_verified text) ≡ true = ap (λ b. b && is_verified text) found.1 ∙ ap is_verified (sym found.0) ∙ v in
    ap Some found.0 ∙ sym (ap (λ b. cond b (Some text) None) can)

-- a digest of which the verdict is that it cannot be
pub unverifiable : (o : Option Text) (d text : Text) → o ≡ Some d → o ≡ digest_in text → is_verified d ≡ false → None ≡ verifiable_in text
unverifiable o d text is e v =
    let n : is_verified text ≡ false = ap is_verified (sym (digest_found o d text is e).0) ∙ v in
    sym (ap (λ b. cond (is_digest text && b) (Some text) None) n ∙ ap (λ b. cond b (Some text) None) (and_false (is_digest text)))

-- the digest that was looked for, if the text is one
pub digest_read : (r : Result (Option Text) Fault) (d text : Text) → r ≡ Ok (Some d) → MatchResult r (λ o. o ≡ digest_in text) (λ f. f ≡ Memory) → (d ≡ text) × (is_digest text ≡ true)
digest_read r d text is h = digest_found (Some d) d text refl (text_read r (Some d) (digest_in text) is h)

pub no_digest : (text : Text) (o : Option Text) → o ≡ None → o ≡ digest_in text → is_digest text ≡ false
no_digest text o none e = none_by text (is_digest text) (sym none ∙ e)
