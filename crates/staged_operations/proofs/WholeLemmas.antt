-- The bytes of an upload session, and those of a stage behind them.
use Rattle.std.proofs.Common.{◌≡◌, ◌∙◌, ◌⊎◌, inl, inr, ℕ, ◌+◌, ◌++◌, length, length-append, Bool, true, false, cond, not, sym, ap, refl}
use Rattle.std.specs.Option.{option_and_then}
use Rattle.std.specs.FinMap.{get}
use Rattle.oci_types.specs.Text.{Text}
use Rattle.oci_types.specs.Digest.{is_verified, matches, verdict_of}
use Rattle.oci_types.specs.declared.digest.Verdict.{Verdict}
use Rattle.oci_types.specs.declared.digest.Verdict.TheVariants.{Matches, Differs, Unsupported}
use Rattle.registry_model.specs.declared.refusal.Refusal.TheVariants.{DigestMismatch}
use Rattle.registry_model.specs.Blobs.{created_blob}
use Rattle.registry_model.specs.Decision.{refuses, within_quota}
use Rattle.registry_model.specs.Lookups.{bytes_or_none, session_at}
use Rattle.registry_model.specs.Sessions.{finished}
use Rattle.registry_model.specs.World.{Repo, World}
use Rattle.blob_operations.specs.Uploads.{bytes_so_far, finish_with}
use Rattle.blob_operations.proofs.UploadLemmas.{Found}
use Rattle.blob_operations.proofs.SessionCloseLemmas.{so_far}

abbrev pub whole : World → Text → ℕ → Text → Text
whole w name number body = bytes_or_none (session_at w name number) ++ body

module _ (w : World) (name : Text) (number size : ℕ) (f : Found w name number size) (body : Text) where
  pub whole_is : bytes_so_far f.repo number ++ body ≡ whole w name number body
  whole_is = ap (λ o. bytes_or_none (option_and_then (λ (r : Repo). get r.sessions number) o) ++ body) (sym f.at)

  pub whole_long : length (whole w name number body) ≡ size + length body
  whole_long =
      ap length (sym whole_is ∙ ap (λ t. t ++ body) (so_far w name number size f))
      ∙ length-append f.bytes body ∙ ap (λ n. n + length body) f.long

  -- bytes that do not match
  pub mismatched : (digest : Text) → matches digest (whole w name number body) ≡ false → finish_with f.repo name number digest (bytes_so_far f.repo number ++ body) ≡ refuses DigestMismatch
  mismatched digest e =
      ap (finish_with f.repo name number digest) whole_is
      ∙ ap (λ b. cond (not b) (refuses DigestMismatch) (within_quota f.repo (finished f.repo number digest (whole w name number body)) (created_blob name digest))) e

-- what a verdict other than that they match says, where the digest can be verified
no_match : (v m : Bool) (found : Verdict) → v ≡ true → found ≡ cond v (cond m Matches Differs) Unsupported → (found ≡ Differs) ⊎ (found ≡ Unsupported) → m ≡ false
no_match true true found verified e (inl differs) = absurd (cc)
no_match true true found verified e (inr unsupported) = absurd (cc)
no_match true false found verified e other = refl
no_match false m found verified e other = absurd (cc)

pub differs : (digest bytes : Text) (found : Verdict) → is_verified digest ≡ true → found ≡ verdict_of digest bytes → (found ≡ Differs) ⊎ (found ≡ Unsupported) → matches digest bytes ≡ false
differs digest bytes found verified e other = no_match (is_verified digest) (matches digest bytes) found verified e other
