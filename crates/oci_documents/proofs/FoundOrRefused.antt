-- What a call has found that gives what `manifest_in` reads, and why it refuses.
use Rattle.std.proofs.Common.{◌≡◌, Option, Some, None, Result, Ok, Err, refl, sym, ap, ◌∙◌, subst}
use Rattle.std.specs.Prelude.{◌≢◌, IfOk, IfErr, IsErrAnd, MatchResult}
use Rattle.serde_json.specs.Data.{Data}
use Rattle.oci_types.specs.Text.{Text}
use Rattle.oci_types.specs.declared.manifest_fault.ManifestFault.{ManifestFault}
use Rattle.oci_types.specs.declared.manifest_fault.ManifestFault.TheVariants as fault
use Rattle.oci_types.specs.declared.manifest.Manifest.{Manifest}
use Rattle.oci_types.specs.Rules.{◌>>=◌, or_fault, Gives}
use Rattle.oci_types.specs.Manifest.{document_in, ManifestShown, shown, manifest_of, manifest_in}
use Rattle.oci_types.specs.Reads.{ReadsAs}
use Rattle.oci_types.specs.FirstFault.{Refuses}
use Rattle.oci_types.proofs.ManifestLaws.{manifest_found, manifest_only}
use Rattle.oci_types.proofs.FaultLaws.{refused_found}

-- ---- what the bytes read as

-- the document is there, and its rules decide
pub gives_by_rules : (r : Result Manifest ManifestFault) (bytes : Text) (d : Data) → document_in bytes ≡ Some d → Gives shown r (manifest_of d) → Gives shown r (manifest_in bytes)
unfolding manifest_in
gives_by_rules r bytes d is h = subst (λ (m : Result ManifestShown ManifestFault). Gives shown r m) (sym (ap (λ (o : Option Data). or_fault fault.NotJson o >>= manifest_of) is)) h

no_document : (bytes : Text) → document_in bytes ≡ None → manifest_in bytes ≡ Err fault.NotJson
unfolding manifest_in
no_document bytes is = ap (λ (o : Option Data). or_fault fault.NotJson o >>= manifest_of) is

-- the document could not be read
pub gives_no_document : (r : Result Manifest ManifestFault) (bytes : Text) (e : ManifestFault) → (e ≢ fault.Memory → (e ≡ fault.NotJson) × (document_in bytes ≡ None)) → IsErrAnd r (λ f. f ≡ e) → Gives shown r (manifest_in bytes)
gives_no_document (Ok m) bytes e why is = absurd is
gives_no_document (Err f) bytes e why is = λ other. let none = why (λ memory. other (is ∙ memory)) in no_document bytes none.1 ∙ ap (λ (g : ManifestFault). Err g) (sym (is ∙ none.0))

-- ---- what a call that gives this promises

pub gives_found : (r : Result Manifest ManifestFault) (bytes : Text) → Gives shown r (manifest_in bytes) → IfOk r (λ m. ReadsAs bytes (shown m))
gives_found (Ok m) bytes h = manifest_found bytes (shown m) h
gives_found (Err e) bytes h = tt

no_other : (e : ManifestFault) → ¬ (e ≢ fault.Memory) → e ≡ fault.Memory
no_other fault.NotJson other = absurd (other (λ is. absurd cc))
no_other fault.NotObject other = absurd (other (λ is. absurd cc))
no_other fault.SchemaVersion other = absurd (other (λ is. absurd cc))
no_other fault.Kind other = absurd (other (λ is. absurd cc))
no_other fault.MediaType other = absurd (other (λ is. absurd cc))
no_other fault.Descriptor other = absurd (other (λ is. absurd cc))
no_other fault.Annotations other = absurd (other (λ is. absurd cc))
no_other fault.Subject other = absurd (other (λ is. absurd cc))
no_other fault.ArtifactType other = absurd (other (λ is. absurd cc))
no_other fault.Memory other = refl

pub gives_only : (r : Result Manifest ManifestFault) (bytes : Text) → Gives shown r (manifest_in bytes) → (said : ManifestShown) → ReadsAs bytes said → MatchResult r (λ m. shown m ≡ said) (λ e. e ≡ fault.Memory)
gives_only (Ok m) bytes h said reads = let is = manifest_only bytes said reads in cc
gives_only (Err e) bytes h said reads = no_other e (λ other. let given = h other in let is = manifest_only bytes said reads in absurd cc)

pub gives_fault : (r : Result Manifest ManifestFault) (bytes : Text) → Gives shown r (manifest_in bytes) → IfErr r (λ e. e ≢ fault.Memory → Refuses bytes e)
gives_fault (Ok m) bytes h = tt
gives_fault (Err e) bytes h = λ other. refused_found bytes e (h other)
