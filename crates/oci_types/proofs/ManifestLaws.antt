-- Manifests are read exactly where `Reads` has them.
use Rattle.std.proofs.Common.{◌≡◌, codes, Option, Some, None, Result, Ok, Err, refl, ap, ◌∙◌, subst, ◌⊎◌, inl, inr}
use Rattle.std.specs.Prelude.{⊤}
use Rattle.serde_json.specs.Data.{Data, Members}
use Rattle.serde_json.specs.Find.{as_object}
use Rattle.oci_types.specs.Text.{Text}
use Rattle.oci_types.specs.declared.manifest_fault.ManifestFault.{ManifestFault}
use Rattle.oci_types.specs.declared.manifest_fault.ManifestFault.TheVariants as fault
use Rattle.oci_types.specs.Rules.{◌>>=◌, or_fault}
use Rattle.oci_types.specs.Member.{Pairs, optional_text_at, texts_at}
use Rattle.oci_types.specs.Manifest.{document_in, version_of, BodyShown, body_kind, body_of, own_type_of, ContentsShown, contents_of, subject_of, artifact_type_of, ManifestShown, manifest_of, manifest_in}
use Rattle.oci_types.specs.Reads.{Says, ReadsAs}
use Rattle.oci_types.proofs.Parts.{as_object-found, optional_text_found, optional_text_only, texts_found, texts_only}
use Rattle.oci_types.proofs.RuleLaws.{document_found, document_only, version_found, version_only, body_found, body_only, own_type_found, own_type_only, contents_found, contents_only, subject_found, subject_only, type_shown, type_only}

-- ---- one rule, and what follows it

pub rule_found : {A B : Type 0} (f : ManifestFault) (o : Option A) (k : A → Result B ManifestFault) (y : B) → (or_fault f o >>= k) ≡ Ok y → (x : A) × (o ≡ Some x) × (k x ≡ Ok y)
rule_found f None k y h = absurd cc
rule_found f (Some x) k y h = (x, refl, h)

rule_kept : {A B : Type 0} (f : ManifestFault) (o : Option A) (k : A → Result B ManifestFault) (x : A) (r : Result B ManifestFault) → o ≡ Some x → k x ≡ r → (or_fault f o >>= k) ≡ r
rule_kept f o k x r is h = ap (λ p. or_fault f p >>= k) is ∙ h

pub rule_fault : {A B : Type 0} (f : ManifestFault) (o : Option A) (k : A → Result B ManifestFault) (e : ManifestFault) → (or_fault f o >>= k) ≡ Err e → ((e ≡ f) × (o ≡ None)) ⊎ ((x : A) × (o ≡ Some x) × (k x ≡ Err e))
rule_fault f None k e h = inl (cc, refl)
rule_fault f (Some x) k e h = inr (x, refl, h)

pub none_some : {A : Type 0} (o : Option A) (x : A) → o ≡ None → o ≡ Some x → ⊥
none_some o x none some = absurd cc

-- ---- the rules from each on

abbrev pub finished : BodyShown → ContentsShown → Pairs → Option Text → Option Text → ManifestShown
finished body contents texts subject own = record {
  kind = body_kind body;
  artifact_type = artifact_type_of own contents.config_type;
  needs = contents.needs;
  names = contents.names;
  subject = subject;
  annotations = texts;
}

abbrev pub from_artifact_type : Data → BodyShown → ContentsShown → Pairs → Option Text → Result ManifestShown ManifestFault
from_artifact_type d body contents texts subject = or_fault fault.ArtifactType (optional_text_at (codes "artifactType") d) >>= λ own. Ok (finished body contents texts subject own)

abbrev pub from_subject : Data → BodyShown → ContentsShown → Pairs → Result ManifestShown ManifestFault
from_subject d body contents texts = or_fault fault.Subject (subject_of d) >>= λ subject. from_artifact_type d body contents texts subject

abbrev pub from_annotations : Data → BodyShown → ContentsShown → Result ManifestShown ManifestFault
from_annotations d body contents = or_fault fault.Annotations (texts_at (codes "annotations") d) >>= λ texts. from_subject d body contents texts

abbrev pub from_descriptors : Data → BodyShown → Result ManifestShown ManifestFault
from_descriptors d body = or_fault fault.Descriptor (contents_of body) >>= λ contents. from_annotations d body contents

abbrev pub from_media_type : Data → BodyShown → Result ManifestShown ManifestFault
from_media_type d body = or_fault fault.MediaType (own_type_of (body_kind body) d) >>= λ (_ : ⊤). from_descriptors d body

abbrev pub from_kind : Data → Result ManifestShown ManifestFault
from_kind d = or_fault fault.Kind (body_of d) >>= λ body. from_media_type d body

abbrev pub from_version : Data → Result ManifestShown ManifestFault
from_version d = or_fault fault.SchemaVersion (version_of d) >>= λ (_ : ⊤). from_kind d

-- ---- what is read

pub says_found : (d : Data) (m : ManifestShown) → manifest_of d ≡ Ok m → Says d m
unfolding manifest_of
says_found d m h =
    let members = rule_found fault.NotObject (as_object d) (λ (_ : Members). from_version d) m h in
    let version = rule_found fault.SchemaVersion (version_of d) (λ (_ : ⊤). from_kind d) m members.2 in
    let body = rule_found fault.Kind (body_of d) (λ x. from_media_type d x) m version.2 in
    let own_type = rule_found fault.MediaType (own_type_of (body_kind body.0) d) (λ (_ : ⊤). from_descriptors d body.0) m body.2 in
    let contents = rule_found fault.Descriptor (contents_of body.0) (λ x. from_annotations d body.0 x) m own_type.2 in
    let texts = rule_found fault.Annotations (texts_at (codes "annotations") d) (λ x. from_subject d body.0 contents.0 x) m contents.2 in
    let subject = rule_found fault.Subject (subject_of d) (λ x. from_artifact_type d body.0 contents.0 texts.0 x) m texts.2 in
    let own = rule_found fault.ArtifactType (optional_text_at (codes "artifactType") d) (λ x. Ok (finished body.0 contents.0 texts.0 subject.0 x)) m subject.2 in
    let all = own.2 in
    let is : finished body.0 contents.0 texts.0 subject.0 own.0 ≡ m = cc in
    subst (λ (x : ManifestShown). Says d x) is (record {
      is_object = (members.0, as_object-found d members.0 members.1);
      version = version_found d version.0 version.1;
      body = body.0;
      has_body = body_found d body.0 body.1;
      kind = refl;
      own_type = own_type_found (body_kind body.0) d own_type.0 own_type.1;
      contents = contents.0;
      holds = contents_found body.0 contents.0 contents.1;
      needs = refl;
      names = refl;
      annotations = texts_found (codes "annotations") d texts.0 texts.1;
      subject = subject_found d subject.0 subject.1;
      artifact_type = (own.0, optional_text_found (codes "artifactType") d own.0 own.1, type_shown own.0 contents.0.config_type);
    })

finished_is : (d : Data) (m : ManifestShown) (s : Says d m) → finished s.body s.contents m.annotations m.subject s.artifact_type.0 ≡ m
finished_is d m s = let typed = type_only s.artifact_type.0 s.contents.config_type m.artifact_type s.artifact_type.2 in rw (← s.kind, ← s.needs, ← s.names, typed) refl

pub says_only : (d : Data) (m : ManifestShown) → Says d m → manifest_of d ≡ Ok m
unfolding manifest_of
says_only d m s =
    rule_kept fault.NotObject (as_object d) (λ (_ : Members). from_version d) s.is_object.0 (Ok m) (ap as_object s.is_object.1) (
    rule_kept fault.SchemaVersion (version_of d) (λ (_ : ⊤). from_kind d) tt (Ok m) (version_only d s.version) (
    rule_kept fault.Kind (body_of d) (λ x. from_media_type d x) s.body (Ok m) (body_only d s.body s.has_body) (
    rule_kept fault.MediaType (own_type_of (body_kind s.body) d) (λ (_ : ⊤). from_descriptors d s.body) tt (Ok m) (own_type_only (body_kind s.body) d s.own_type) (
    rule_kept fault.Descriptor (contents_of s.body) (λ x. from_annotations d s.body x) s.contents (Ok m) (contents_only s.body s.contents s.holds) (
    rule_kept fault.Annotations (texts_at (codes "annotations") d) (λ x. from_subject d s.body s.contents x) m.annotations (Ok m) (texts_only (codes "annotations") d m.annotations s.annotations) (
    rule_kept fault.Subject (subject_of d) (λ x. from_artifact_type d s.body s.contents m.annotations x) m.subject (Ok m) (subject_only d m.subject s.subject) (
    rule_kept fault.ArtifactType (optional_text_at (codes "artifactType") d) (λ x. Ok (finished s.body s.contents m.annotations m.subject x)) s.artifact_type.0 (Ok m)
    (optional_text_only (codes "artifactType") d s.artifact_type.0 s.artifact_type.1) (ap (λ (x : ManifestShown). Ok x) (finished_is d m s)))))))))

pub manifest_found : (bytes : Text) (m : ManifestShown) → manifest_in bytes ≡ Ok m → ReadsAs bytes m
unfolding manifest_in
manifest_found bytes m h =
    let document = rule_found fault.NotJson (document_in bytes) manifest_of m h in
    record { document = document.0; is_json = document_found bytes document.0 document.1; says = says_found document.0 m document.2 }

pub manifest_only : (bytes : Text) (m : ManifestShown) → ReadsAs bytes m → manifest_in bytes ≡ Ok m
unfolding manifest_in
manifest_only bytes m r = rule_kept fault.NotJson (document_in bytes) manifest_of r.document (Ok m) (document_only bytes r.document r.is_json) (says_only r.document m r.says)
