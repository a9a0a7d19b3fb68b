-- The fault that is named is that of the first rule that fails.
use Rattle.std.proofs.Common.{◌≡◌, ℕ, ◌+◌, ◌<◌, ◌==◌, codes, if◌then◌else◌, Option, Some, None, Result, Ok, Err, refl, sym, ap, ◌∙◌, subst, inl, inr, arith}
use Rattle.std.specs.Prelude.{⊤}
use Rattle.std.proofs.lemmas.Bool.{cases_order}
use Rattle.serde_json.specs.Data.{Data, Members}
use Rattle.serde_json.specs.Find.{as_object}
use Rattle.oci_types.specs.Text.{Text}
use Rattle.oci_types.specs.declared.manifest_fault.ManifestFault.{ManifestFault}
use Rattle.oci_types.specs.declared.manifest_fault.ManifestFault.TheVariants as fault
use Rattle.oci_types.specs.Rules.{◌>>=◌, or_fault}
use Rattle.oci_types.specs.ManifestFault.{fault_number}
use Rattle.oci_types.specs.Member.{Pairs, optional_text_at, texts_at}
use Rattle.oci_types.specs.Manifest.{document_in, version_of, BodyShown, body_kind, body_of, own_type_of, ContentsShown, contents_of, subject_of, ManifestShown, manifest_of, manifest_in}
use Rattle.oci_types.specs.Reads.{HasBody, Holds, HasOwnType, Says, IsJson}
use Rattle.oci_types.specs.FirstFault.{Keeps, FirstFault, Refuses}
use Rattle.oci_types.proofs.Parts.{as_object-found, optional_text_only, texts_found, texts_only}
use Rattle.oci_types.proofs.RuleLaws.{document_found, document_only, version_found, version_only, body_found, body_only, own_type_found, own_type_only, contents_found, contents_only, subject_found, subject_only}
use Rattle.oci_types.proofs.ManifestLaws.{rule_fault, none_some, finished, from_artifact_type, from_subject, from_annotations, from_descriptors, from_media_type, from_kind, from_version, says_found}

-- ---- the rules by their numbers

fault_at : ℕ → ManifestFault
fault_at n =
    if n == 1 then fault.NotJson else if n == 2 then fault.NotObject else if n == 3 then fault.SchemaVersion
    else if n == 4 then fault.Kind else if n == 5 then fault.MediaType else if n == 6 then fault.Descriptor
    else if n == 7 then fault.Annotations else if n == 8 then fault.Subject else if n == 9 then fault.ArtifactType else fault.Memory

at_number : (f : ManifestFault) → fault_at (fault_number f) ≡ f
unfolding fault_at
at_number fault.NotJson = refl
at_number fault.NotObject = refl
at_number fault.SchemaVersion = refl
at_number fault.Kind = refl
at_number fault.MediaType = refl
at_number fault.Descriptor = refl
at_number fault.Annotations = refl
at_number fault.Subject = refl
at_number fault.ArtifactType = refl
at_number fault.Memory = refl

same_number : (f g : ManifestFault) → fault_number f ≡ fault_number g → f ≡ g
same_number f g is = sym (at_number f) ∙ ap fault_at is ∙ at_number g

-- each rule below the number is kept
abbrev Kept : ℕ → Data → Type 0
Kept n d = (earlier : ManifestFault) → fault_number earlier < n → Keeps earlier d

kept_none : (d : Data) → Kept 2 d
kept_none d fault.NotJson lt = tt
kept_none d fault.NotObject lt = absurd (omega arith)
kept_none d fault.SchemaVersion lt = absurd (omega arith)
kept_none d fault.Kind lt = absurd (omega arith)
kept_none d fault.MediaType lt = absurd (omega arith)
kept_none d fault.Descriptor lt = absurd (omega arith)
kept_none d fault.Annotations lt = absurd (omega arith)
kept_none d fault.Subject lt = absurd (omega arith)
kept_none d fault.ArtifactType lt = absurd (omega arith)
kept_none d fault.Memory lt = tt

kept_next : (d : Data) (f : ManifestFault) (n m : ℕ) → fault_number f ≡ n → m ≡ n + 1 → Kept n d → Keeps f d → Kept m d
kept_next d f n m is next before here earlier lt = elim (cases_order (fault_number earlier) n) [
  | inl same ↦ subst (λ (g : ManifestFault). Keeps g d) (same_number f earlier (is ∙ sym same)) here
  | inr other ↦ elim other [
    | inl below ↦ before earlier below
    | inr above ↦ absurd (omega arith)
  ]
]

breaks_at : (d : Data) (f e : ManifestFault) → e ≡ f → Kept (fault_number f) d → ¬ (Keeps f d) → FirstFault d e
breaks_at d f e is before breaks = subst (λ (g : ManifestFault). FirstFault d g) (sym is) (record { before = before; breaks = breaks })

-- ---- the rules from each on

fault_of_artifact_type : (d : Data) (body : BodyShown) (contents : ContentsShown) (texts : Pairs) (subject : Option Text) (e : ManifestFault) → Kept 9 d → from_artifact_type d body contents texts subject ≡ Err e → FirstFault d e
fault_of_artifact_type d body contents texts subject e before h =
    elim (rule_fault fault.ArtifactType (optional_text_at (codes "artifactType") d) (λ x. Ok (finished body contents texts subject x)) e h) [
      | inl broken ↦ breaks_at d fault.ArtifactType e broken.0 before (λ (keeps : Keeps fault.ArtifactType d). none_some _ keeps.0 broken.1 (optional_text_only (codes "artifactType") d keeps.0 keeps.1))
      | inr kept ↦ let done = kept.2 in absurd cc
    ]

fault_of_subject : (d : Data) (body : BodyShown) (contents : ContentsShown) (texts : Pairs) (e : ManifestFault) → Kept 8 d → from_subject d body contents texts ≡ Err e → FirstFault d e
fault_of_subject d body contents texts e before h =
    elim (rule_fault fault.Subject (subject_of d) (λ x. from_artifact_type d body contents texts x) e h) [
      | inl broken ↦ breaks_at d fault.Subject e broken.0 before (λ (keeps : Keeps fault.Subject d). none_some _ keeps.0 broken.1 (subject_only d keeps.0 keeps.1))
      | inr kept ↦ fault_of_artifact_type d body contents texts kept.0 e (kept_next d fault.Subject 8 9 refl refl before (kept.0, subject_found d kept.0 kept.1)) kept.2
    ]

fault_of_annotations : (d : Data) (body : BodyShown) (contents : ContentsShown) (e : ManifestFault) → Kept 7 d → from_annotations d body contents ≡ Err e → FirstFault d e
fault_of_annotations d body contents e before h =
    elim (rule_fault fault.Annotations (texts_at (codes "annotations") d) (λ x. from_subject d body contents x) e h) [
      | inl broken ↦ breaks_at d fault.Annotations e broken.0 before (λ (keeps : Keeps fault.Annotations d). none_some _ keeps.0 broken.1 (texts_only (codes "annotations") d keeps.0 keeps.1))
      | inr kept ↦ fault_of_subject d body contents kept.0 e (kept_next d fault.Annotations 7 8 refl refl before (kept.0, texts_found (codes "annotations") d kept.0 kept.1)) kept.2
    ]

-- a document has one body
one_body : (d : Data) (body other : BodyShown) → body_of d ≡ Some body → HasBody d other → body ≡ other
one_body d body other is has = let also : body_of d ≡ Some other = body_only d other has in cc

fault_of_descriptors : (d : Data) (body : BodyShown) (e : ManifestFault) → body_of d ≡ Some body → Kept 6 d → from_descriptors d body ≡ Err e → FirstFault d e
fault_of_descriptors d body e is before h =
    elim (rule_fault fault.Descriptor (contents_of body) (λ x. from_annotations d body x) e h) [
      | inl broken ↦ breaks_at d fault.Descriptor e broken.0 before (λ (keeps : Keeps fault.Descriptor d). let held = keeps body (body_found d body is) in none_some _ held.0 broken.1 (contents_only body held.0 held.1))
      | inr kept ↦
          let keeps : Keeps fault.Descriptor d = λ other has. subst (λ (b : BodyShown). (c : ContentsShown) × Holds b c) (one_body d body other is has) (kept.0, contents_found body kept.0 kept.1) in
          fault_of_annotations d body kept.0 e (kept_next d fault.Descriptor 6 7 refl refl before keeps) kept.2
    ]

fault_of_media_type : (d : Data) (body : BodyShown) (e : ManifestFault) → body_of d ≡ Some body → Kept 5 d → from_media_type d body ≡ Err e → FirstFault d e
fault_of_media_type d body e is before h =
    elim (rule_fault fault.MediaType (own_type_of (body_kind body) d) (λ (_ : ⊤). from_descriptors d body) e h) [
      | inl broken ↦ breaks_at d fault.MediaType e broken.0 before (λ (keeps : Keeps fault.MediaType d). none_some _ tt broken.1 (own_type_only (body_kind body) d (keeps body (body_found d body is))))
      | inr kept ↦
          let keeps : Keeps fault.MediaType d = λ other has. subst (λ (b : BodyShown). HasOwnType (body_kind b) d) (one_body d body other is has) (own_type_found (body_kind body) d kept.0 kept.1) in
          fault_of_descriptors d body e is (kept_next d fault.MediaType 5 6 refl refl before keeps) kept.2
    ]

fault_of_kind : (d : Data) (e : ManifestFault) → Kept 4 d → from_kind d ≡ Err e → FirstFault d e
fault_of_kind d e before h =
    elim (rule_fault fault.Kind (body_of d) (λ x. from_media_type d x) e h) [
      | inl broken ↦ breaks_at d fault.Kind e broken.0 before (λ (keeps : Keeps fault.Kind d). none_some _ keeps.0 broken.1 (body_only d keeps.0 keeps.1))
      | inr kept ↦ fault_of_media_type d kept.0 e kept.1 (kept_next d fault.Kind 4 5 refl refl before (kept.0, body_found d kept.0 kept.1)) kept.2
    ]

fault_of_version : (d : Data) (e : ManifestFault) → Kept 3 d → from_version d ≡ Err e → FirstFault d e
fault_of_version d e before h =
    elim (rule_fault fault.SchemaVersion (version_of d) (λ (_ : ⊤). from_kind d) e h) [
      | inl broken ↦ breaks_at d fault.SchemaVersion e broken.0 before (λ (keeps : Keeps fault.SchemaVersion d). none_some _ tt broken.1 (version_only d keeps))
      | inr kept ↦ fault_of_kind d e (kept_next d fault.SchemaVersion 3 4 refl refl before (version_found d kept.0 kept.1)) kept.2
    ]

fault_found : (d : Data) (e : ManifestFault) → manifest_of d ≡ Err e → FirstFault d e
unfolding manifest_of
fault_found d e h =
    elim (rule_fault fault.NotObject (as_object d) (λ (_ : Members). from_version d) e h) [
      | inl broken ↦ breaks_at d fault.NotObject e broken.0 (kept_none d) (λ (keeps : Keeps fault.NotObject d). none_some _ keeps.0 broken.1 (ap as_object keeps.1))
      | inr kept ↦ fault_of_version d e (kept_next d fault.NotObject 2 3 refl refl (kept_none d) (kept.0, as_object-found d kept.0 kept.1)) kept.2
    ]

-- ---- no other fault is named

says_keeps : (d : Data) (m : ManifestShown) → Says d m → (f : ManifestFault) → Keeps f d
says_keeps d m s fault.NotJson = tt
says_keeps d m s fault.NotObject = s.is_object
says_keeps d m s fault.SchemaVersion = s.version
says_keeps d m s fault.Kind = (s.body, s.has_body)
says_keeps d m s fault.MediaType = λ other has. subst (λ (b : BodyShown). HasOwnType (body_kind b) d) (one_body d s.body other (body_only d s.body s.has_body) has) s.own_type
says_keeps d m s fault.Descriptor = λ other has. subst (λ (b : BodyShown). (c : ContentsShown) × Holds b c) (one_body d s.body other (body_only d s.body s.has_body) has) (s.contents, s.holds)
says_keeps d m s fault.Annotations = (m.annotations, s.annotations)
says_keeps d m s fault.Subject = (m.subject, s.subject)
says_keeps d m s fault.ArtifactType = (s.artifact_type.0, s.artifact_type.1)
says_keeps d m s fault.Memory = tt

one_fault : (d : Data) (e f : ManifestFault) → FirstFault d e → FirstFault d f → e ≡ f
one_fault d e f first other = elim (cases_order (fault_number e) (fault_number f)) [
  | inl same ↦ same_number e f same
  | inr apart ↦ elim apart [
    | inl below ↦ absurd (first.breaks (other.before e below))
    | inr above ↦ absurd (other.breaks (first.before f above))
  ]
]

fault_only_at : (d : Data) (e : ManifestFault) (r : Result ManifestShown ManifestFault) → manifest_of d ≡ r → FirstFault d e → r ≡ Err e
fault_only_at d e (Ok m) is first = absurd (first.breaks (says_keeps d m (says_found d m is) e))
fault_only_at d e (Err f) is first = ap (λ (g : ManifestFault). Err g) (one_fault d f e (fault_found d f is) first)

pub refused_found : (bytes : Text) (e : ManifestFault) → manifest_in bytes ≡ Err e → Refuses bytes e
unfolding manifest_in
refused_found bytes e h = elim (rule_fault fault.NotJson (document_in bytes) manifest_of e h) [
  | inl broken ↦ inl (broken.0, λ d is_json. none_some (document_in bytes) d broken.1 (document_only bytes d is_json))
  | inr kept ↦ inr (kept.0, document_found bytes kept.0 kept.1, fault_found kept.0 e kept.2)
]

no_document_at : (bytes : Text) (o : Option Data) → document_in bytes ≡ o → ((d : Data) → ¬ (IsJson bytes d)) → (or_fault fault.NotJson o >>= manifest_of) ≡ Err fault.NotJson
no_document_at bytes None is none = refl
no_document_at bytes (Some d) is none = absurd (none d (document_found bytes d is))

pub refused_only : (bytes : Text) (e : ManifestFault) → Refuses bytes e → manifest_in bytes ≡ Err e
unfolding manifest_in
refused_only bytes e h = elim h [
  | inl no_json ↦ no_document_at bytes (document_in bytes) refl no_json.1 ∙ ap (λ (g : ManifestFault). Err g) (sym no_json.0)
  | inr broken ↦ ap (λ (o : Option Data). or_fault fault.NotJson o >>= manifest_of) (document_only bytes broken.0 broken.1) ∙ fault_only_at broken.0 e (manifest_of broken.0) refl broken.2
]
