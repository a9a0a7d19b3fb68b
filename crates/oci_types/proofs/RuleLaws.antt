-- Each rule is kept exactly where `Reads` and `FirstFault` say so.
use Rattle.std.proofs.Common.{◌≡◌, ◌≢◌, ℕ, ◌==◌, List, [], ◌∷◌, length, codes, bytes_eq, Bool, true, false, if◌then◌else◌, Option, Some, None, option_map, option_and_then, refl, sym, ap, ◌∙◌, subst, ◌⊎◌, inl, inr}
use Rattle.std.specs.Prelude.{⊤}
use Rattle.std.specs.Str.{is_utf8}
use Rattle.std.proofs.lemmas.Str.{IsUtf8-from_is_utf8}
use Rattle.std.proofs.lemmas.Bool.{eqb-true}
use Rattle.std.proofs.lemmas.Slice.Eq.{bytes_eq-Decides}
use Rattle.std.proofs.Math.Bool.{or-true}
use Rattle.serde_json.specs.Data.{Data, null, number, unsigned}
use Rattle.serde_json.specs.Read.{read}
use Rattle.serde_json.specs.Find.{get, as_number, as_u64}
use Rattle.oci_types.specs.Text.{Text}
use Rattle.oci_types.specs.declared.kind.Kind.{Kind}
use Rattle.oci_types.specs.Kind.{media_type_of}
use Rattle.oci_types.specs.Member.{present_at, if_present, list_at, optional_text_at}
use Rattle.oci_types.specs.Descriptor.{DescriptorShown, descriptor_of, descriptors_of, digests_of, needed}
use Rattle.oci_types.specs.Manifest.{document_in, if_two, version_of, BodyShown, image, index, unless_present, body_from, body_of, fits_kind, if_fits, own_type_of, ContentsShown, image_contents, index_contents, contents_of, subject_of, artifact_type_of}
use Rattle.oci_types.specs.Reads.{Has, IsDescriptor, HasBody, Holds, FitsKind, HasOwnType, HasSubject, ShowsType, IsJson}
use Rattle.oci_types.proofs.Documents.{document_read}
use Rattle.oci_types.proofs.Parts.{then_found, then_only, map_found, whole_found, whole_only, lacks_found, lacks_only, present_found, present_only, optional_text_found, optional_text_only, list_found, list_only}
use Rattle.oci_types.proofs.DescriptorLaws.{some_length, descriptor_found, descriptor_only, descriptors_found, descriptors_only}

-- ---- the document

document_by : (bytes : Text) (d : Data) (b : Bool) → is_utf8 bytes ≡ b → (if b then read bytes else None) ≡ Some d → IsJson bytes d
document_by bytes d true is h = (IsUtf8-from_is_utf8 bytes is, h)
document_by bytes d false is h = absurd cc

pub document_found : (bytes : Text) (d : Data) → document_in bytes ≡ Some d → IsJson bytes d
document_found bytes d h = document_by bytes d (is_utf8 bytes) refl h

pub document_only : (bytes : Text) (d : Data) → IsJson bytes d → document_in bytes ≡ Some d
document_only bytes d h = document_read bytes d h

-- ---- the version

two_by : (n : ℕ) (u : ⊤) (b : Bool) → (n == 2) ≡ b → (if b then Some tt else None) ≡ Some u → n ≡ 2
two_by n u true is h = eqb-true n 2 is
two_by n u false is h = absurd cc

pub version_found : (d : Data) (u : ⊤) → version_of d ≡ Some u → Has d (codes "schemaVersion") (number (unsigned 2))
version_found d u h =
    let found = then_found if_two (option_and_then as_u64 (option_and_then as_number (get (codes "schemaVersion") d))) u h in
    let two : found.0 ≡ 2 = two_by found.0 u (found.0 == 2) refl found.2 in
    subst (λ (n : ℕ). Has d (codes "schemaVersion") (number (unsigned n))) two (whole_found (codes "schemaVersion") d found.0 found.1)

pub version_only : (d : Data) → Has d (codes "schemaVersion") (number (unsigned 2)) → version_of d ≡ Some tt
version_only d h = then_only if_two (option_and_then as_u64 (option_and_then as_number (get (codes "schemaVersion") d))) 2 tt (whole_only (codes "schemaVersion") d 2 h) refl

-- ---- the body

unless_present_found : (p : Option Data) (s b : BodyShown) → unless_present p s ≡ Some b → (p ≡ None) × (s ≡ b)
unless_present_found None s b h = (refl, cc)
unless_present_found (Some v) s b h = absurd cc

body_found_in : (d : Data) (p : Option Data) (b : BodyShown) → present_at (codes "config") d ≡ p → body_from p d ≡ Some b → HasBody d b
body_found_in d (Some config) b is h =
    let found = then_found (λ layers. unless_present (present_at (codes "manifests") d) (image config layers)) (list_at (codes "layers") d) b h in
    let alone = unless_present_found (present_at (codes "manifests") d) (image config found.0) b found.2 in
    let there = present_found (codes "config") d config is in
    subst (λ (c : BodyShown). HasBody d c) alone.1 (there.0, there.1, list_found (codes "layers") d found.0 found.1, lacks_found (codes "manifests") d alone.0)
body_found_in d None b is h =
    let found = then_found (λ manifests. unless_present (present_at (codes "layers") d) (index manifests)) (list_at (codes "manifests") d) b h in
    let alone = unless_present_found (present_at (codes "layers") d) (index found.0) b found.2 in
    subst (λ (c : BodyShown). HasBody d c) alone.1 (lacks_found (codes "config") d is, list_found (codes "manifests") d found.0 found.1, lacks_found (codes "layers") d alone.0)

pub body_found : (d : Data) (b : BodyShown) → body_of d ≡ Some b → HasBody d b
body_found d b h = body_found_in d (present_at (codes "config") d) b refl h

pub body_only : (d : Data) (b : BodyShown) → HasBody d b → body_of d ≡ Some b
body_only d (image config layers) h =
    ap (λ (p : Option Data). body_from p d) (present_only (codes "config") d config h.0 h.1)
    ∙ then_only (λ ls. unless_present (present_at (codes "manifests") d) (image config ls)) (list_at (codes "layers") d) layers (image config layers) (list_only (codes "layers") d layers h.2)
    (ap (λ (p : Option Data). unless_present p (image config layers)) (lacks_only (codes "manifests") d h.3))
body_only d (index manifests) h =
    ap (λ (p : Option Data). body_from p d) (lacks_only (codes "config") d h.0)
    ∙ then_only (λ ms. unless_present (present_at (codes "layers") d) (index ms)) (list_at (codes "manifests") d) manifests (index manifests) (list_only (codes "manifests") d manifests h.1)
    (ap (λ (p : Option Data). unless_present p (index manifests)) (lacks_only (codes "layers") d h.2))

-- ---- the media type

type_by : (k : Kind) (text : Text) (u : ⊤) (b : Bool) → bytes_eq text (media_type_of k) ≡ b → (if b then Some tt else None) ≡ Some u → text ≡ media_type_of k
type_by k text u true is h = (bytes_eq-Decides text (media_type_of k)).0 is
type_by k text u false is h = absurd cc

fits_found : (k : Kind) (o : Option Text) (u : ⊤) → if_fits k o ≡ Some u → FitsKind k o
fits_found k None u h = tt
fits_found k (Some []) u h = inl refl
fits_found k (Some (b ∷ bs)) u h = inr (type_by k (b ∷ bs) u (bytes_eq (b ∷ bs) (media_type_of k)) refl (rw (some_length b bs) at h))

fits_text : (k : Kind) (text : Text) → (text ≡ []) ⊎ (text ≡ media_type_of k) → fits_kind k (Some text) ≡ true
fits_text k text h = elim h [
  | inl is ↦ ap (λ (t : Text). fits_kind k (Some t)) is
  | inr is ↦ let same : bytes_eq text (media_type_of k) ≡ true = (bytes_eq-Decides text (media_type_of k)).1 is in rw same (or-true (length text == 0))
]

fits_only : (k : Kind) (o : Option Text) → FitsKind k o → if_fits k o ≡ Some tt
fits_only k None h = refl
fits_only k (Some text) h = ap (λ (b : Bool). if b then Some tt else None) (fits_text k text h)

pub own_type_found : (k : Kind) (d : Data) (u : ⊤) → own_type_of k d ≡ Some u → HasOwnType k d
own_type_found k d u h =
    let found = then_found (if_fits k) (optional_text_at (codes "mediaType") d) u h in
    (found.0, optional_text_found (codes "mediaType") d found.0 found.1, fits_found k found.0 u found.2)

pub own_type_only : (k : Kind) (d : Data) → HasOwnType k d → own_type_of k d ≡ Some tt
own_type_only k d h = then_only (if_fits k) (optional_text_at (codes "mediaType") d) h.0 tt (optional_text_only (codes "mediaType") d h.0 h.1) (fits_only k h.0 h.2)

-- ---- the descriptors

pub contents_found : (b : BodyShown) (c : ContentsShown) → contents_of b ≡ Some c → Holds b c
contents_found (image config layers) c h =
    let found = then_found (λ first. option_map (image_contents first) (descriptors_of layers)) (descriptor_of config) c h in
    let others = map_found (image_contents found.0) (descriptors_of layers) c found.2 in
    (found.0, others.0, descriptor_found config found.0 found.1, descriptors_found layers others.0 others.1, ap (λ (x : ContentsShown). x.config_type) (sym others.2), ap (λ (x : ContentsShown). x.needs) (sym others.2), ap (λ (x : ContentsShown). x.names) (sym others.2))
contents_found (index manifests) c h =
    let others = map_found index_contents (descriptors_of manifests) c h in
    (others.0, descriptors_found manifests others.0 others.1, ap (λ (x : ContentsShown). x.config_type) (sym others.2), ap (λ (x : ContentsShown). x.needs) (sym others.2), ap (λ (x : ContentsShown). x.names) (sym others.2))

same_contents : (c : ContentsShown) (config_type : Option Text) (needs names : List Text) → c.config_type ≡ config_type → c.needs ≡ needs → c.names ≡ names → record { config_type = config_type; needs = needs; names = names } ≡ c
same_contents c config_type needs names typed needing naming = rw (← typed, ← needing, ← naming) refl

pub contents_only : (b : BodyShown) (c : ContentsShown) → Holds b c → contents_of b ≡ Some c
contents_only (image config layers) c h =
    let first = h.0 in
    let others = h.1 in
    then_only (λ f. option_map (image_contents f) (descriptors_of layers)) (descriptor_of config) first c (descriptor_only config first h.2)
    (ap (option_map (image_contents first)) (descriptors_only layers others h.3) ∙ ap (λ (x : ContentsShown). Some x) (same_contents c (Some first.media_type) (needed (first ∷ others)) (digests_of (first ∷ others)) h.4 h.5 h.6))
contents_only (index manifests) c h =
    ap (option_map index_contents) (descriptors_only manifests h.0 h.1) ∙ ap (λ (x : ContentsShown). Some x) (same_contents c None [] [] h.2 h.3 h.4)

-- ---- the subject

abbrev digest_shown : Option (Option DescriptorShown) → Option (Option Text)
digest_shown o = option_map (option_map (λ n. n.digest)) o

subject_found_in : (d : Data) (p : Option Data) (o : Option Text) → present_at (codes "subject") d ≡ p → digest_shown (if_present descriptor_of p) ≡ Some o → HasSubject d o
subject_found_in d None o is h = let none : None ≡ o = cc in subst (λ (x : Option Text). HasSubject d x) none (lacks_found (codes "subject") d is)
subject_found_in d (Some v) o is h =
    let outer = map_found (option_map (λ n. n.digest)) (option_map Some (descriptor_of v)) o h in
    let inner = map_found Some (descriptor_of v) outer.0 outer.1 in
    let n = inner.0 in
    let there = present_found (codes "subject") d v is in
    let same : Some n.digest ≡ o = ap (option_map (λ (x : DescriptorShown). x.digest)) inner.2 ∙ outer.2 in
    subst (λ (x : Option Text). HasSubject d x) same (v, n, there.0, descriptor_found v n inner.1, refl)

pub subject_found : (d : Data) (o : Option Text) → subject_of d ≡ Some o → HasSubject d o
subject_found d o h = subject_found_in d (present_at (codes "subject") d) o refl h

null_is_none : (n : DescriptorShown) → ¬ (IsDescriptor null n)
null_is_none n is = let typed = is.media_type in absurd cc

pub subject_only : (d : Data) (o : Option Text) → HasSubject d o → subject_of d ≡ Some o
subject_only d None h = ap (λ (p : Option Data). digest_shown (if_present descriptor_of p)) (lacks_only (codes "subject") d h)
subject_only d (Some digest) h =
    let v = h.0 in
    let n = h.1 in
    let there = present_only (codes "subject") d v h.2 (λ (is : v ≡ null). null_is_none n (subst (λ (w : Data). IsDescriptor w n) is h.3)) in
    ap (λ (p : Option Data). digest_shown (if_present descriptor_of p)) there
    ∙ ap (λ (x : Option DescriptorShown). digest_shown (option_map Some x)) (descriptor_only v n h.3)
    ∙ ap (λ (t : Text). Some (Some t)) h.4

-- ---- the type that is shown

pub type_shown : (own config_type : Option Text) → ShowsType own config_type (artifact_type_of own config_type)
type_shown None config_type = inr (inl refl, refl)
type_shown (Some []) config_type = inr (inr refl, refl)
type_shown (Some (b ∷ bs)) config_type = inl (b ∷ bs, refl, λ (none : b ∷ bs ≡ []). absurd cc, rw (some_length b bs) refl)

own_shown : (text : Text) (config_type : Option Text) → text ≢ [] → artifact_type_of (Some text) config_type ≡ Some text
own_shown [] config_type h = absurd (h refl)
own_shown (b ∷ bs) config_type h = rw (some_length b bs) refl

pub type_only : (own config_type o : Option Text) → ShowsType own config_type o → artifact_type_of own config_type ≡ o
type_only own config_type o h = elim h [
  | inl given ↦ ap (λ (x : Option Text). artifact_type_of x config_type) given.1 ∙ own_shown given.0 config_type given.2 ∙ sym given.3
  | inr absent ↦ elim absent.0 [
    | inl is ↦ ap (λ (x : Option Text). artifact_type_of x config_type) is ∙ sym absent.1
    | inr is ↦ ap (λ (x : Option Text). artifact_type_of x config_type) is ∙ sym absent.1
  ]
]
