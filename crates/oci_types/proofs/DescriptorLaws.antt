-- Descriptors are found exactly where `IsDescriptor` has them.
use Rattle.std.proofs.Common.{◌≡◌, ◌≢◌, ℕ, ◌==◌, List, [], ◌∷◌, length, codes, Bool, true, false, if◌then◌else◌, Option, Some, None, refl, sym, ap, ◌∙◌, subst, arith}
use Rattle.std.proofs.lemmas.Bool.Decides.{nat_tests}
use Rattle.serde_json.specs.Data.{Data, Items, no_items, item}
use Rattle.oci_types.specs.Text.{Text}
use Rattle.oci_types.specs.Digest.{is_digest}
use Rattle.oci_types.specs.Part.{◌>>=◌}
use Rattle.oci_types.specs.Member.{Pairs, text_at, optional_text_at, size_at, some_text_at, texts_at}
use Rattle.oci_types.specs.Descriptor.{DescriptorShown, unless_empty, digest_in, type_at, digest_at, descriptor_of, descriptors_of}
use Rattle.oci_types.specs.Reads.{IsDescriptor, AreDescriptors}
use Rattle.oci_types.proofs.Parts.{then_found, then_only, text_found, text_only, optional_text_found, optional_text_only, some_text_found, some_text_only, texts_found, texts_only, size_found, size_only}

pub some_length : (b : ℕ) (bs : Text) → (length (b ∷ bs) == 0) ≡ false
some_length b bs = grind (arith, nat_tests)

unless_empty-found : (t u : Text) → unless_empty t ≡ Some u → (t ≡ u) × (u ≢ [])
unless_empty-found [] u h = absurd cc
unless_empty-found (b ∷ bs) u h =
    let given : unless_empty (b ∷ bs) ≡ Some (b ∷ bs) = rw (some_length b bs) refl in
    let is : b ∷ bs ≡ u = cc in
    (is, λ (none : u ≡ []). absurd cc)

unless_empty-only : (t : Text) → t ≢ [] → unless_empty t ≡ Some t
unless_empty-only [] h = absurd (h refl)
unless_empty-only (b ∷ bs) h = rw (some_length b bs) refl

digest_by : (t u : Text) (b : Bool) → is_digest t ≡ b → (if b then Some t else None) ≡ Some u → (t ≡ u) × (is_digest u ≡ true)
digest_by t u true is h = let same : t ≡ u = cc in (same, subst (λ (v : Text). is_digest v ≡ true) same is)
digest_by t u false is h = absurd cc

-- all parts of a descriptor
joined : Option Text → Option Text → Option ℕ → Option Bool → Option Pairs → Option (Option Text) → Option (Option Text) → Option DescriptorShown
joined media_types digests sizes elsewheres annotations inlines artifact_types = do
  media_type ← media_types
  digest ← digests
  size ← sizes
  elsewhere ← elsewheres
  texts ← annotations
  inline ← inlines
  artifact_type ← artifact_types
  Some (record { media_type = media_type; digest = digest; elsewhere = elsewhere })

record Joins (media_types digests : Option Text) (sizes : Option ℕ) (elsewheres : Option Bool) (annotations : Option Pairs) (inlines artifact_types : Option (Option Text)) (n : DescriptorShown) : Type 0 where
  media_type : media_types ≡ Some n.media_type
  digest : digests ≡ Some n.digest
  size : (x : ℕ) × (sizes ≡ Some x)
  elsewhere : elsewheres ≡ Some n.elsewhere
  texts : (x : Pairs) × (annotations ≡ Some x)
  inline : (x : Option Text) × (inlines ≡ Some x)
  artifact_type : (x : Option Text) × (artifact_types ≡ Some x)

joined-found : (media_types digests : Option Text) (sizes : Option ℕ) (elsewheres : Option Bool) (annotations : Option Pairs) (inlines artifact_types : Option (Option Text)) (n : DescriptorShown)
    → joined media_types digests sizes elsewheres annotations inlines artifact_types ≡ Some n → Joins media_types digests sizes elsewheres annotations inlines artifact_types n
unfolding joined
joined-found None digests sizes elsewheres annotations inlines artifact_types n h = absurd cc
joined-found (Some media_type) None sizes elsewheres annotations inlines artifact_types n h = absurd cc
joined-found (Some media_type) (Some digest) None elsewheres annotations inlines artifact_types n h = absurd cc
joined-found (Some media_type) (Some digest) (Some size) None annotations inlines artifact_types n h = absurd cc
joined-found (Some media_type) (Some digest) (Some size) (Some elsewhere) None inlines artifact_types n h = absurd cc
joined-found (Some media_type) (Some digest) (Some size) (Some elsewhere) (Some texts) None artifact_types n h = absurd cc
joined-found (Some media_type) (Some digest) (Some size) (Some elsewhere) (Some texts) (Some inline) None n h = absurd cc
joined-found (Some media_type) (Some digest) (Some size) (Some elsewhere) (Some texts) (Some inline) (Some artifact_type) n h =
    let shown : DescriptorShown = record { media_type = media_type; digest = digest; elsewhere = elsewhere } in
    let is : shown ≡ n = cc in
    record {
      media_type = ap (λ (m : DescriptorShown). Some m.media_type) is;
      digest = ap (λ (m : DescriptorShown). Some m.digest) is;
      size = (size, refl);
      elsewhere = ap (λ (m : DescriptorShown). Some m.elsewhere) is;
      texts = (texts, refl);
      inline = (inline, refl);
      artifact_type = (artifact_type, refl);
    }

joined-only : (media_types digests : Option Text) (sizes : Option ℕ) (elsewheres : Option Bool) (annotations : Option Pairs) (inlines artifact_types : Option (Option Text)) (n : DescriptorShown)
    → Joins media_types digests sizes elsewheres annotations inlines artifact_types n → joined media_types digests sizes elsewheres annotations inlines artifact_types ≡ Some n
unfolding joined
joined-only media_types digests sizes elsewheres annotations inlines artifact_types n all =
    rw (all.media_type, all.digest, all.size.1, all.elsewhere, all.texts.1, all.inline.1, all.artifact_type.1) refl

pub descriptor_found : (d : Data) (n : DescriptorShown) → descriptor_of d ≡ Some n → IsDescriptor d n
unfolding descriptor_of joined
descriptor_found d n h =
    let all = joined-found (type_at d) (digest_at d) (size_at (codes "size") d) (some_text_at (codes "urls") d) (texts_at (codes "annotations") d) (optional_text_at (codes "data") d) (optional_text_at (codes "artifactType") d) n h in
    let typed = then_found unless_empty (text_at (codes "mediaType") d) n.media_type all.media_type in
    let given = unless_empty-found typed.0 n.media_type typed.2 in
    let named = then_found digest_in (text_at (codes "digest") d) n.digest all.digest in
    let formed = digest_by named.0 n.digest (is_digest named.0) refl named.2 in
    record {
      media_type = text_found (codes "mediaType") d n.media_type (typed.1 ∙ ap (λ (t : Text). Some t) given.0);
      type_given = given.1;
      digest = text_found (codes "digest") d n.digest (named.1 ∙ ap (λ (t : Text). Some t) formed.0);
      digest_form = formed.1;
      size = size_found (codes "size") d all.size.0 all.size.1;
      urls = some_text_found (codes "urls") d n.elsewhere all.elsewhere;
      annotations = (all.texts.0, texts_found (codes "annotations") d all.texts.0 all.texts.1);
      inline = (all.inline.0, optional_text_found (codes "data") d all.inline.0 all.inline.1);
      artifact_type = (all.artifact_type.0, optional_text_found (codes "artifactType") d all.artifact_type.0 all.artifact_type.1);
    }

pub descriptor_only : (d : Data) (n : DescriptorShown) → IsDescriptor d n → descriptor_of d ≡ Some n
unfolding descriptor_of joined
descriptor_only d n is =
    let digest_is : digest_in n.digest ≡ Some n.digest = rw is.digest_form refl in
    joined-only (type_at d) (digest_at d) (size_at (codes "size") d) (some_text_at (codes "urls") d) (texts_at (codes "annotations") d) (optional_text_at (codes "data") d) (optional_text_at (codes "artifactType") d) n (record {
      media_type = then_only unless_empty (text_at (codes "mediaType") d) n.media_type n.media_type (text_only (codes "mediaType") d n.media_type is.media_type) (unless_empty-only n.media_type is.type_given);
      digest = then_only digest_in (text_at (codes "digest") d) n.digest n.digest (text_only (codes "digest") d n.digest is.digest) digest_is;
      size = (is.size.0, size_only (codes "size") d is.size.0 is.size.1 is.size.2);
      elsewhere = some_text_only (codes "urls") d is.urls.0 is.urls.1 ∙ ap (λ (b : Bool). Some b) (sym is.urls.2);
      texts = (is.annotations.0, texts_only (codes "annotations") d is.annotations.0 is.annotations.1);
      inline = (is.inline.0, optional_text_only (codes "data") d is.inline.0 is.inline.1);
      artifact_type = (is.artifact_type.0, optional_text_only (codes "artifactType") d is.artifact_type.0 is.artifact_type.1);
    })

-- ---- lists

one_and_others : Option DescriptorShown → Option (List DescriptorShown) → Option (List DescriptorShown)
one_and_others one others = do
  first ← one
  rest ← others
  Some (first ∷ rest)

cons-found : (one : Option DescriptorShown) (others : Option (List DescriptorShown)) (ns : List DescriptorShown) → one_and_others one others ≡ Some ns
    → (first : DescriptorShown) × (rest : List DescriptorShown) × (one ≡ Some first) × (others ≡ Some rest) × (first ∷ rest ≡ ns)
unfolding one_and_others
cons-found None others ns h = absurd cc
cons-found (Some first) None ns h = absurd cc
cons-found (Some first) (Some rest) ns h = (first, rest, refl, refl, cc)

pub descriptors_found : (ds : Items) (ns : List DescriptorShown) → descriptors_of ds ≡ Some ns → AreDescriptors ds ns
unfolding descriptors_of one_and_others
descriptors_found no_items ns h = let is : [] ≡ ns = cc in subst (λ (ms : List DescriptorShown). AreDescriptors no_items ms) is tt
descriptors_found (item d ds) ns h =
    let found = cons-found (descriptor_of d) (descriptors_of ds) ns h in
    subst (λ (ms : List DescriptorShown). AreDescriptors (item d ds) ms) found.4 (descriptor_found d found.0 found.2, descriptors_found ds found.1 found.3)

pub descriptors_only : (ds : Items) (ns : List DescriptorShown) → AreDescriptors ds ns → descriptors_of ds ≡ Some ns
unfolding descriptors_of one_and_others
descriptors_only no_items [] are = refl
descriptors_only no_items (n ∷ ns) are = absurd are
descriptors_only (item d ds) [] are = absurd are
descriptors_only (item d ds) (n ∷ ns) are = rw (descriptor_only d n are.0, descriptors_only ds ns are.1) refl
