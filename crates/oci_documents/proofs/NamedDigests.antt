-- The digests that an image manifest names and needs, descriptor by descriptor.
use Rattle.std.proofs.Common.{◌≡◌, List, [], ◌∷◌, ◌++◌, map, Bool, true, false, cond, not, Some, refl, sym, ap, ◌∙◌, append_assoc}
use Rattle.std.specs.Prelude.{filter}
use Rattle.std.proofs.lemmas.List.{append-nil, map-append}
use Rattle.std.proofs.lemmas.List.Elements.{filter-append}
use Rattle.oci_types.specs.Text.{Text}
use Rattle.oci_types.specs.Descriptor.{DescriptorShown, digests_of, needed}
use Rattle.oci_types.specs.Manifest.{ContentsShown, image_contents}
use Rattle.oci_documents.specs.Shown.{with_digest, with_digests}

abbrev digest : DescriptorShown → Text
digest d = d.digest

abbrev here : DescriptorShown → Bool
here d = not d.elsewhere

needed_alone : (d : DescriptorShown) (elsewhere : Bool) → map digest (cond (not elsewhere) (d ∷ []) []) ≡ cond elsewhere [] (d.digest ∷ [])
needed_alone d true = refl
needed_alone d false = refl

needed_more : (ds : List DescriptorShown) (d : DescriptorShown) → needed (ds ++ d ∷ []) ≡ needed ds ++ cond d.elsewhere [] (d.digest ∷ [])
needed_more ds d =
    ap (map digest) (filter-append here ds (d ∷ [])) ∙ map-append digest (filter here ds) (filter here (d ∷ []))
    ∙ ap (λ (ns : List Text). needed ds ++ ns) (needed_alone d d.elsewhere)

needed_first : (d : DescriptorShown) (ds : List DescriptorShown) (elsewhere : Bool)
    → cond elsewhere [] (d.digest ∷ []) ++ needed ds ≡ map digest (cond (not elsewhere) (d ∷ filter here ds) (filter here ds))
needed_first d ds true = refl
needed_first d ds false = refl

pub nothing_named : (c : ContentsShown) → c ≡ with_digests c []
nothing_named c i = record { config_type = c.config_type; needs = sym (append-nil c.needs) i; names = sym (append-nil c.names) i }

-- one descriptor more
pub named_more : (c before after : ContentsShown) (ds : List DescriptorShown) (d : DescriptorShown) → before ≡ with_digests c ds → after ≡ with_digest before d.elsewhere d.digest
    → after ≡ with_digests c (ds ++ d ∷ [])
named_more c before after ds d so_far more =
    more ∙ ap (λ (b : ContentsShown). with_digest b d.elsewhere d.digest) so_far ∙ (λ i. record {
      config_type = c.config_type;
      needs = (append_assoc c.needs (needed ds) (cond d.elsewhere [] (d.digest ∷ [])) ∙ ap (λ (ns : List Text). c.needs ++ ns) (sym (needed_more ds d))) i;
      names = (append_assoc c.names (digests_of ds) (d.digest ∷ []) ∙ ap (λ (ns : List Text). c.names ++ ns) (sym (map-append digest ds (d ∷ [])))) i;
    })

-- the config first, and then the layers
pub all_named : (config : DescriptorShown) (layers : List DescriptorShown) (none one all : ContentsShown) (media_type name : Text) → media_type ≡ config.media_type → name ≡ config.digest
    → none ≡ record { config_type = Some media_type; needs = []; names = [] } → one ≡ with_digest none config.elsewhere name → all ≡ with_digests one layers
    → all ≡ image_contents config layers
all_named config layers none one all media_type name typed named begun first others =
    others ∙ ap (λ (c : ContentsShown). with_digests c layers) (first ∙ ap (λ (c : ContentsShown). with_digest c config.elsewhere name) begun)
    ∙ (λ i. record { config_type = Some (typed i); needs = cond config.elsewhere [] (named i ∷ []) ++ needed layers; names = named i ∷ digests_of layers })
    ∙ (λ i. record { config_type = Some config.media_type; needs = needed_first config layers config.elsewhere i; names = digests_of (config ∷ layers) })
