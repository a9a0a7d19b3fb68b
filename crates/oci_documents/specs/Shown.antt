-- What was read of a document, as the definitions have it.
use Rattle.std.specs.Prelude.{List, [], ◌∷◌, ◌++◌, map, Bool, cond, string_bytes, option_map}
use Rattle.serde_json.specs.View.{view, items_view}
use Rattle.oci_types.specs.Text.{Text}
use Rattle.oci_types.specs.Descriptor.{DescriptorShown, digests_of, needed}
use Rattle.oci_types.specs.Manifest.{BodyShown, image, index, ContentsShown}
use Rattle.oci_documents.specs.declared.descriptor.Descriptor.{Descriptor}
use Rattle.oci_documents.specs.declared.body.Body.{Body}
use Rattle.oci_documents.specs.declared.body.Body.TheVariants as body
use Rattle.oci_documents.specs.declared.body.Contents.{Contents}

abbrev pub descriptor_shown : Descriptor → DescriptorShown
descriptor_shown d = record {
  media_type = string_bytes d.media_type;
  digest = d.digest;
  elsewhere = d.elsewhere;
}

abbrev pub descriptors_shown : List Descriptor → List DescriptorShown
descriptors_shown ds = map descriptor_shown ds

abbrev pub body_shown : Body → BodyShown
body_shown (body.Image config layers) = image (view config.now) (items_view layers.now)
body_shown (body.Index manifests) = index (items_view manifests.now)

abbrev pub contents_shown : Contents → ContentsShown
contents_shown c = record {
  config_type = option_map string_bytes c.config_type;
  needs = c.needs.items;
  names = c.names.items;
}

-- one more digest, which is needed unless its content lies elsewhere
abbrev pub with_digest : ContentsShown → Bool → Text → ContentsShown
with_digest c elsewhere digest = record {
  config_type = c.config_type;
  needs = c.needs ++ cond elsewhere [] (digest ∷ []);
  names = c.names ++ digest ∷ [];
}

-- those of more descriptors
abbrev pub with_digests : ContentsShown → List DescriptorShown → ContentsShown
with_digests c ds = record {
  config_type = c.config_type;
  needs = c.needs ++ needed ds;
  names = c.names ++ digests_of ds;
}
