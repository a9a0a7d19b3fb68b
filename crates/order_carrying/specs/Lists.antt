-- What the lists of an operator show of the world, item by item (profile).
use Rattle.std.specs.Prelude.{List, map, filter, length}
use Rattle.std.specs.FinMap.{entries}
use Rattle.oci_types.specs.Text.{Text}
use Rattle.registry_model.specs.World.{Repo, World}
use Rattle.registry_model.specs.Pruning.{names_in, is_among}
use Rattle.manifest_operations.specs.Pruning.{unnamed_of}
use Rattle.registry_orders.specs.declared.listing.Held.{Held}
use Rattle.registry_orders.specs.declared.listing.Held.TheVariants.{Tags, Blobs, Unnamed}
use Rattle.order_texts.specs.Items.{ItemShown, repo_item, tag_item, blob_item, unnamed_item}

-- the repositories, in byte order of their names
abbrev pub repos_of : World → List ItemShown
repos_of w = map (λ e. repo_item e.0) (entries w.repos)

-- the tags, in byte order, each with the digest that it names
abbrev pub tags_of : Repo → List ItemShown
tags_of r = map (λ e. tag_item e.0 e.1) (entries r.tags)

-- the manifests that name a digest, in byte order of their own
abbrev pub namers_of : Repo → Text → List Text
namers_of r digest = map (λ m. m.0) (filter (λ m. is_among (names_in m.1) digest) (entries r.manifests))

-- the blobs, in byte order of their digests
abbrev pub blobs_of : Repo → List ItemShown
blobs_of r = map (λ e. blob_item e.0 (length e.1) (namers_of r e.0)) (entries r.blobs)

abbrev pub held_of : Held → Repo → List ItemShown
held_of Tags r = tags_of r
held_of Blobs r = blobs_of r
held_of Unnamed r = map unnamed_item (unnamed_of r)
