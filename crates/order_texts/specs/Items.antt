-- What an item of a list shows (profile).
use Rattle.std.specs.Prelude.{ℕ, List, map, string_bytes, Vec}
use Rattle.std.specs.declared.alloc.Global.{Global}
use Rattle.oci_types.specs.Text.{Text}
use Rattle.registry_model.specs.declared.level.Level.{Level}
use Rattle.order_texts.specs.declared.items.Item.{Item}
use Rattle.order_texts.specs.declared.items.Item.TheVariants as item

pub data ItemShown : Type 0 where
  repo_item : Text → ItemShown
  -- a tag, and the digest that it names
  tag_item : Text → Text → ItemShown
  -- a blob's digest, its length in bytes, and the digests of the manifests that name it
  blob_item : Text → ℕ → List Text → ItemShown
  -- a blob that no manifest names
  unnamed_item : Text → ItemShown
  -- a repository's name, a token as it is shown, and its level
  grant_item : Text → Text → Level → ItemShown

abbrev pub item_shown : Item → ItemShown
item_shown (item.Repo name) = repo_item name
item_shown (item.Tag tag digest) = tag_item tag digest
item_shown (item.Blob digest size manifests) = blob_item digest size manifests.items
item_shown (item.Unnamed digest) = unnamed_item digest
item_shown (item.Grant name token level) = grant_item name (string_bytes token) level

abbrev pub items_shown : Vec Item Global → List ItemShown
items_shown v = map item_shown v.items
