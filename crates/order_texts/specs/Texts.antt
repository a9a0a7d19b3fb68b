-- The texts of lists (profile; JSON of RFC 8259, with no space, and the keys of an object in byte order).
use Rattle.std.specs.Prelude.{List, ◌∷◌, ◌++◌, map, codes, decimal}
use Rattle.std.specs.List.{flat_map}
use Rattle.serde_json.specs.Data.{Data, string, number, unsigned, array, object, no_members, member}
use Rattle.serde_json.specs.View.{items_of}
use Rattle.serde_json.specs.Written.{compact_text}
use Rattle.oci_types.specs.Text.{Text}
use Rattle.oci_types.specs.Member.{text_items}
use Rattle.registry_model.specs.Operation.{rank}
use Rattle.registry_orders.specs.declared.listing.Form.{Form}
use Rattle.registry_orders.specs.declared.listing.Form.TheVariants.{Lines, Json}
use Rattle.registry_orders.specs.Outputs.{newline}
use Rattle.order_texts.specs.Items.{ItemShown, repo_item, tag_item, blob_item, unnamed_item, grant_item}

-- behind each space a digest
abbrev pub behind_spaces : List Text → Text
behind_spaces digests = flat_map (λ digest. 32 ∷ digest) digests

-- what an item shows, with spaces between; the line's end is not of it
abbrev pub line_of : ItemShown → Text
line_of (repo_item name) = name
line_of (tag_item tag digest) = tag ++ 32 ∷ digest
line_of (blob_item digest size manifests) = digest ++ 32 ∷ decimal size ++ behind_spaces manifests
line_of (unnamed_item digest) = digest
line_of (grant_item name token level) = name ++ 32 ∷ token ++ 32 ∷ decimal (rank level)

-- a line for each
abbrev pub lines_of : List ItemShown → Text
lines_of items = flat_map (λ item. line_of item ++ newline) items

abbrev pub data_of : ItemShown → Data
data_of (repo_item name) = object (member (codes "name") (string name) no_members)
data_of (tag_item tag digest) =
    object (member (codes "digest") (string digest) (member (codes "tag") (string tag) no_members))
data_of (blob_item digest size manifests) =
    object (member (codes "digest") (string digest)
    (member (codes "manifests") (array (text_items manifests))
    (member (codes "size") (number (unsigned size)) no_members)))
data_of (unnamed_item digest) = object (member (codes "digest") (string digest) no_members)
data_of (grant_item name token level) =
    object (member (codes "level") (number (unsigned (rank level)))
    (member (codes "name") (string name)
    (member (codes "token") (string token) no_members)))

abbrev pub list_data : List ItemShown → Data
list_data items = array (items_of (map data_of items))

-- one array of an object for each, on one line
abbrev pub json_of : List ItemShown → Text
json_of items = compact_text (list_data items) ++ newline

abbrev pub text_of : Form → List ItemShown → Text
text_of Lines items = lines_of items
text_of Json items = json_of items
