-- The items of lists, as they are looked up.
use Rattle.std.specs.Prelude.{◌≡◌, List, [], ◌++◌, map, filter, string_bytes, String, Option, option_map, Result, Ok, Err, Vec, ⊤}
use Rattle.std.specs.Option.{option_map_or}
use Rattle.std.specs.declared.alloc.Global.{Global}
use Rattle.oci_types.specs.Text.{Text}
use Rattle.oci_types.specs.declared.fault.Fault.{Fault}
use Rattle.oci_types.specs.declared.fault.Fault.TheVariants.{Memory, Storage}
use Rattle.registry_model.specs.World.{World, repo_at}
use Rattle.registry_model.specs.Lookups.{blob_size_at, manifest_digests_at}
use Rattle.registry_model.specs.Pruning.{is_among}
use Rattle.registry_model.specs.Keeping.{Kept}
use Rattle.manifest_operations.specs.Pruning.{names_at}
use Rattle.registry_orders.specs.declared.listing.Held.{Held}
use Rattle.order_texts.specs.declared.items.Item.{Item}
use Rattle.order_texts.specs.Items.{ItemShown, items_shown, blob_item}
use Rattle.order_carrying.specs.Lists.{held_of}

-- a manifest, and what it names
abbrev pub naming_at : World → Text → Text → Text × List Text
naming_at w name manifest = (manifest, names_at w name manifest)

abbrev pub namings_at : World → Text → List (Text × List Text)
namings_at w name = map (naming_at w name) (manifest_digests_at w name)

-- those that name the digest
abbrev pub namers_among : List (Text × List Text) → Text → List Text
namers_among namings digest = map (λ n. n.0) (filter (λ n. is_among n.1 digest) namings)

abbrev pub blob_item_at : World → Text → List (Text × List Text) → Text → Option ItemShown
blob_item_at w name namings digest =
    option_map (λ size. blob_item digest size (namers_among namings digest)) (blob_size_at w name digest)

-- what the repository of the name holds; nothing where it is not there
abbrev pub held_at : World → Text → Held → List ItemShown
held_at w name what = option_map_or (held_of what) (repo_at w name) []

abbrev pub items_if : Option (Vec Item Global) → Option (List ItemShown)
items_if o = option_map items_shown o

abbrev pub text_if : Option (String Global) → Option Text
text_if o = option_map string_bytes o

-- a text that is so was told, or that there is none, as a keeper's read tells a value
abbrev pub TellsText : Result (Option (String Global)) Fault → (Option Text → Type 0) → Kept → Kept → Type 0
TellsText (Ok o) IsSo s s' = IsSo (text_if o) × (s' ≡ s)
TellsText (Err Memory) IsSo s s' = s' ≡ s
TellsText (Err Storage) IsSo s s' = ⊤

-- what a read found was put behind what was there, or memory for that was wanting, or its fault was passed on
abbrev pub IsAdded : {A B : Type 0} → Result A Fault → Result (Unit {0}) Fault → (A → List B)
    → List B → List B → Type 0
IsAdded (Ok found) (Ok v) shown old new = new ≡ old ++ shown found
IsAdded (Ok found) (Err fault) shown old new = fault ≡ Memory
IsAdded (Err e) (Ok v) shown old new = ⊥
IsAdded (Err e) (Err fault) shown old new = fault ≡ e
