-- The manifests that name digests, as they are kept (profile).
use Rattle.std.specs.Prelude.{◌≡◌, ◌-◌, length, List, [], ◌∷◌, ◌++◌, Bool, false, if◌then◌else◌, bytes_eq, slice_get}
use Rattle.std.specs.Option.{option_map_or}
use Rattle.std.specs.BTreeMap.{get}
use Rattle.oci_types.specs.Text.{Text}
use Rattle.registry_model.specs.World.{text_cmp}
use Rattle.registry_model.specs.Keeping.{digests_shown}
use Rattle.order_carrying.specs.declared.naming.Namers.{Namers}

-- those that name the digest
abbrev pub namers_in : Namers → Text → List Text
namers_in n digest = option_map_or digests_shown (get text_cmp n.manifests digest) []

-- the manifest is the last of them
abbrev pub is_last : List Text → Text → Bool
is_last manifests manifest =
    option_map_or (λ last. bytes_eq last manifest) (slice_get manifests (length manifests - 1)) false

-- with the manifest behind them, unless it is the last of them
abbrev pub with_namer : List Text → Text → List Text
with_namer manifests manifest =
    if is_last manifests manifest then manifests else manifests ++ manifest ∷ []

-- it is put behind those that name each digest of which the test says so, and the others stay
abbrev pub IsPut : Text → (Text → Bool) → Namers → Namers → Type 0
IsPut manifest is_named old new = (digest : Text) → namers_in new digest
    ≡ (if is_named digest then with_namer (namers_in old digest) manifest else namers_in old digest)
