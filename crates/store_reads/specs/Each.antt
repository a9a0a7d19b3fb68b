-- What is read behind each of several values.
use Rattle.std.specs.Prelude.{◌≡◌, ⊤, ℕ, List, [], ◌∷◌, Vec}
use Rattle.std.specs.declared.alloc.Global.{Global}
use Rattle.oci_types.specs.Text.{Text}
use Rattle.store_contents.specs.declared.content_id.ContentId.{ContentId}
use Rattle.store_statements.specs.Tables.{Tables}
use Rattle.store_statements.specs.World.{content_at}

-- each value is told of the one given at its place, and there are no others
abbrev pub AreTold : {A B : Type 0} → (A → B → Type 0) → List A → List B → Type 0
AreTold Told [] [] = ⊤
AreTold Told [] (v ∷ values) = ⊥
AreTold Told (x ∷ given) [] = ⊥
AreTold Told (x ∷ given) (v ∷ values) = Told x v × AreTold Told given values

-- with the digest go the bytes under the id
abbrev pub IsEntry : Tables → Text × ContentId → Text × Vec ℕ Global → Type 0
IsEntry t referrer entry = (entry.0 ≡ referrer.0) × (entry.1.items ≡ content_at t.contents referrer.1.id)
