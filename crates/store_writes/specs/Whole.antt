-- Upload sessions of one piece: what is known of their bytes without reading them.
use Rattle.std.specs.Prelude.{◌≡◌, ℕ, Bool, true, false, List, [], ◌∷◌, map, find, length, Option, Some, None, is_some, if◌then◌else◌, Result, IfOk}
use Rattle.std.specs.Option.{option_and_then}
use Rattle.sqlite_trees.specs.declared.store.Store.{Ghosts}
use Rattle.sqlite.specs.State.{State, HasCleanDisk}
use Rattle.sqlite.specs.Held.{Held, state}
use Rattle.oci_types.specs.declared.fault.Fault.{Fault}
use Rattle.oci_types.specs.Text.{Text}
use Rattle.oci_types.specs.Digest.{matches}
use Rattle.registry_model.specs.World.{World}
use Rattle.registry_model.specs.Lookups.{session_at}
use Rattle.store_schema.specs.Rows.{natural_at}
use Rattle.store_contents.specs.declared.content_id.ContentId.{ContentId}
use Rattle.store_contents.specs.Layouts.{Layout}
use Rattle.store_statements.specs.Keys.{of_session}
use Rattle.store_statements.specs.Tables.{Tables}
use Rattle.store_statements.specs.World.{pieces_of, world_of}
use Rattle.store_statements.specs.declared.blobs.BlobLink.{BlobLink}
use Rattle.store_statements.specs.Shown.{content_named}
use Rattle.store_statements.specs.ContentShown.{has_sha256_digest}
use Rattle.store_statements.specs.Between.{Outcomes}
use Rattle.store_statements.specs.Held.{IsSettled, StaysSettled, SettlesOn, world_in}
use Rattle.store_statements.specs.Steps.{sessions_without}
use Rattle.store_statements.specs.StepsFrom.{LinkIsPut}

-- the link to the one content, of so many bytes
abbrev pub only_link : ℕ → List ContentId → Option BlobLink
only_link size [] = None
only_link size (content ∷ []) = Some (record { size = size; content = content })
only_link size (content ∷ other ∷ more) = None

-- of an open session of one piece, the link to its content
abbrev pub whole_link : Tables → Text → ℕ → Option BlobLink
whole_link t name number =
    option_and_then
    (λ r. only_link (natural_at r 3) (map (content_named 5) (pieces_of t.pieces name number)))
    (find (of_session name number) t.uploads)

-- where the content has the digest
abbrev pub if_digest : Tables → Text → BlobLink → Option BlobLink
if_digest t digest link =
    if has_sha256_digest (t.contents link.content.id) digest then Some link else None

-- of an open session of one piece that has the digest, the link to its content
abbrev pub known_link : Tables → Text → ℕ → Text → Option BlobLink
known_link t name number digest = option_and_then (λ link. if_digest t digest link) (whole_link t name number)

-- the content is the session's whole bytes, which match the digest
pub record IsKnown (t : Tables) (name : Text) (number : ℕ) (digest : Text) (link : BlobLink) : Type 0 where
  pub bytes : Text
  pub session : session_at (world_of t) name number ≡ Some bytes
  pub there : t.contents link.content.id ≡ Some bytes
  pub size : link.size ≡ length bytes
  pub matching : matches digest bytes ≡ true

-- the session ends, and its content is linked as a blob
abbrev pub WholeEnds : Tables → Tables → Text → ℕ → Text → BlobLink → Type 0
WholeEnds old new name number digest link =
    LinkIsPut (sessions_without (of_session name number) old) new name digest link.size link.content.id

-- where it was done, this was so and the world is that; where it was not, nothing changed
abbrev pub DoneWhereSo : Layout → Bool → State → State → (World → Bool) → (World → World) → Type 0
DoneWhereSo l true old new so f = (so (world_in l old) ≡ true) × SettlesOn l new (f (world_in l old))
DoneWhereSo l false old new so f = StaysSettled l old new

-- what an answer says of an outcome: where it was done the world is that, else it is as it was
abbrev pub ToldWhereSo : Layout → Bool → State → World → World → Type 0
ToldWhereSo l true s was made = SettlesOn l s made
ToldWhereSo l false s was made = SettlesOn l s was

-- A crash leaves the world as it was, or where this was so, that; as the answer says, where there is one.
abbrev pub CrashEnds : {S : Type 0} → Ghosts S → Layout → Held S → Held S → {A : Type 0}
    → Result (Option A) Fault → (World → Bool) → (World → World) → Type 0
CrashEnds g l old new r so f =
    HasCleanDisk (state g new) → IsSettled l (state g old)
    → Outcomes (state g old).now (state g new)
    (λ s. IfOk r
    (λ end. ToldWhereSo l (is_some end) s (world_in l (state g old)) (f (world_in l (state g old)))))
    (λ s. SettlesOn l s (world_in l (state g old)))
    (λ s. (so (world_in l (state g old)) ≡ true) × SettlesOn l s (f (world_in l (state g old))))
