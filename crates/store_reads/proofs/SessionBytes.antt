-- The bytes of an upload session, from its row and its pieces.
use Rattle.std.proofs.Common.{◌≡◌, ◌∙◌, ℕ, List, map, None, Some, Ok, Err, Result, IfOk, sym, ap, refl}
use Rattle.std.specs.declared.alloc.Global.{Global}
use Rattle.std.specs.Prelude.{Vec, Option, find, option_map}
use Rattle.std.specs.List.{concat}
use Rattle.sqlite.specs.Effect.{Database}
use Rattle.sqlite.specs.Order.{Row}
use Rattle.sqlite_trees.proofs.ListLemmas.{map-map}
use Rattle.oci_types.specs.Text.{Text}
use Rattle.oci_types.specs.declared.fault.Fault.{Fault}
use Rattle.registry_model.specs.Lookups.{session_at}
use Rattle.store_schema.specs.Rows.{natural_at}
use Rattle.store_contents.specs.declared.content_id.ContentId.{ContentId}
use Rattle.store_contents.specs.Layouts.{Layout, contents_in}
use Rattle.store_statements.specs.Keys.{of_session}
use Rattle.store_statements.specs.Tables.{Tables}
use Rattle.store_statements.specs.Registry.{IsRegistry}
use Rattle.store_statements.specs.World.{content_at, joined, pieces_of, world_of}
use Rattle.store_statements.proofs.SessionReads.{session_at_found}
use Rattle.store_statements.specs.Held.{tables_in}
use Rattle.store_statements.specs.Shown.{content_named}

-- the contents that the pieces name, of a database that stays
pub pieces_joined : (l : Layout) → (old mid : Database) (pieces : List Row) (ids : List ContentId) (r : Result (Vec ℕ Global) Fault) → mid ≡ old → ids ≡ map (content_named 5) pieces
    → IfOk r (λ bytes. bytes.items ≡ concat (map (λ id. content_at (contents_in l mid) id.id) ids)) → IfOk r (λ bytes. bytes.items ≡ joined (contents_in l old) pieces)
pieces_joined l old mid pieces ids (Err e) same named h = tt
pieces_joined l old mid pieces ids (Ok bytes) same named h =
    h ∙ ap (λ db. concat (map (λ (id : ContentId). content_at (contents_in l db) id.id) ids)) same ∙ ap (λ xs. concat (map (λ (id : ContentId). content_at (contents_in l old) id.id) xs)) named
    ∙ ap concat (map-map (λ (id : ContentId). content_at (contents_in l old) id.id) (content_named 5) pieces)

twice : {X : Type 0} (f : Row → ℕ) (x : X) (o : Option Row) → option_map (λ n. x) (option_map f o) ≡ option_map (λ r. x) o
twice f x None = refl
twice f x (Some r) = refl

-- a session is there where its size was found
found_where : (t : Tables) (name : Text) (number : ℕ) (size : Option ℕ) → IsRegistry t → size ≡ option_map (λ r. natural_at r 3) (find (of_session name number) t.uploads)
    → option_map (λ n. joined t.contents (pieces_of t.pieces name number)) size ≡ session_at (world_of t) name number
found_where t name number size is e =
    ap (option_map (λ n. joined t.contents (pieces_of t.pieces name number))) e ∙ twice (λ r. natural_at r 3) (joined t.contents (pieces_of t.pieces name number)) (find (of_session name number) t.uploads)
    ∙ sym (session_at_found t name number is)

pub session_none : (l : Layout) → (db : Database) (name given : Text) (number : ℕ) (size : Option ℕ) → IsRegistry (tables_in l db) → given ≡ name → size ≡ None
    → size ≡ option_map (λ r. natural_at r 3) (find (of_session given number) (tables_in l db).uploads) → None ≡ session_at (world_of (tables_in l db)) name number
session_none l db name given number size is named none e =
    ap (option_map (λ n. joined (contents_in l db) (pieces_of (tables_in l db).pieces given number))) (sym none) ∙ found_where (tables_in l db) given number size is e ∙ ap (λ q. session_at (world_of (tables_in l db)) q number) named

-- and its bytes, of a database that stays
pub session_some : (l : Layout) → (old mid : Database) (name given : Text) (number n : ℕ) (size : Option ℕ) (bytes : Text) → IsRegistry (tables_in l old) → given ≡ name → mid ≡ old → size ≡ Some n
    → size ≡ option_map (λ r. natural_at r 3) (find (of_session given number) (tables_in l old).uploads) → bytes ≡ joined (contents_in l mid) (pieces_of (tables_in l mid).pieces given number)
    → Some bytes ≡ session_at (world_of (tables_in l old)) name number
session_some l old mid name given number n size bytes is named same some e b =
    ap Some b ∙ ap (λ db. Some (joined (contents_in l db) (pieces_of (tables_in l db).pieces given number))) same
    ∙ ap (option_map (λ n. joined (contents_in l old) (pieces_of (tables_in l old).pieces given number))) (sym some) ∙ found_where (tables_in l old) given number size is e ∙ ap (λ q. session_at (world_of (tables_in l old)) q number) named
