-- No change touches the schema, or a table beside the registry's.
use Rattle.std.proofs.Common.{◌≡◌, ◌∙◌, ℕ, List, [], ◌∷◌, ap, refl}
use Rattle.oci_types.specs.Text.{Text}
use Rattle.store_contents.specs.Layouts.{Layout, InTables, InPack}
use Rattle.store_statements.specs.Keys.{has_key}
use Rattle.store_statements.specs.Tables.{Tables}
use Rattle.store_statements.specs.Steps.{blobs_without}
use Rattle.store_writes.specs.declared.change.Change.{Change}
use Rattle.store_writes.specs.declared.change.Change.TheVariants.{AddBlob, AddLink, TakeBlob, TakeBlobs, AddManifest, SetTag, TakeManifest, TakeTag, SetLevel, TakeLevel, TakeLevels, SetRepo, SetLast, DropRepo, Session, Clear, ClearPack}
use Rattle.store_writes.specs.declared.session_change.SessionChange.{SessionChange}
use Rattle.store_writes.specs.declared.session_change.SessionChange.TheVariants.{Open, Append, Finish, Link, Take, TakeAll}
use Rattle.store_writes.specs.Changing.{Makes, IsInPack, IsInTables}
use Rattle.store_writes.specs.Deleting.{without_blob_links}
use Rattle.store_writes.specs.SessionChanging.{SessionMakes}

links_gone : (name : Text) (digests : List Text) (t : Tables) → (without_blob_links name digests t).beside ≡ t.beside
links_gone name [] t = refl
links_gone name (digest ∷ digests) t = links_gone name digests (blobs_without (has_key name digest) t)

session_kept : (l : Layout) (change : SessionChange) (t u : Tables) → SessionMakes l change t u → u.beside ≡ t.beside
session_kept l (Open repo number) t u it = ap (λ (x : Tables). x.beside) it.others
session_kept l (Append alloc repo number size bytes hash) t u it = ap (λ (x : Tables). x.beside) it.others
session_kept l (Finish alloc repo number digest bytes) t u it = ap (λ (x : Tables). x.beside) it.others
session_kept l (Link repo number digest link) t u it = ap (λ (x : Tables). x.beside) it.others
session_kept l (Take repo number) t u it = ap (λ (x : Tables). x.beside) it
session_kept l (TakeAll repo) t u it = ap (λ (x : Tables). x.beside) it

pub schema_kept : (l : Layout) (change : Change) (t u : Tables) → Makes l change t u → u.beside ≡ t.beside
schema_kept l (AddBlob alloc repo digest bytes) t u it = ap (λ (x : Tables). x.beside) it.others
schema_kept l (AddLink repo digest link) t u it = ap (λ (x : Tables). x.beside) it.others
schema_kept l (TakeBlob repo digest) t u it = ap (λ (x : Tables). x.beside) it
schema_kept l (TakeBlobs repo digests) t u it = ap (λ (x : Tables). x.beside) it ∙ links_gone repo.now digests.now t
schema_kept l (AddManifest alloc repo digest bytes manifest tag) t u it = it.1
schema_kept l (SetTag repo tag digest) t u it = it.1
schema_kept l (TakeManifest repo digest) t u it = ap (λ (x : Tables). x.beside) it
schema_kept l (TakeTag repo tag) t u it = ap (λ (x : Tables). x.beside) it
schema_kept l (SetLevel token repo level) t u it = ap (λ (x : Tables). x.beside) it.others
schema_kept l (TakeLevel token repo) t u it = ap (λ (x : Tables). x.beside) it
schema_kept l (TakeLevels token) t u it = ap (λ (x : Tables). x.beside) it
schema_kept l (SetRepo repo quota) t u it = ap (λ (x : Tables). x.beside) it.others
schema_kept l (SetLast repo number) t u it = ap (λ (x : Tables). x.beside) it
schema_kept l (DropRepo repo) t u it = ap (λ (x : Tables). x.beside) it
schema_kept l (Session change) t u it = session_kept l change t u it
schema_kept l (Clear alloc) t u it = ap (λ (x : Tables). x.beside) it.others
schema_kept l (ClearPack alloc) t u it = ap (λ (x : Tables). x.beside) it.0.others

-- what is so where bytes are in the tables
pub only_in_tables : (P : Layout → Type 0) → P InTables → (l : Layout) → IsInTables l → P l
only_in_tables P p InTables is = p
only_in_tables P p (InPack file) is = absurd is

-- and where they are in a pack
pub only_in_pack : (P : Layout → Type 0) → ((file : List ℕ) → P (InPack file)) → (l : Layout) → IsInPack l → P l
only_in_pack P p InTables is = absurd is
only_in_pack P p (InPack file) is = p file
