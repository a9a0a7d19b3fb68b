-- What each change of upload sessions asks of its values and of the tables, and what it makes of them.
use Rattle.std.specs.Prelude.{◌≡◌, ◌<◌, ◌+◌, ◌^◌, ⊤, true, find, None, IfSome}
use Rattle.sha2.specs.Sha256.{sha256}
use Rattle.oci_types.specs.Digest.{matches}
use Rattle.store_contents.specs.Layouts.{Layout}
use Rattle.store_places.specs.Source.{Fits, IfBytes, Suits, runs_in, size_in, text_in}
use Rattle.store_statements.specs.Keys.{of_first, of_session, has_key, has_start}
use Rattle.store_statements.specs.Tables.{Tables}
use Rattle.store_statements.specs.Steps.{sessions_without, SessionOpened, Appended, Finished}
use Rattle.store_writes.specs.declared.session_change.SessionChange.{SessionChange}
use Rattle.store_writes.specs.declared.session_change.SessionChange.TheVariants.{Open, Append, Finish, Link, Take, TakeAll}
use Rattle.store_writes.specs.Whole.{WholeEnds}

-- numbers fit a column, and bytes match their digest
abbrev pub SessionFits : SessionChange → Type 0
SessionFits (Open repo number) = number < 2 ^ 63
SessionFits (Append alloc repo number size source hash) =
    (number < 2 ^ 63) × (size + size_in source < 2 ^ 63) × Fits source
    × IfBytes (λ bytes. IfSome hash (λ h. h ≡ sha256 bytes)) source
SessionFits (Finish alloc repo number digest source) =
    (number < 2 ^ 63) × Fits source × (size_in source < 2 ^ 63)
    × IfBytes (λ bytes. matches digest.now bytes ≡ true) source
SessionFits (Link repo number digest link) = (number < 2 ^ 63) × (link.size < 2 ^ 63)
SessionFits (Take repo number) = number < 2 ^ 63
SessionFits (TakeAll repo) = ⊤

-- the bytes that come are where the layout has bytes
abbrev pub SessionSuits : Layout → SessionChange → Type 0
SessionSuits l (Append alloc repo number size source hash) = Suits l source
SessionSuits l (Finish alloc repo number digest source) = Suits l source
SessionSuits l _ = ⊤

-- what comes is not there
abbrev pub SessionAsks : SessionChange → Tables → Type 0
SessionAsks (Open repo number) t = find (of_session repo.now number) t.uploads ≡ None
SessionAsks (Append alloc repo number size source hash) t =
    find (has_start repo.now number size) t.pieces ≡ None
SessionAsks (Finish alloc repo number digest source) t = find (has_key repo.now digest.now) t.blobs ≡ None
SessionAsks (Link repo number digest link) t = find (has_key repo.now digest.now) t.blobs ≡ None
SessionAsks (Take repo number) t = ⊤
SessionAsks (TakeAll repo) t = ⊤

-- of the tables before and after
abbrev pub SessionMakes : Layout → SessionChange → Tables → Tables → Type 0
SessionMakes l (Open repo number) t u = SessionOpened t u repo.now number
SessionMakes l (Append alloc repo number size source hash) t u =
    Appended t u repo.now number size (text_in l source) (runs_in source)
SessionMakes l (Finish alloc repo number digest source) t u =
    Finished t u repo.now number digest.now (text_in l source) (runs_in source)
SessionMakes l (Link repo number digest link) t u = WholeEnds t u repo.now number digest.now link
SessionMakes l (Take repo number) t u = u ≡ sessions_without (of_session repo.now number) t
SessionMakes l (TakeAll repo) t u = u ≡ sessions_without (of_first repo.now) t
