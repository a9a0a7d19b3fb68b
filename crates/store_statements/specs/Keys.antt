-- By what a row is known in its table. Column 0 is the rowid; the others stand as the schema has them.
use Rattle.std.specs.Prelude.{ℕ, List, Bool, ◌&&◌, ◌==◌, bytes_eq}
use Rattle.sqlite.specs.Order.{Row}
use Rattle.store_schema.specs.Rows.{bytes_at, natural_at}

-- the repository in column 1: of repositories, tags, links, uploads and pieces. It is the token of grants.
abbrev pub of_first : List ℕ → Row → Bool
of_first text r = bytes_eq (bytes_at r 1) text

-- the repository in column 2: of grants. It is the tag of tags, and the digest of links.
abbrev pub of_second : List ℕ → Row → Bool
of_second text r = bytes_eq (bytes_at r 2) text

-- two texts: repository and tag, repository and digest, token and repository
abbrev pub has_key : List ℕ → List ℕ → Row → Bool
has_key a b r = of_first a r && of_second b r

-- the repository and the number of an upload session: of uploads and pieces
abbrev pub of_session : List ℕ → ℕ → Row → Bool
of_session name number r = of_first name r && natural_at r 2 == number

-- of pieces also where they begin
abbrev pub has_start : List ℕ → ℕ → ℕ → Row → Bool
has_start name number start r = of_session name number r && natural_at r 3 == start

-- a manifest's subject is the digest, in column 5
abbrev pub on_subject : List ℕ → List ℕ → Row → Bool
on_subject name digest r = of_first name r && bytes_eq (bytes_at r 5) digest

-- ---- two rows have one key

abbrev pub same_first : Row → Row → Bool
same_first a b = of_first (bytes_at a 1) b

abbrev pub same_key : Row → Row → Bool
same_key a b = has_key (bytes_at a 1) (bytes_at a 2) b

abbrev pub same_session : Row → Row → Bool
same_session a b = of_session (bytes_at a 1) (natural_at a 2) b

abbrev pub same_start : Row → Row → Bool
same_start a b = has_start (bytes_at a 1) (natural_at a 2) (natural_at a 3) b
