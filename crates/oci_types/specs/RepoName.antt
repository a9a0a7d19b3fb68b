-- Repository names (OCI Distribution Specification 1.1, Pulling manifests; the limit of 255 bytes is
-- the profile's).
use Rattle.std.specs.Prelude.{ℕ, Bool, true, false, ◌==◌, ◌||◌, ◌&&◌, nat_le, if◌then◌else◌, length, ◌≤◌}
use Rattle.std.specs.List.{fold}
use Rattle.oci_types.specs.Text.{Text}
use Rattle.oci_types.specs.Byte.{is_lowercase_or_digit}
use Rattle.oci_types.specs.Language.{Language, IsIn, both, either, many, some, one, byte}
use Rattle.oci_types.specs.declared.repo_name.Place.{Place}
use Rattle.oci_types.specs.declared.repo_name.Place.TheVariants.{Start, Word, Underscore, Dashes, Outside}

-- `[a-z0-9]+`
abbrev pub word : Language
word = some (one is_lowercase_or_digit)

-- `\.|_|__|-+`
abbrev pub separator : Language
separator = either (byte 46) (either (byte 95) (either (both (byte 95) (byte 95)) (some (byte 45))))

-- words with separators between them: `[a-z0-9]+((\.|_|__|-+)[a-z0-9]+)*`
abbrev pub component : Language
component = both word (many (both separator word))

-- components with `/` between them
abbrev pub path : Language
path = both component (many (both (byte 47) component))

-- a repository name: a path of at most 255 bytes
abbrev pub IsRepoName : Text → Type 0
IsRepoName t = IsIn path t × (length t ≤ 255)

-- ---- the test

-- where one more byte leads
abbrev pub place_after : Place → ℕ → Place
place_after Start b = if is_lowercase_or_digit b then Word else Outside
place_after Word b =
    if is_lowercase_or_digit b then Word
    else if b == 46 || b == 47 then Start
    else if b == 95 then Underscore
    else if b == 45 then Dashes
    else Outside
place_after Underscore b = if is_lowercase_or_digit b then Word else if b == 95 then Start else Outside
place_after Dashes b = if is_lowercase_or_digit b then Word else if b == 45 then Dashes else Outside
place_after Outside b = Outside

-- a path may end there
abbrev pub is_end : Place → Bool
is_end Word = true
is_end _ = false

-- the text is a path
abbrev pub is_path : Text → Bool
is_path t = is_end (fold place_after Start t)

abbrev pub is_repo_name : Text → Bool
is_repo_name t = nat_le (length t) 255 && is_path t
