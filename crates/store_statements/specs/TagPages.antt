-- Pages of tags, as rows show them.
use Rattle.std.specs.Prelude.{◌≡◌, ◌⊎◌, ℕ, ℤ, pos, negsuc, ◌+◌, ◌&&◌, Bool, false, nat_lt, List, map, take, filter, Option, None, Some}
use Rattle.std.specs.Ordering.{is_lt}
use Rattle.sqlite.specs.Order.{Row}
use Rattle.sqlite_keyed.specs.Lists.{sort_by}
use Rattle.oci_types.specs.Text.{Text}
use Rattle.registry_model.specs.World.{text_cmp}
use Rattle.store_schema.specs.Rows.{bytes_at}
use Rattle.store_statements.specs.Keys.{of_first}
use Rattle.store_statements.specs.ManifestShown.{by_second}

-- a tag of the repository that is behind a text
abbrev pub tag_behind : Text → Text → Row → Bool
tag_behind name last r = of_first name r && is_lt (text_cmp last (bytes_at r 2))

-- all tags of the repository behind the text, in their order
abbrev pub tags_behind : List Row → Text → Text → List Text
tags_behind tags name last = map (λ r. bytes_at r 2) (sort_by by_second (filter (tag_behind name last) tags))

-- ---- how many rows

-- one row more than the page may have is asked for, or all
abbrev pub IsEnough : Option ℕ → ℤ → Type 0
IsEnough None limit = limit ≡ negsuc 0
IsEnough (Some n) limit = (limit ≡ pos (n + 1)) ⊎ (limit ≡ negsuc 0)

abbrev pub first_rows : Option ℕ → List Row → List Row
first_rows None rows = rows
first_rows (Some n) rows = take n rows

abbrev pub are_more : Option ℕ → ℕ → Bool
are_more None count = false
are_more (Some n) count = nat_lt 0 n && nat_lt n count
