-- Pages of tags (OCI Distribution Specification 1.1, Listing Tags; the order is by bytes, and what a page
-- number may be is the profile's).
use Rattle.std.specs.Prelude.{ℕ, ◌==◌, List, [], ◌++◌, Bool, false, ◌&&◌, nat_lt, length, take, filter, Option, Some, None, option_map, codes, decimal, if◌then◌else◌}
use Rattle.std.specs.List.{last_or}
use Rattle.std.specs.Ordering.{is_lt}
use Rattle.std.specs.FinMap.{keys}
use Rattle.oci_types.specs.Text.{Text}
use Rattle.oci_types.specs.Tags.{tags_line}
use Rattle.registry_model.specs.declared.refusal.Refusal.TheVariants.{InvalidPageSize}
use Rattle.registry_model.specs.declared.reply.Status.TheVariants.{OK}
use Rattle.registry_model.specs.World.{text_cmp, Repo}
use Rattle.registry_model.specs.Numbers.{number_in}
use Rattle.registry_model.specs.Answer.{Answer, bare_answer, sent}
use Rattle.registry_model.specs.Decision.{Decision, refuses, tells}

-- the repository's tags behind a text, in their order; it need not be a tag
abbrev pub tags_behind : Repo → Text → List Text
tags_behind r last = filter (λ tag. is_lt (text_cmp last tag)) (keys r.tags)

-- at most n of them
abbrev pub first_of : Option ℕ → List Text → List Text
first_of None tags = tags
first_of (Some n) tags = take n tags

-- more are left behind a page that is not empty by its size
abbrev pub more_than : Option ℕ → List Text → Bool
more_than None tags = false
more_than (Some n) tags = nat_lt 0 n && nat_lt n (length tags)

-- a page, and whether more follow
pub record Page : Type 0 where
  pub tags : List Text
  pub more : Bool

abbrev pub page_behind : Repo → Text → Option ℕ → Page
page_behind r last n =
    let tags = tags_behind r last in record { tags = first_of n tags; more = more_than n tags }

-- ---- the reply

-- where the next page begins (RFC 8288)
abbrev pub next_link : Text → ℕ → Text → Text
next_link name n last =
    codes "</v2/" ++ name ++ codes "/tags/list?n=" ++ decimal n ++ codes "&last=" ++ last
    ++ codes ">; rel=\"next\""

abbrev pub link_by : Text → Option ℕ → Option Text → Option Text
link_by name (Some n) (Some last) = Some (next_link name n last)
link_by name _ _ = None

abbrev pub link_behind : Text → Option ℕ → Page → Option Text
link_behind name n page = if page.more then link_by name n (last_or None page.tags) else None

abbrev pub tags_reply : Text → Option ℕ → Page → Answer
tags_reply name n page = record (bare_answer OK) {
  content_type = Some (codes "application/json");
  link = link_behind name n page;
  body = sent (tags_line name page.tags);
}

-- a page size that is missing or empty bounds nothing
abbrev pub size_in : Option Text → Option (Option ℕ)
size_in None = Some None
size_in (Some t) = if length t == 0 then Some None else option_map Some (number_in t)

-- what is missing is before all tags
abbrev pub text_or_empty : Option Text → Text
text_or_empty None = []
text_or_empty (Some t) = t

abbrev pub list_page : Repo → Text → Option Text → Option (Option ℕ) → Decision
list_page r name last None = refuses InvalidPageSize
list_page r name last (Some n) = tells (tags_reply name n (page_behind r (text_or_empty last) n))

abbrev pub list_tags : Repo → Text → Option Text → Option Text → Decision
list_tags r name n last = list_page r name last (size_in n)
