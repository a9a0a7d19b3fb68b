-- The body of a list of referrers, as far as it is written.
use Rattle.std.specs.Prelude.{◌≡◌, ℕ, List, [], ◌∷◌, ◌++◌, Bool, true, false, map, codes, decimal, if◌then◌else◌}
use Rattle.oci_types.specs.Text.{Text}
use Rattle.oci_types.specs.Json.{quoted, with_commas}
use Rattle.oci_types.specs.Kind.{media_type_of}
use Rattle.oci_types.specs.Referrers.{ReferrerShown, referrer_line}
use Rattle.oci_documents.specs.declared.referrers.ReferrersBody.{ReferrersBody}

-- what stands before the next of a list
abbrev pub separator : Bool → Text
separator is_first = if is_first then [] else (44 ∷ [])

-- the members that a referrer always has, and its end
abbrev pub fixed_line : ReferrerShown → Text
fixed_line r =
    codes "\"digest\":" ++ (quoted r.digest
    ++ (codes ",\"mediaType\":" ++ (quoted (media_type_of r.kind)
    ++ (codes ",\"size\":" ++ (decimal r.size ++ codes "}")))))

abbrev pub has_none : {A : Type 0} → List A → Bool
has_none [] = true
has_none (x ∷ xs) = false

-- {"manifests":[REFERRER,..
abbrev pub begun_line : List ReferrerShown → Text
begun_line rs = codes "{\"manifests\":[" ++ with_commas (map referrer_line rs)

-- these are listed so far, and nothing else was taken
pub record Lists {S : Type 0} (took : S → Text → Type 0)
    (body : ReferrersBody S) (rs : List ReferrerShown) : Type 0 where
  pub text : took body.out (begun_line rs)
  pub is_empty : body.is_empty ≡ has_none rs
