-- Tags: the test decides the grammar.
use Rattle.std.proofs.Common.{◌≡◌, true, [], ◌∷◌, ◌++◌, ap, ◌∙◌, length, nat_le}
use Rattle.std.specs.Prelude.{◌↔◌}
use Rattle.std.specs.List.{list_all}
use Rattle.std.proofs.lemmas.Bool.{and_parts, and_from, leb-true, le-leb, false≢true}
use Rattle.oci_types.specs.Text.{Text}
use Rattle.oci_types.specs.Language.{IsIn, one, many}
use Rattle.oci_types.specs.Tag.{IsTag, is_tag, are_tag_characters, tag_characters, is_tag_start, is_tag_character}
use Rattle.oci_types.proofs.Languages.{cons, many_one, list_all-many_one}

characters_in : (t : Text) → are_tag_characters t ≡ true → IsIn tag_characters t
unfolding IsIn
characters_in [] h = absurd (false≢true h)
characters_in (b ∷ t) h =
    let parts = and_parts (is_tag_start b) (list_all is_tag_character t) h in
    cons is_tag_start (many (one is_tag_character)) b t parts.0 (many_one is_tag_character t parts.1)

in_characters : (t : Text) → IsIn tag_characters t → are_tag_characters t ≡ true
unfolding IsIn
in_characters t (u, v, e, (b, h, f), j) =
    let whole : t ≡ b ∷ v = e ∙ ap (λ x. x ++ v) f in
    rw whole (and_from (is_tag_start b) (list_all is_tag_character v) h (list_all-many_one is_tag_character v j))

pub is_tag_decides : (t : Text) → (is_tag t ≡ true) ↔ IsTag t
is_tag_decides t = (
  λ h. let parts = and_parts (nat_le (length t) 128) (are_tag_characters t) h in
      (characters_in t parts.1, leb-true (length t) 128 parts.0),
  λ i. and_from (nat_le (length t) 128) (are_tag_characters t) (le-leb (length t) 128 i.1) (in_characters t i.0),
)
