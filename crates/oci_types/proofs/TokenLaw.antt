-- Tokens: the test decides the grammar.
use Rattle.std.proofs.Common.{◌≡◌, ℕ, Bool, true, false, cond, [], ◌∷◌, ◌==◌, refl, ap, ◌∙◌, length, nat_le}
use Rattle.std.specs.Prelude.{◌↔◌}
use Rattle.std.proofs.lemmas.Bool.{and_parts, and_from, leb-true, le-leb, eqb-true, false≢true}
use Rattle.oci_types.specs.Text.{Text}
use Rattle.oci_types.specs.Language.{Language, IsIn, one, many, both, some, byte}
use Rattle.oci_types.specs.Token.{IsToken, is_token, is_b64token, is_end, place_after, b64token, is_token_character}
use Rattle.oci_types.specs.declared.token.Place.{Place}
use Rattle.oci_types.specs.declared.token.Place.TheVariants.{Start, Character, Padding, Outside}
use Rattle.oci_types.proofs.Languages.{none, not_in_none, cons, regroup, many-none, many-more, skip, more, Leads, leads-one, leads-both, leads-many, is_in_rest}

-- ---- what the test takes is a token

abbrev character : Language
character = one is_token_character

-- what may follow a character
abbrev characters : Language
characters = both (many character) (many (byte 61))

-- what is left to read at each place
abbrev rest : Place → Language
rest Start = b64token
rest Character = characters
rest Padding = many (byte 61)
rest Outside = none

step_at_start : (b : ℕ) (t : Text) (is_character : Bool) → is_token_character b ≡ is_character
    → IsIn (rest (cond is_character Character Outside)) t → IsIn b64token (b ∷ t)
step_at_start b t true is i = regroup character (many character) (many (byte 61)) (b ∷ t) (cons is_token_character characters b t is i)
step_at_start b t false is i = absurd (not_in_none t i)

step_at_padding : (b : ℕ) (t : Text) (pads : Bool) → (b == 61) ≡ pads → IsIn (rest (cond pads Padding Outside)) t → IsIn (many (byte 61)) (b ∷ t)
step_at_padding b t true is i = many-more (byte 61) (b ∷ t) (cons (λ c. c == 61) (many (byte 61)) b t is i)
step_at_padding b t false is i = absurd (not_in_none t i)

step_at_character : (b : ℕ) (t : Text) (is_character pads : Bool) → is_token_character b ≡ is_character → (b == 61) ≡ pads
    → IsIn (rest (cond is_character Character (cond pads Padding Outside))) t → IsIn characters (b ∷ t)
step_at_character b t true pads is pads_is i = more character (many (byte 61)) (b ∷ t) (cons is_token_character characters b t is i)
step_at_character b t false pads is pads_is i = skip character (many (byte 61)) (b ∷ t) (step_at_padding b t pads pads_is i)

steps : (s : Place) (b : ℕ) (t : Text) → IsIn (rest (place_after s b)) t → IsIn (rest s) (b ∷ t)
steps Start b t i = step_at_start b t (is_token_character b) refl i
steps Character b t i = step_at_character b t (is_token_character b) (b == 61) refl refl i
steps Padding b t i = step_at_padding b t (b == 61) refl i
steps Outside b t i = absurd (not_in_none t i)

ends : (s : Place) → is_end s ≡ true → IsIn (rest s) []
ends Start h = absurd (false≢true h)
ends Character h = skip character (many (byte 61)) [] (many-none (byte 61))
ends Padding h = many-none (byte 61)
ends Outside h = absurd (false≢true h)

-- ---- a token is taken by the test

abbrev IsCharacter : Place → Type 0
IsCharacter s = s ≡ Character

-- padding may follow there, and the token may end
abbrev MayPad : Place → Type 0
MayPad s = (place_after s 61 ≡ Padding) × (is_end s ≡ true)

character_leads : (s : Place) → ((b : ℕ) → is_token_character b ≡ true → place_after s b ≡ Character) → Leads place_after is_end character s IsCharacter
character_leads s begins = leads-one place_after is_end is_token_character s IsCharacter begins

again : (s : Place) → IsCharacter s → Leads place_after is_end character s IsCharacter
again s at =
    character_leads s (λ b h. ap (λ x. place_after x b) at ∙ ap (λ x. cond x Character (cond (b == 61) Padding Outside)) h)

pad_leads : (s : Place) → MayPad s → Leads place_after is_end (byte 61) s MayPad
pad_leads s may =
    leads-one place_after is_end (λ b. b == 61) s MayPad
    (λ b h. let e : b ≡ 61 = eqb-true b 61 h in rw (e, may.0) (refl, refl))

token_leads : Leads place_after is_end b64token Start MayPad
token_leads =
    leads-both place_after is_end (some character) (many (byte 61)) Start IsCharacter MayPad
    (leads-both place_after is_end character (many character) Start IsCharacter IsCharacter
    (character_leads Start (λ b h. ap (λ x. cond x Character Outside) h))
    (λ r at. leads-many place_after is_end character r IsCharacter at again))
    (λ r at. leads-many place_after is_end (byte 61) r MayPad (ap (λ x. place_after x 61) at, ap is_end at) pad_leads)

-- ---- both

pub is_token_decides : (t : Text) → (is_token t ≡ true) ↔ IsToken t
is_token_decides t = (
  λ h. let parts = and_parts (nat_le (length t) 200) (is_b64token t) h in
      (is_in_rest place_after is_end rest ends steps t Start parts.1, leb-true (length t) 200 parts.0),
  λ i. and_from (nat_le (length t) 200) (is_b64token t) (le-leb (length t) 200 i.1) (token_leads t i.0).1,
)
