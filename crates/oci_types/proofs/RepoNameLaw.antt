-- Repository names: the test decides the grammar.
use Rattle.std.proofs.Common.{◌≡◌, ℕ, Bool, true, false, cond, [], ◌∷◌, ◌++◌, inl, inr, ◌||◌, ◌==◌, refl, ap, ◌∙◌, length, nat_le}
use Rattle.std.specs.Prelude.{◌↔◌}
use Rattle.std.proofs.lemmas.Bool.{and_parts, and_from, or_cases, leb-true, le-leb, eqb-true, false≢true}
use Rattle.oci_types.specs.Text.{Text}
use Rattle.oci_types.specs.Byte.{is_lowercase_or_digit}
use Rattle.oci_types.specs.Language.{Language, IsIn, one, many, both, either, some, byte}
use Rattle.oci_types.specs.RepoName.{IsRepoName, is_repo_name, is_path, is_end, place_after, path, component, word, separator}
use Rattle.oci_types.specs.declared.repo_name.Place.{Place}
use Rattle.oci_types.specs.declared.repo_name.Place.TheVariants.{Start, Word, Underscore, Dashes, Outside}
use Rattle.oci_types.proofs.Languages.{none, not_in_none, cons, regroup, ungroup, many-none, many-more, skip, more, Leads, leads-one, leads-both, leads-either, leads-many, leads-weaker, is_in_rest}

-- ---- what the test takes is a path

abbrev letter : Language
letter = one is_lowercase_or_digit

-- more words of a component
abbrev words : Language
words = many (both separator word)

-- more components of a path
abbrev components : Language
components = many (both (byte 47) component)

-- what may follow within a word
abbrev in_word : Language
in_word = both (many letter) (both words components)

-- what is left to read at each place
abbrev rest : Place → Language
rest Start = path
rest Word = in_word
rest Underscore = either path (both (byte 95) path)
rest Dashes = both (many (byte 45)) path
rest Outside = none

begin_word : (b : ℕ) (t : Text) → is_lowercase_or_digit b ≡ true → IsIn in_word t → IsIn path (b ∷ t)
begin_word b t h i =
    regroup word words components (b ∷ t)
    (regroup letter (many letter) (both words components) (b ∷ t) (cons is_lowercase_or_digit in_word b t h i))

-- a separator and a path after a word
separated : (u t : Text) → IsIn separator u → IsIn path t → IsIn in_word (u ++ t)
unfolding IsIn
separated u t i j =
    skip letter (both words components) (u ++ t)
    (more (both separator word) components (u ++ t)
    (regroup separator word (both words components) (u ++ t)
    (u, t, refl, i, ungroup word words components t j)))

-- a slash and a path after a word
after_slash : (t : Text) → IsIn path t → IsIn in_word (47 ∷ t)
after_slash t i =
    skip letter (both words components) (47 ∷ t)
    (skip (both separator word) components (47 ∷ t)
    (many-more (both (byte 47) component) (47 ∷ t)
    (regroup (byte 47) component components (47 ∷ t) (cons (λ b. b == 47) path 47 t refl i))))

after_underscore : (t : Text) → IsIn (rest Underscore) t → IsIn in_word (95 ∷ t)
unfolding IsIn
after_underscore t (inl i) = separated (95 ∷ []) t (inr (inl (95, refl, refl))) i
after_underscore t (inr (u, v, e, (b, h, f), i)) =
    let is_underscore : b ≡ 95 = eqb-true b 95 h in
    let whole : t ≡ 95 ∷ v = e ∙ ap (λ x. x ++ v) f ∙ ap (λ x. x ∷ v) is_underscore in
    rw whole (separated (95 ∷ 95 ∷ []) v (inr (inr (inl (95 ∷ [], 95 ∷ [], refl, (95, refl, refl), (95, refl, refl))))) i)

after_dash : (t : Text) → IsIn (rest Dashes) t → IsIn in_word (45 ∷ t)
unfolding IsIn
after_dash t (u, v, e, i, j) =
    rw e (separated (45 ∷ u) v (inr (inr (inr (cons (λ b. b == 45) (many (byte 45)) 45 u refl i)))) j)

-- the rest at the place that the byte b leads to, by the answers of the tests on b
step_in_word : (b : ℕ) (t : Text) (letters dot_or_slash underscore dash : Bool)
    → is_lowercase_or_digit b ≡ letters → (b == 46 || b == 47) ≡ dot_or_slash → (b == 95) ≡ underscore → (b == 45) ≡ dash
    → IsIn (rest (cond letters Word (cond dot_or_slash Start (cond underscore Underscore (cond dash Dashes Outside))))) t → IsIn in_word (b ∷ t)
unfolding IsIn
step_in_word b t true d u h is d_is u_is h_is i = more letter (both words components) (b ∷ t) (cons is_lowercase_or_digit in_word b t is i)
step_in_word b t false true u h is d_is u_is h_is i =
    elim (or_cases (b == 46) (b == 47) d_is) [
      | inl dot ↦ let e : b ≡ 46 = eqb-true b 46 dot in rw e (separated (46 ∷ []) t (inl (46, refl, refl)) i)
      | inr slash ↦ let e : b ≡ 47 = eqb-true b 47 slash in rw e (after_slash t i)
    ]
step_in_word b t false false true h is d_is u_is h_is i = let e : b ≡ 95 = eqb-true b 95 u_is in rw e (after_underscore t i)
step_in_word b t false false false true is d_is u_is h_is i = let e : b ≡ 45 = eqb-true b 45 h_is in rw e (after_dash t i)
step_in_word b t false false false false is d_is u_is h_is i = absurd (not_in_none t i)

step_at_start : (b : ℕ) (t : Text) (letters : Bool) → is_lowercase_or_digit b ≡ letters → IsIn (rest (cond letters Word Outside)) t → IsIn path (b ∷ t)
step_at_start b t true is i = begin_word b t is i
step_at_start b t false is i = absurd (not_in_none t i)

step_at_underscore : (b : ℕ) (t : Text) (letters underscore : Bool) → is_lowercase_or_digit b ≡ letters → (b == 95) ≡ underscore
    → IsIn (rest (cond letters Word (cond underscore Start Outside))) t → IsIn (rest Underscore) (b ∷ t)
unfolding IsIn
step_at_underscore b t true u is u_is i = inl (begin_word b t is i)
step_at_underscore b t false true is u_is i = inr (cons (λ c. c == 95) path b t u_is i)
step_at_underscore b t false false is u_is i = absurd (not_in_none t i)

step_at_dashes : (b : ℕ) (t : Text) (letters dash : Bool) → is_lowercase_or_digit b ≡ letters → (b == 45) ≡ dash
    → IsIn (rest (cond letters Word (cond dash Dashes Outside))) t → IsIn (rest Dashes) (b ∷ t)
unfolding IsIn
step_at_dashes b t true h is h_is i = skip (byte 45) path (b ∷ t) (begin_word b t is i)
step_at_dashes b t false true is h_is i = more (byte 45) path (b ∷ t) (cons (λ c. c == 45) (rest Dashes) b t h_is i)
step_at_dashes b t false false is h_is i = absurd (not_in_none t i)

steps : (s : Place) (b : ℕ) (t : Text) → IsIn (rest (place_after s b)) t → IsIn (rest s) (b ∷ t)
unfolding IsIn
steps Start b t i = step_at_start b t (is_lowercase_or_digit b) refl i
steps Word b t i = step_in_word b t (is_lowercase_or_digit b) (b == 46 || b == 47) (b == 95) (b == 45) refl refl refl refl i
steps Underscore b t i = step_at_underscore b t (is_lowercase_or_digit b) (b == 95) refl refl i
steps Dashes b t i = step_at_dashes b t (is_lowercase_or_digit b) (b == 45) refl refl i
steps Outside b t i = absurd (not_in_none t i)

ends : (s : Place) → is_end s ≡ true → IsIn (rest s) []
unfolding IsIn
ends Start h = absurd (false≢true h)
ends Word h = skip letter (both words components) [] (skip (both separator word) components [] (many-none (both (byte 47) component)))
ends Underscore h = absurd (false≢true h)
ends Dashes h = absurd (false≢true h)
ends Outside h = absurd (false≢true h)

-- ---- a path is taken by the test

abbrev IsWord : Place → Type 0
IsWord s = s ≡ Word

-- a word may begin there
abbrev BeginsWord : Place → Type 0
BeginsWord s = (b : ℕ) → is_lowercase_or_digit b ≡ true → place_after s b ≡ Word

begins_start : BeginsWord Start
begins_start b h = ap (λ x. cond x Word Outside) h

begins_underscore : BeginsWord Underscore
begins_underscore b h = ap (λ x. cond x Word (cond (b == 95) Start Outside)) h

begins_dashes : BeginsWord Dashes
begins_dashes b h = ap (λ x. cond x Word (cond (b == 45) Dashes Outside)) h

begins_word : BeginsWord Word
begins_word b h = ap (λ x. cond x Word (cond (b == 46 || b == 47) Start (cond (b == 95) Underscore (cond (b == 45) Dashes Outside)))) h

word_leads : (s : Place) → BeginsWord s → Leads place_after is_end word s IsWord
word_leads s begins =
    leads-both place_after is_end letter (many letter) s IsWord IsWord
    (leads-one place_after is_end is_lowercase_or_digit s IsWord begins)
    (λ r at. leads-many place_after is_end letter r IsWord at
    (λ q in_q. leads-one place_after is_end is_lowercase_or_digit q IsWord (λ b h. ap (λ x. place_after x b) in_q ∙ begins_word b h)))

-- one byte leads from the place s to the place r
byte_leads : (c : ℕ) (s r : Place) (Q : Place → Type 0) → place_after s c ≡ r → Q r → Leads place_after is_end (byte c) s Q
byte_leads c s r Q to q =
    leads-one place_after is_end (λ b. b == c) s Q (λ b h. let e : b ≡ c = eqb-true b c h in rw (e, to) q)

dashes_lead : (s : Place) → s ≡ Dashes → Leads place_after is_end (many (byte 45)) s (λ r. r ≡ Dashes)
dashes_lead s at =
    leads-many place_after is_end (byte 45) s (λ r. r ≡ Dashes) at
    (λ r in_r. byte_leads 45 r Dashes (λ q. q ≡ Dashes) (ap (λ x. place_after x 45) in_r) refl)

separator_leads : (s : Place) → IsWord s → Leads place_after is_end separator s BeginsWord
separator_leads s at =
    leads-either place_after is_end (byte 46) (either (byte 95) (either (both (byte 95) (byte 95)) (some (byte 45)))) s BeginsWord (from_word 46 Start refl begins_start)
    (leads-either place_after is_end (byte 95) (either (both (byte 95) (byte 95)) (some (byte 45))) s BeginsWord (from_word 95 Underscore refl begins_underscore)
    (leads-either place_after is_end (both (byte 95) (byte 95)) (some (byte 45)) s BeginsWord
    (leads-both place_after is_end (byte 95) (byte 95) s (λ r. r ≡ Underscore) BeginsWord (from_word_to 95 Underscore refl)
    (λ r in_r. byte_leads 95 r Start BeginsWord (ap (λ x. place_after x 95) in_r) begins_start))
    (leads-weaker place_after is_end (some (byte 45)) s (λ r. r ≡ Dashes) BeginsWord (λ r e. rw e begins_dashes)
    (leads-both place_after is_end (byte 45) (many (byte 45)) s (λ r. r ≡ Dashes) (λ r. r ≡ Dashes) (from_word_to 45 Dashes refl) dashes_lead))))
  where
    from_word : (c : ℕ) (r : Place) → place_after Word c ≡ r → BeginsWord r → Leads place_after is_end (byte c) s BeginsWord
    from_word c r to q = byte_leads c s r BeginsWord (ap (λ x. place_after x c) at ∙ to) q

    from_word_to : (c : ℕ) (r : Place) → place_after Word c ≡ r → Leads place_after is_end (byte c) s (λ q. q ≡ r)
    from_word_to c r to = byte_leads c s r (λ q. q ≡ r) (ap (λ x. place_after x c) at ∙ to) refl

component_leads : (s : Place) → BeginsWord s → Leads place_after is_end component s IsWord
component_leads s begins =
    leads-both place_after is_end word words s IsWord IsWord (word_leads s begins)
    (λ r at. leads-many place_after is_end (both separator word) r IsWord at
    (λ q in_q. leads-both place_after is_end separator word q BeginsWord IsWord (separator_leads q in_q) word_leads))

path_leads : Leads place_after is_end path Start IsWord
path_leads =
    leads-both place_after is_end component components Start IsWord IsWord (component_leads Start begins_start)
    (λ r at. leads-many place_after is_end (both (byte 47) component) r IsWord at
    (λ q in_q. leads-both place_after is_end (byte 47) component q BeginsWord IsWord
    (byte_leads 47 q Start BeginsWord (ap (λ x. place_after x 47) in_q) begins_start) component_leads))

-- ---- both

pub is_repo_name_decides : (t : Text) → (is_repo_name t ≡ true) ↔ IsRepoName t
is_repo_name_decides t = (
  λ h. let parts = and_parts (nat_le (length t) 255) (is_path t) h in
      (is_in_rest place_after is_end rest ends steps t Start parts.1, leb-true (length t) 255 parts.0),
  λ i. and_from (nat_le (length t) 255) (is_path t) (le-leb (length t) 255 i.1) (ap is_end (path_leads t i.0)),
)
