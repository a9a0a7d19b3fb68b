-- A list with commas between its texts, and one text more.
use Rattle.std.proofs.Common.{◌≡◌, List, [], ◌∷◌, ◌++◌, map, Bool, true, false, codes, length, string_bytes, refl, sym, ap, ◌∙◌, append_assoc}
use Rattle.std.proofs.lemmas.Bool.{true≢false}
use Rattle.std.proofs.lemmas.List.{map-append}
use Rattle.oci_types.specs.Text.{Text}
use Rattle.oci_types.specs.Json.{with_commas}
use Rattle.oci_types.specs.Member.{Pairs, pairs_of}
use Rattle.oci_types.specs.Referrers.{pair_line, annotations_line}
use Rattle.oci_documents.specs.Referrers.{separator, has_none}
use Rattle.oci_documents.proofs.Texts.{TextEntry}

one_more : (ts : List Text) (t : Text) → with_commas ts ++ (separator (has_none ts) ++ t) ≡ with_commas (ts ++ t ∷ [])
one_more [] t = refl
one_more (u ∷ []) t = refl
one_more (u ∷ v ∷ ts) t = append_assoc u (44 ∷ with_commas (v ∷ ts)) (44 ∷ t) ∙ ap (λ (x : Text). u ++ 44 ∷ x) (one_more (v ∷ ts) t)

pub none_shown : {A B : Type 0} (show : A → B) (xs : List A) → has_none xs ≡ has_none (map show xs)
none_shown show [] = refl
none_shown show (x ∷ xs) = refl

pub has_one : {A : Type 0} (xs : List A) (x : A) → false ≡ has_none (xs ++ x ∷ [])
has_one [] x = refl
has_one (y ∷ xs) x = refl

pub line_more : {A : Type 0} (line : A → Text) (xs : List A) (x : A) (is_first : Bool) → is_first ≡ has_none xs
    → with_commas (map line xs) ++ (separator is_first ++ line x) ≡ with_commas (map line (xs ++ x ∷ []))
line_more line xs x is_first is =
    ap (λ b. with_commas (map line xs) ++ (separator b ++ line x)) (is ∙ none_shown line xs) ∙ one_more (map line xs) (line x) ∙ ap with_commas (sym (map-append line xs (x ∷ [])))

-- one more annotation
pub pair_more : (es : List TextEntry) (e : TextEntry) (key text : Text) (is_first : Bool) → is_first ≡ has_none es → key ≡ string_bytes e.0 → text ≡ string_bytes e.1
    → with_commas (map pair_line (pairs_of es)) ++ (separator is_first ++ pair_line (key, text)) ≡ with_commas (map pair_line (pairs_of (es ++ e ∷ [])))
pair_more es e key text is_first is named told =
    line_more pair_line (pairs_of es) (key, text) is_first (is ∙ none_shown (λ e. (string_bytes e.0, string_bytes e.1)) es)
    ∙ ap (λ (ps : Pairs). with_commas (map pair_line (pairs_of es ++ ps))) (rw (named, told) refl)
    ∙ ap (λ (ps : Pairs). with_commas (map pair_line ps)) (sym (map-append (λ (e : TextEntry). (string_bytes e.0, string_bytes e.1)) es (e ∷ [])))

-- ---- annotations, where there are some

pub some_line : (es : List TextEntry) → (length es ≡ 0 → false ≡ true) → codes "\"annotations\":{" ++ (with_commas (map pair_line (pairs_of es)) ++ codes "},") ≡ annotations_line (pairs_of es)
some_line [] some = absurd (true≢false (sym (some refl)))
some_line (e ∷ es) some = refl
