-- The texts of replies: no value that is written has a float, and each is written as its line.
use Rattle.std.proofs.Common.{◌≡◌, List, [], ◌∷◌, ◌++◌, map, codes, true, false, Result, Ok, Err, string_bytes, String, Global, refl, sym, ap, ◌∙◌, append_assoc}
use Rattle.std.specs.Prelude.{IfOk, IsOkAnd}
use Rattle.std.specs.declared.alloc.AllocError.{AllocError}
use Rattle.json.specs.Print.{quoted, escape_byte}
use Rattle.serde_json.specs.Data.{Data, string}
use Rattle.serde_json.specs.View.{view, items_of}
use Rattle.serde_json.specs.Written.{has_float, items_have_float, compact_text, items_text}
use Rattle.serde_json.specs.declared.value.Value.{Value}
use Rattle.oci_types.specs.declared.fault.Fault.{Fault}
use Rattle.oci_types.specs.Text.{Text}
use Rattle.oci_types.specs.Json.{with_commas}
use Rattle.oci_types.specs.Member.{text_items}
use Rattle.oci_types.specs.Errors.{error_data, error_line}
use Rattle.oci_types.specs.Tags.{tags_data, tags_line}

-- ---- what is written

pub whole : (value : Result Value AllocError) (d : Data) → IfOk value (λ v. view v ≡ d) → has_float d ≡ false → IfOk value (λ v. has_float (view v) ≡ false)
whole (Ok v) d is no_float = ap has_float is ∙ no_float
whole (Err e) d is no_float = tt

pub line_is : (value : Result Value AllocError) (text : Result (String Global) Fault) (d : Data) (line : Text) → IfOk value (λ v. view v ≡ d) → compact_text d ≡ line
    → IfOk text (λ s. IsOkAnd value (λ v. string_bytes s ≡ compact_text (view v))) → IfOk text (λ s. string_bytes s ≡ line)
line_is (Ok v) (Ok s) d line is written h = h ∙ ap compact_text is ∙ written
line_is (Err e) (Ok s) d line is written h = absurd h
line_is value (Err e) d line is written h = tt

-- ---- lists in general

after_item : (d : Data) (ds : List Data) → compact_text d ++ items_text true (items_of ds) ≡ with_commas (map compact_text (d ∷ ds)) ++ 93 ∷ []
after_item d [] = refl
after_item d (e ∷ es) = ap (λ (x : Text). compact_text d ++ 44 ∷ x) (after_item e es) ∙ sym (append_assoc (compact_text d) (44 ∷ with_commas (map compact_text (e ∷ es))) (93 ∷ []))

pub items_are : (ds : List Data) → items_text false (items_of ds) ≡ with_commas (map compact_text ds) ++ 93 ∷ []
items_are [] = refl
items_are (d ∷ ds) = after_item d ds

-- ---- errors

pub error_is : (code message : Text) → compact_text (error_data code message) ≡ error_line code message
unfolding escape_byte
error_is code message = simp append_assoc

-- ---- tags

texts_no_float : (ts : List Text) → items_have_float (text_items ts) ≡ false
texts_no_float [] = refl
texts_no_float (t ∷ ts) = texts_no_float ts

pub tags_no_float : (name : Text) (tags : List Text) → has_float (tags_data name tags) ≡ false
tags_no_float name tags = rw (texts_no_float tags) refl

quoted_all : (ts : List Text) → map compact_text (map string ts) ≡ map quoted ts
quoted_all [] = refl
quoted_all (t ∷ ts) = ap (λ (qs : List Text). quoted t ∷ qs) (quoted_all ts)

pub tags_are : (name : Text) (tags : List Text) → compact_text (tags_data name tags) ≡ tags_line name tags
unfolding escape_byte
tags_are name tags =
    let inner : items_text false (text_items tags) ++ 125 ∷ [] ≡ with_commas (map quoted tags) ++ (93 ∷ 125 ∷ []) =
    rw (items_are (map string tags), quoted_all tags) (append_assoc (with_commas (map quoted tags)) (93 ∷ []) (125 ∷ [])) in
    ap (λ (x : Text). codes "{\"name\":" ++ (quoted name ++ (codes ",\"tags\":[" ++ x))) inner
