-- What options were given, by what `clap` says of its getters.
use Rattle.std.proofs.Common.{◌≡◌, ◌∙◌, Bool, true, false, ℕ, Option, Some, None, Result, Ok, refl, sym, ap, arith}
use Rattle.std.specs.Prelude.{◌↔◌, IfOk, List, codes, slice_index, slice_get, find, ok_or, option_and_then, option_map, unwrap_or}
use Rattle.std.specs.Str.Parse.{ParsesUnsigned, ParsesBool}
use Rattle.clap.specs.Words.{ReadsOne, Row, first_of, one_of}
use Rattle.clap.specs.Walk.{row_text}
use Rattle.clap.specs.Values.{read_as}
use Rattle.std.specs.Str.{bytes_eq}
use Rattle.oci_types.specs.Text.{Text}
use Rattle.registry_orders.specs.declared.failure.Failure.{Failure}
use Rattle.registry_orders.specs.Options.{IsNumberOf}

-- `None` where there is no text, and else what is read of it
abbrev pub Reads : {T E : Type 0} → (Text → Result T E → Type 0) → Option Text → Option T → Type 0
Reads {T} {E} gives value r = (value ≡ None → r ≡ None) × ((t : Text) → value ≡ Some t → ReadsOne gives t r)

pub number_read : (E : Type 0) (gives : Text → Result ℕ E → Type 0) (value : Option Text) (r : Option ℕ) (failure : Failure)
    → ((t : Text) (x : Result ℕ E) → gives t x → ParsesUnsigned 64 10 t x) → Reads gives value r → IfOk (ok_or r failure) (IsNumberOf value)
number_read E gives value None failure only reads = tt
number_read E gives None (Some n) failure only reads = absurd (let none : Some n ≡ None = reads.0 refl in cc)
number_read E gives (Some t) (Some n) failure only reads = let read = only t (Ok n) (reads.1 t refl) in (read.0.0, read.1)

-- an option that has no text has none that is read
pub no_text : (id : Text) (rows : List Row) → first_of id rows ≡ None → one_of id rows ≡ None
no_text id rows none = of_row (find (λ r. bytes_eq r.id id) rows) none
  where
    of_row : (o : Option Row) → option_and_then (λ r. slice_get r.values 0) o ≡ None → option_and_then row_text o ≡ None
    of_row None e = refl
    of_row (Some r) e = ap (option_map (read_as r.reading)) e

text_in : {x y : Text} → Some x ≡ Some y → x ≡ y
text_in e = cc

abbrev first : Text → ℕ
first text = slice_index text 0

not_both : (t : Text) → t ≡ codes "false" → t ≡ codes "true" → ⊥
not_both t as_no as_yes =
    let bad : first (codes "false") ≡ first (codes "true") = ap first (sym as_no) ∙ ap first as_yes in
    omega (arith, bad)

pub flag_read : (E : Type 0) (value : Option Text) (r : Option Bool) → Reads (ParsesBool {E = E}) value r
    → (unwrap_or r false ≡ true) ↔ (value ≡ Some (codes "true"))
flag_read E None None reads = ((λ e. absurd (let x : false ≡ true = e in cc)), (λ e. absurd (let x : None ≡ Some (codes "true") = e in cc)))
flag_read E None (Some b) reads = absurd (let none : Some b ≡ None = reads.0 refl in cc)
flag_read E (Some t) None reads = ((λ e. absurd (let x : false ≡ true = e in cc)), (λ e. absurd ((reads.1 t refl).1.0 (text_in e))))
flag_read E (Some t) (Some true) reads = ((λ e. ap Some (reads.1 t refl)), (λ e. refl))
flag_read E (Some t) (Some false) reads = ((λ e. absurd (let x : false ≡ true = e in cc)), (λ e. absurd (not_both t (reads.1 t refl) (text_in e))))
