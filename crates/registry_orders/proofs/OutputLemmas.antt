-- What is appended in steps, and in part.
use Rattle.std.proofs.Common.{◌≡◌, ◌∙◌, ℕ, ◌+◌, ◌<◌, List, [], ◌++◌, length, drop, get_or, Option, None, Some, refl, sym, ap, subst, append_assoc, append-nil}
use Rattle.std.specs.Borrow.{Bor}
use Rattle.std.proofs.lemmas.List.{at_drop_more}
use Rattle.std.specs.Io.KnownBytes.{Appends, Keeps}
use Rattle.std.proofs.KnownBytes.{Appends-nil, Appends-kept}
use Rattle.oci_types.specs.Text.{Text}
use Rattle.registry_orders.specs.Outputs.{AppendsPart, text_of_all}

pub appends_more : (a b c : Option Text) (x y : Text) → Appends a b x → Appends b c y → Appends a c (x ++ y)
appends_more None b c x y first second = tt
appends_more (Some s) None c x y first second = absurd first
appends_more (Some s) (Some t) None x y first second = absurd second
appends_more (Some s) (Some t) (Some u) x y first second = second ∙ ap (λ v. v ++ y) first ∙ append_assoc s x y

-- all of a text is a part of it
pub whole_part : (a b : Option Text) (x : Text) → Appends a b x → AppendsPart a b x
whole_part a b x all = record { part = x; rest = []; is = sym (append-nil x); appended = all }

-- and so is nothing
pub no_part : (a : Option Text) (x : Text) → AppendsPart a a x
no_part a x = record { part = []; rest = x; is = refl; appended = Appends-nil a }

-- a part of a text is one of that with more behind it
pub part_before : (a b : Option Text) (x y : Text) → AppendsPart a b x → AppendsPart a b (x ++ y)
part_before a b x y first = record {
  part = first.part;
  rest = first.rest ++ y;
  is = ap (λ t. t ++ y) first.is ∙ append_assoc first.part first.rest y;
  appended = first.appended;
}

-- a whole text and a part of a second are a part of both together
pub part_behind : (a b c : Option Text) (x y : Text) → Appends a b x → AppendsPart b c y → AppendsPart a c (x ++ y)
part_behind a b c x y first second = record {
  part = x ++ second.part;
  rest = second.rest;
  is = ap (λ t. x ++ t) second.is ∙ sym (append_assoc x second.part second.rest);
  appended = appends_more a b c x second.part first second.appended;
}

-- a part stays one where nothing more is written
pub part_kept : (a b c : Option Text) (x : Text) → AppendsPart a b x → Keeps b c → AppendsPart a c x
part_kept a b c x first same = record {
  part = first.part;
  rest = first.rest;
  is = first.is;
  appended = Appends-kept a b c first.part first.appended same;
}

abbrev pub no_text : Bor Text
no_text = record { ref_ptr = (0, 0); now = [] }

-- the next of several texts goes from what is left to what is done
pub next_text : (texts : List (Bor Text)) (i : ℕ) (done text : Text) → i < length texts → text ≡ (get_or texts i no_text).now
    → text_of_all texts ≡ done ++ text_of_all (drop i texts) → text_of_all texts ≡ (done ++ text) ++ text_of_all (drop (i + 1) texts)
next_text texts i done text lt is split =
    let others : Text = text_of_all (drop (i + 1) texts) in
    split ∙ ap (λ t. done ++ t) (at_drop_more text_of_all texts i no_text lt ∙ ap (λ t. t ++ others) (sym is)) ∙ sym (append_assoc done text others)

-- a part of it behind what is done is a part of all
pub part_of_next : (a b c : Option Text) (texts : List (Bor Text)) (i : ℕ) (done text : Text) → i < length texts → text ≡ (get_or texts i no_text).now
    → text_of_all texts ≡ done ++ text_of_all (drop i texts) → Appends a b done → AppendsPart b c text → AppendsPart a c (text_of_all texts)
part_of_next a b c texts i done text lt is split first second =
    subst (AppendsPart a c) (sym (next_text texts i done text lt is split))
    (part_before a c (done ++ text) (text_of_all (drop (i + 1) texts)) (part_behind a b c done text first second))
