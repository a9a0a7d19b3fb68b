-- Lists of texts, and objects of texts, member by member.
use Rattle.std.proofs.Common.{◌≡◌, ◌≤◌, List, [], ◌∷◌, ◌++◌, length, map, Less, nat_cmp, true, Option, Some, None, string_cmp, string_bytes, String, Global, refl, sym, ap, ◌∙◌, subst, append_assoc, arith, option_map}
use Rattle.std.specs.BTreeMap.{insert_entry}
use Rattle.std.specs.Cmp.Lexicographic.{slice_cmp}
use Rattle.std.specs.List.{AllByRecursion}
use Rattle.std.specs.List.Sorted.{IsStrictlySortedBy}
use Rattle.std.specs.Map.{keys_of}
use Rattle.serde_json.specs.declared.value.Value.{Value}
use Rattle.serde_json.specs.Find.{as_str}
use Rattle.serde_json.specs.View.{view, items_view, members_view}
use Rattle.serde_json.proofs.Views.{Entry}
use Rattle.oci_types.specs.Text.{Text}
use Rattle.oci_types.specs.Part.{◌>>=◌}
use Rattle.oci_types.specs.Member.{Pairs, pairs_of, IsInByteOrder, has_items, texts_of}
use Rattle.oci_documents.proofs.LastKey.{names, IsAbove, goes_last, above_front, names-append_one}

pub filled : (vs : List Value) → 1 ≤ length vs → true ≡ has_items (items_view vs)
filled [] h = absurd (omega arith)
filled (v ∷ vs) h = refl

-- ---- objects

abbrev pub TextEntry : Type 0
TextEntry = String Global × String Global

-- what was read before, and then what is still read
abbrev pub behind : Pairs → Option Pairs → Option Pairs
behind front read = option_map (λ rest. front ++ rest) read

behind-one_more : (front : Pairs) (p : Text × Text) (read : Option Pairs) → behind front (read >>= λ texts. Some (p ∷ texts)) ≡ behind (front ++ p ∷ []) read
behind-one_more front p None = refl
behind-one_more front p (Some ps) = ap (λ (qs : Pairs). Some qs) (sym (append_assoc front (p ∷ []) ps))

pairs_of-append_one : (es : List TextEntry) (e : TextEntry) → pairs_of (es ++ e ∷ []) ≡ pairs_of es ++ (string_bytes e.0, string_bytes e.1) ∷ []
pairs_of-append_one [] e = refl
pairs_of-append_one (x ∷ es) e = ap (λ (ps : Pairs). (string_bytes x.0, string_bytes x.1) ∷ ps) (pairs_of-append_one es e)

-- some members were texts, and are in the map under their names
pub record Copies (all left : List Entry) (texts : List TextEntry) : Type 0 where
  pub done : List Entry
  pub parts : all ≡ done ++ left
  pub named : names texts ≡ names done
  pub reads : texts_of (members_view all) ≡ behind (pairs_of texts) (texts_of (members_view left))

pub copies_none : (all : List Entry) → Copies all all []
copies_none all = record { done = []; parts = refl; named = refl; reads = from_nothing (texts_of (members_view all)) }
  where
    from_nothing : (read : Option Pairs) → read ≡ behind [] read
    from_nothing None = refl
    from_nothing (Some ps) = refl

-- a member that is no text ends the reading
pub copies_stops : (all : List Entry) (e : Entry) (left : List Entry) (texts : List TextEntry) → Copies all (e ∷ left) texts → as_str (view e.1) ≡ None → texts_of (members_view all) ≡ None
copies_stops all e left texts so_far no_text = so_far.reads ∙ rw no_text refl

pub copies_all : (all : List Entry) (texts : List TextEntry) → Copies all [] texts → texts_of (members_view all) ≡ Some (pairs_of texts)
copies_all all texts so_far = so_far.reads ∙ ap (λ (ps : Pairs). Some ps) (append_nil_of (pairs_of texts))
  where
    append_nil_of : (ps : Pairs) → ps ++ [] ≡ ps
    append_nil_of [] = refl
    append_nil_of (p ∷ ps) = ap (λ (qs : Pairs). p ∷ qs) (append_nil_of ps)

pub copies_one : (all : List Entry) (e : Entry) (left : List Entry) (texts after : List TextEntry) (k v : String Global) → Copies all (e ∷ left) texts
    → IsStrictlySortedBy string_cmp (keys_of all) → string_bytes k ≡ string_bytes e.0 → as_str (view e.1) ≡ Some (string_bytes v) → after ≡ insert_entry string_cmp texts k v
    → Copies all left after
copies_one all e left texts after k v so_far ordered is text made =
    let above : IsAbove (string_bytes e.0) (names so_far.done) = above_front so_far.done e left (subst (λ (es : List Entry). IsStrictlySortedBy string_cmp (keys_of es)) so_far.parts ordered) in
    let last : after ≡ texts ++ (k, v) ∷ [] = made ∙ goes_last texts k v (rw (is, so_far.named) above) in
    let shown : pairs_of after ≡ pairs_of texts ++ (string_bytes e.0, string_bytes v) ∷ [] = ap pairs_of last ∙ pairs_of-append_one texts (k, v) ∙ rw is refl in
    let read : texts_of (members_view (e ∷ left)) ≡ texts_of (members_view left) >>= (λ rest. Some ((string_bytes e.0, string_bytes v) ∷ rest)) = rw text refl in
    record {
      done = so_far.done ++ e ∷ [];
      parts = so_far.parts ∙ sym (append_assoc so_far.done (e ∷ []) left);
      named = ap (λ (es : List TextEntry). names es) last ∙ names-append_one texts (k, v) ∙ rw (is, so_far.named) refl ∙ sym (names-append_one so_far.done e);
      reads = so_far.reads ∙ ap (behind (pairs_of texts)) read ∙ behind-one_more (pairs_of texts) (string_bytes e.0, string_bytes v) (texts_of (members_view left)) ∙ ap (λ (ps : Pairs). behind ps (texts_of (members_view left))) (sym shown);
    }

-- ---- the order of a map

above_first : (e : TextEntry) (es : List TextEntry) → AllByRecursion (λ y. string_cmp e.0 y ≡ Less) (keys_of es) → AllByRecursion (λ k. slice_cmp nat_cmp (string_bytes e.0) k ≡ Less) (map (λ p. p.0) (pairs_of es))
above_first e [] h = tt
above_first e (x ∷ es) h = (h.0, above_first e es h.1)

pub in_byte_order : (es : List TextEntry) → IsStrictlySortedBy string_cmp (keys_of es) → IsInByteOrder (pairs_of es)
unfolding IsStrictlySortedBy
in_byte_order [] h = tt
in_byte_order (e ∷ es) h = (above_first e es h.0, in_byte_order es h.1)
