-- The texts of lists.
use Rattle.std.proofs.Common.{◌≡◌, ◌∙◌, ℕ, ◌+◌, ◌<◌, ◌≤◌, List, [], ◌∷◌, ◌++◌, Bor, length, take, get_or, map, false, refl, sym, ap, append-nil, append_assoc, Result, Ok, Err}
use Rattle.std.specs.Prelude.{OnOk}
use Rattle.std.specs.List.{join_with_byte}
use Rattle.std.proofs.lemmas.List.{take_more, take_all, map-append, flat_map_more}
use Rattle.serde_json.specs.Data.{Data}
use Rattle.serde_json.specs.View.{view}
use Rattle.serde_json.specs.declared.value.Value.{Value}
use Rattle.serde_json.specs.View.{items_of}
use Rattle.serde_json.specs.Written.{has_float, items_have_float}
use Rattle.oci_types.specs.Text.{Text}
use Rattle.oci_types.specs.Member.{text_items}
use Rattle.registry_orders.specs.Outputs.{newline}
use Rattle.order_texts.specs.Lines.{space}
use Rattle.order_texts.specs.declared.items.Item.{Item}
use Rattle.order_texts.specs.Items.{ItemShown, item_shown, repo_item, tag_item, blob_item, unnamed_item, grant_item}
use Rattle.order_texts.specs.Texts.{behind_spaces, line_of, lines_of, data_of, list_data}

digests_no_float : (digests : List Text) → items_have_float (text_items digests) ≡ false
digests_no_float [] = refl
digests_no_float (d ∷ ds) = digests_no_float ds

item_no_float : (i : ItemShown) → has_float (data_of i) ≡ false
item_no_float (repo_item name) = refl
item_no_float (tag_item tag digest) = refl
item_no_float (blob_item digest size manifests) = rw (digests_no_float manifests) refl
item_no_float (unnamed_item digest) = refl
item_no_float (grant_item name token level) = refl

items_no_float : (items : List ItemShown) → items_have_float (items_of (map data_of items)) ≡ false
items_no_float [] = refl
items_no_float (i ∷ items) = rw (item_no_float i) (items_no_float items)

-- no list has a number with a fraction
pub list_no_float : (items : List ItemShown) → has_float (list_data items) ≡ false
list_no_float items = items_no_float items

-- ---- one more of those that a loop goes over

taken : {X : Type 0} (xs : List X) (i : ℕ) (x : X) → i < length xs → x ≡ get_or xs i x → take (i + 1) xs ≡ take i xs ++ x ∷ []
taken xs i x low is = take_more xs i x low ∙ ap (λ y. take i xs ++ y ∷ []) (sym is)

pub line_more : (items : List Item) (i : ℕ) (item : Item) (a b c : Text) → i < length items → item ≡ get_or items i item
    → a ≡ lines_of (map item_shown (take i items)) → b ≡ a ++ line_of (item_shown item) → c ≡ b ++ newline → c ≡ lines_of (map item_shown (take (i + 1) items))
line_more items i item a b c low is so_far line end =
    end ∙ ap (λ t. t ++ newline) line ∙ append_assoc a (line_of (item_shown item)) newline
    ∙ ap (λ t. t ++ (line_of (item_shown item) ++ newline)) so_far
    ∙ flat_map_more (λ item. line_of item ++ newline) [] (map item_shown (take i items)) (item_shown item)
    ∙ sym (ap (λ xs. lines_of (map item_shown xs)) (taken items i item low is) ∙ ap lines_of (map-append item_shown (take i items) (item ∷ [])))

pub digest_more : (digests : List Text) (i : ℕ) (digest shown start a b c : Text) → i < length digests → digest ≡ get_or digests i digest → shown ≡ digest
    → a ≡ start ++ behind_spaces (take i digests) → b ≡ a ++ 32 ∷ [] → c ≡ b ++ shown → c ≡ start ++ behind_spaces (take (i + 1) digests)
digest_more digests i digest shown start a b c low is text so_far space end =
    end ∙ ap (λ t. t ++ shown) space ∙ append_assoc a (32 ∷ []) shown ∙ ap (λ (t : Text). a ++ 32 ∷ t) text
    ∙ ap (λ t. t ++ 32 ∷ digest) so_far
    ∙ flat_map_more (λ (digest : Text). 32 ∷ digest) start (take i digests) digest
    ∙ sym (ap (λ ds. start ++ behind_spaces ds) (taken digests i digest low is))

pub value_more : {X : Type 0} (shown : X → Data) (xs : List X) (i : ℕ) (x : X) (old new : List Value) (value : Value) → i < length xs → x ≡ get_or xs i x
    → map view old ≡ map shown (take i xs) → new ≡ old ++ value ∷ [] → view value ≡ shown x → map view new ≡ map shown (take (i + 1) xs)
value_more shown xs i x old new value low is so_far pushed made =
    ap (map view) pushed ∙ map-append view old (value ∷ []) ∙ ap (λ ds. ds ++ view value ∷ []) so_far
    ∙ ap (λ (d : Data). map shown (take i xs) ++ d ∷ []) made
    ∙ sym (ap (map shown) (taken xs i x low is) ∙ map-append shown (take i xs) (x ∷ []))

-- ---- words

pub word_more : (words : List (Bor Text)) (i : ℕ) (d : Bor Text) (start a b c : Text) → i < length words
    → a ≡ start ++ behind_spaces (map (λ word. word.now) (take i words)) → b ≡ a ++ 32 ∷ [] → c ≡ b ++ (get_or words i d).now
    → c ≡ start ++ behind_spaces (map (λ word. word.now) (take (i + 1) words))
word_more words i d start a b c low so_far between end =
    let word : Bor Text = get_or words i d in
    end ∙ ap (λ t. t ++ word.now) between ∙ append_assoc a (32 ∷ []) word.now ∙ ap (λ t. t ++ 32 ∷ word.now) so_far
    ∙ flat_map_more (λ (w : Text). 32 ∷ w) start (map (λ (w : Bor Text). w.now) (take i words)) word.now
    ∙ sym (ap (λ ws. start ++ behind_spaces (map (λ (w : Bor Text). w.now) ws)) (take_more words i d low)
    ∙ ap (λ ws. start ++ behind_spaces ws) (map-append (λ (w : Bor Text). w.now) (take i words) (word ∷ [])))

pub words_done : (words : List (Bor Text)) (i : ℕ) (start all : Text) → length words ≤ i
    → all ≡ start ++ behind_spaces (map (λ word. word.now) (take i words)) → all ≡ start ++ behind_spaces (map (λ word. word.now) words)
words_done words i start all done so_far =
    so_far ∙ ap (λ ws. start ++ behind_spaces (map (λ (w : Bor Text). w.now) ws)) (take_all i words done)

joined : (word : Text) (words : List Text) → word ++ behind_spaces words ≡ join_with_byte space (word ∷ words)
joined word [] = append-nil word
joined word (next ∷ words) = ap (λ (t : Text). word ++ 32 ∷ t) (joined next words)

pub words_joined : {T E : Type 0} (r : Result T E) (words : List Text) (old first start all : Text) → start ≡ old ++ first
    → OnOk r (all ≡ start ++ behind_spaces words) → OnOk r (all ≡ old ++ join_with_byte space (first ∷ words))
words_joined (Ok v) words old first start all begun pushed =
    pushed ∙ ap (λ t. t ++ behind_spaces words) begun ∙ append_assoc old first (behind_spaces words) ∙ ap (λ t. old ++ t) (joined first words)
words_joined (Err e) words old first start all begun pushed = tt
