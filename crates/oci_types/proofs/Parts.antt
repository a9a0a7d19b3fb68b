-- Members are found in a form exactly where `Reads` has them in it.
use Rattle.std.proofs.Common.{◌≡◌, ◌≢◌, ℕ, ◌<◌, ◌^◌, List, [], ◌∷◌, Bool, true, false, nat_lt, if◌then◌else◌, Option, Some, None, option_map, option_and_then, refl, sym, ap, ◌∙◌, subst, ◌⊎◌, inl, inr}
use Rattle.std.proofs.lemmas.Bool.{ltb-true, lt-ltb}
use Rattle.serde_json.specs.Data.{Data, Num, unsigned, negative, float, null, boolean, number, string, array, object, Items, no_items, item, Members, no_members, member}
use Rattle.serde_json.specs.Find.{get, as_str, as_array, as_object, as_number, as_u64}
use Rattle.oci_types.specs.Text.{Text}
use Rattle.oci_types.specs.Part.{◌>>=◌}
use Rattle.oci_types.specs.Member.{unless_null, present_at, if_present, text_at, optional_text_at, list_of, list_at, below_limit, size_at, all_texts, has_items, some_text, some_text_in, some_text_at, Pairs, text_items, text_members, texts_of, texts_in, texts_at}
use Rattle.oci_types.specs.Reads.{Has, Lacks, HasText, HasTexts, HasTextList, HasList, is_filled}

pub then_found : {A B : Type 0} (f : A → Option B) (o : Option A) (y : B) → option_and_then f o ≡ Some y → (x : A) × (o ≡ Some x) × (f x ≡ Some y)
then_found f None y h = absurd cc
then_found f (Some x) y h = (x, refl, h)

pub then_only : {A B : Type 0} (f : A → Option B) (o : Option A) (x : A) (y : B) → o ≡ Some x → f x ≡ Some y → option_and_then f o ≡ Some y
then_only f o x y is h = ap (option_and_then f) is ∙ h

pub map_found : {A B : Type 0} (f : A → B) (o : Option A) (y : B) → option_map f o ≡ Some y → (x : A) × (o ≡ Some x) × (f x ≡ y)
map_found f None y h = absurd cc
map_found f (Some x) y h = (x, refl, cc)

-- ---- the forms of values

as_str-found : (v : Data) (text : Text) → as_str v ≡ Some text → v ≡ string text
as_str-found null text h = absurd cc
as_str-found (boolean b) text h = absurd cc
as_str-found (number n) text h = absurd cc
as_str-found (string s) text h = let is : s ≡ text = cc in ap string is
as_str-found (array ds) text h = absurd cc
as_str-found (object ms) text h = absurd cc

as_array-found : (v : Data) (ds : Items) → as_array v ≡ Some ds → v ≡ array ds
as_array-found null ds h = absurd cc
as_array-found (boolean b) ds h = absurd cc
as_array-found (number n) ds h = absurd cc
as_array-found (string s) ds h = absurd cc
as_array-found (array es) ds h = let is : es ≡ ds = cc in ap array is
as_array-found (object ms) ds h = absurd cc

pub as_object-found : (v : Data) (ms : Members) → as_object v ≡ Some ms → v ≡ object ms
as_object-found null ms h = absurd cc
as_object-found (boolean b) ms h = absurd cc
as_object-found (number n) ms h = absurd cc
as_object-found (string s) ms h = absurd cc
as_object-found (array ds) ms h = absurd cc
as_object-found (object ns) ms h = let is : ns ≡ ms = cc in ap object is

as_number-found : (v : Data) (n : Num) → as_number v ≡ Some n → v ≡ number n
as_number-found null n h = absurd cc
as_number-found (boolean b) n h = absurd cc
as_number-found (number m) n h = let is : m ≡ n = cc in ap number is
as_number-found (string s) n h = absurd cc
as_number-found (array ds) n h = absurd cc
as_number-found (object ms) n h = absurd cc

as_u64-found : (m : Num) (n : ℕ) → as_u64 m ≡ Some n → m ≡ unsigned n
as_u64-found (unsigned k) n h = let is : k ≡ n = cc in ap unsigned is
as_u64-found (negative z) n h = absurd cc
as_u64-found (float x) n h = absurd cc

-- a whole number that is there
pub whole_found : (key : Text) (d : Data) (n : ℕ) → option_and_then as_u64 (option_and_then as_number (get key d)) ≡ Some n → Has d key (number (unsigned n))
whole_found key d n h =
    let outer = then_found as_u64 (option_and_then as_number (get key d)) n h in
    let inner = then_found as_number (get key d) outer.0 outer.1 in
    inner.1 ∙ ap (λ (v : Data). Some v) (as_number-found inner.0 outer.0 inner.2 ∙ ap number (as_u64-found outer.0 n outer.2))

pub whole_only : (key : Text) (d : Data) (n : ℕ) → Has d key (number (unsigned n)) → option_and_then as_u64 (option_and_then as_number (get key d)) ≡ Some n
whole_only key d n h = ap (λ (o : Option Data). option_and_then as_u64 (option_and_then as_number o)) h

-- ---- members that are present

lacks_in : (o : Option Data) → option_and_then unless_null o ≡ None → (o ≡ None) ⊎ (o ≡ Some null)
lacks_in None h = inl refl
lacks_in (Some null) h = inr refl
lacks_in (Some (boolean b)) h = absurd cc
lacks_in (Some (number n)) h = absurd cc
lacks_in (Some (string s)) h = absurd cc
lacks_in (Some (array ds)) h = absurd cc
lacks_in (Some (object ms)) h = absurd cc

pub lacks_found : (key : Text) (d : Data) → present_at key d ≡ None → Lacks d key
lacks_found key d h = lacks_in (get key d) h

pub lacks_only : (key : Text) (d : Data) → Lacks d key → present_at key d ≡ None
lacks_only key d h = elim h [ inl is ↦ ap (option_and_then unless_null) is | inr is ↦ ap (option_and_then unless_null) is ]

present_in : (o : Option Data) (v : Data) → option_and_then unless_null o ≡ Some v → (o ≡ Some v) × (v ≢ null)
present_in None v h = absurd cc
present_in (Some null) v h = absurd cc
present_in (Some (boolean b)) v h = (h, λ is. absurd cc)
present_in (Some (number n)) v h = (h, λ is. absurd cc)
present_in (Some (string s)) v h = (h, λ is. absurd cc)
present_in (Some (array ds)) v h = (h, λ is. absurd cc)
present_in (Some (object ms)) v h = (h, λ is. absurd cc)

pub present_found : (key : Text) (d v : Data) → present_at key d ≡ Some v → Has d key v × (v ≢ null)
present_found key d v h = present_in (get key d) v h

not_null : (v : Data) → v ≢ null → unless_null v ≡ Some v
not_null null h = absurd (h refl)
not_null (boolean b) h = refl
not_null (number n) h = refl
not_null (string s) h = refl
not_null (array ds) h = refl
not_null (object ms) h = refl

pub present_only : (key : Text) (d v : Data) → Has d key v → v ≢ null → present_at key d ≡ Some v
present_only key d v h other = then_only unless_null (get key d) v v h (not_null v other)

-- ---- texts

pub text_found : (key : Text) (d : Data) (text : Text) → text_at key d ≡ Some text → Has d key (string text)
text_found key d text h = let found = then_found as_str (get key d) text h in found.1 ∙ ap (λ (v : Data). Some v) (as_str-found found.0 text found.2)

pub text_only : (key : Text) (d : Data) (text : Text) → Has d key (string text) → text_at key d ≡ Some text
text_only key d text h = ap (option_and_then as_str) h

optional_text_found_in : (key : Text) (d : Data) (p : Option Data) (o : Option Text) → present_at key d ≡ p → if_present as_str p ≡ Some o → HasText d key o
optional_text_found_in key d None o is h = let none : None ≡ o = cc in subst (λ (x : Option Text). HasText d key x) none (lacks_found key d is)
optional_text_found_in key d (Some v) o is h =
    let found = map_found Some (as_str v) o h in
    let there = present_found key d v is in
    subst (λ (x : Option Text). HasText d key x) found.2 (there.0 ∙ ap (λ (w : Data). Some w) (as_str-found v found.0 found.1))

pub optional_text_found : (key : Text) (d : Data) (o : Option Text) → optional_text_at key d ≡ Some o → HasText d key o
optional_text_found key d o h = optional_text_found_in key d (present_at key d) o refl h

pub optional_text_only : (key : Text) (d : Data) (o : Option Text) → HasText d key o → optional_text_at key d ≡ Some o
optional_text_only key d None h = ap (if_present as_str) (lacks_only key d h)
optional_text_only key d (Some text) h = ap (if_present as_str) (present_only key d (string text) h (λ is. absurd cc))

-- ---- lists

list_of-found : (v : Data) (ds : Items) → list_of v ≡ Some ds → (v ≡ array ds) ⊎ ((v ≡ null) × (ds ≡ no_items))
list_of-found null ds h = inr (refl, cc)
list_of-found (boolean b) ds h = absurd cc
list_of-found (number n) ds h = absurd cc
list_of-found (string s) ds h = absurd cc
list_of-found (array es) ds h = let is : es ≡ ds = cc in inl (ap array is)
list_of-found (object ms) ds h = absurd cc

pub list_found : (key : Text) (d : Data) (ds : Items) → list_at key d ≡ Some ds → HasList d key ds
list_found key d ds h =
    let found = then_found list_of (get key d) ds h in
    elim (list_of-found found.0 ds found.2) as (λ _. HasList d key ds) [
      | inl is ↦ inl (found.1 ∙ ap (λ (v : Data). Some v) is)
      | inr both ↦ inr (found.1 ∙ ap (λ (v : Data). Some v) both.0, both.1)
    ]

pub list_only : (key : Text) (d : Data) (ds : Items) → HasList d key ds → list_at key d ≡ Some ds
list_only key d ds h = elim h [
  | inl is ↦ ap (option_and_then list_of) is
  | inr both ↦ ap (option_and_then list_of) both.0 ∙ ap (λ (es : Items). Some es) (sym both.1)
]

-- ---- lists of texts

texts_made : (ds : Items) → all_texts ds ≡ true → (texts : List Text) × (ds ≡ text_items texts)
texts_made no_items h = ([], refl)
texts_made (item null ds) h = absurd cc
texts_made (item (boolean b) ds) h = absurd cc
texts_made (item (number n) ds) h = absurd cc
texts_made (item (string s) ds) h = let more = texts_made ds h in (s ∷ more.0, ap (item (string s)) more.1)
texts_made (item (array es) ds) h = absurd cc
texts_made (item (object ms) ds) h = absurd cc

texts_are_texts : (texts : List Text) → all_texts (text_items texts) ≡ true
texts_are_texts [] = refl
texts_are_texts (t ∷ ts) = texts_are_texts ts

has_texts : (texts : List Text) → has_items (text_items texts) ≡ is_filled texts
has_texts [] = refl
has_texts (t ∷ ts) = refl

some_text_by : (ds : Items) (b t : Bool) → all_texts ds ≡ t → (if t then Some (has_items ds) else None) ≡ Some b → (texts : List Text) × (ds ≡ text_items texts) × (b ≡ is_filled texts)
some_text_by ds b true is h =
    let made = texts_made ds is in
    let same : has_items ds ≡ b = cc in
    (made.0, made.1, sym same ∙ ap has_items made.1 ∙ has_texts made.0)
some_text_by ds b false is h = absurd cc

some_text_made : (texts : List Text) → some_text (text_items texts) ≡ Some (is_filled texts)
some_text_made texts = rw (texts_are_texts texts) (ap (λ (b : Bool). Some b) (has_texts texts))

some_text_found_in : (key : Text) (d : Data) (p : Option Data) (b : Bool) → present_at key d ≡ p → some_text_in p ≡ Some b → (texts : List Text) × HasTextList d key texts × (b ≡ is_filled texts)
some_text_found_in key d None b is h = let none : b ≡ false = cc in ([], inr (lacks_found key d is, refl), none)
some_text_found_in key d (Some v) b is h =
    let found = then_found some_text (as_array v) b h in
    let made = some_text_by found.0 b (all_texts found.0) refl found.2 in
    let there = present_found key d v is in
    (made.0, inl (there.0 ∙ ap (λ (w : Data). Some w) (as_array-found v found.0 found.1 ∙ ap array made.1)), made.2)

pub some_text_found : (key : Text) (d : Data) (b : Bool) → some_text_at key d ≡ Some b → (texts : List Text) × HasTextList d key texts × (b ≡ is_filled texts)
some_text_found key d b h = some_text_found_in key d (present_at key d) b refl h

pub some_text_only : (key : Text) (d : Data) (texts : List Text) → HasTextList d key texts → some_text_at key d ≡ Some (is_filled texts)
some_text_only key d texts h = elim h [
  | inl is ↦ ap some_text_in (present_only key d (array (text_items texts)) is (λ other. absurd cc)) ∙ some_text_made texts
  | inr both ↦ ap some_text_in (lacks_only key d both.0) ∙ ap (λ (ts : List Text). Some (is_filled ts)) (sym both.1)
]

-- ---- objects of texts

texts_of-member : (key : Text) (d : Data) (ms : Members) (texts : Pairs) (o : Option Text) (more : Option Pairs) → as_str d ≡ o → texts_of ms ≡ more
    → ((rest : Pairs) → texts_of ms ≡ Some rest → ms ≡ text_members rest)
    → (o >>= λ text. more >>= λ rest. Some ((key, text) ∷ rest)) ≡ Some texts → member key d ms ≡ text_members texts
texts_of-member key d ms texts None more is are before h = absurd cc
texts_of-member key d ms texts (Some text) None is are before h = absurd cc
texts_of-member key d ms texts (Some text) (Some rest) is are before h =
    let all : (key, text) ∷ rest ≡ texts = cc in
    ap (λ (v : Data). member key v ms) (as_str-found d text is) ∙ ap (member key (string text)) (before rest are) ∙ ap text_members all

texts_of-found : (ms : Members) (texts : Pairs) → texts_of ms ≡ Some texts → ms ≡ text_members texts
texts_of-found no_members texts h = let is : [] ≡ texts = cc in ap text_members is
texts_of-found (member key d ms) texts h = texts_of-member key d ms texts (as_str d) (texts_of ms) refl refl (λ rest are. texts_of-found ms rest are) h

texts_of-made : (texts : Pairs) → texts_of (text_members texts) ≡ Some texts
texts_of-made [] = refl
texts_of-made (p ∷ ps) = rw (texts_of-made ps) refl

texts_found_in : (key : Text) (d : Data) (p : Option Data) (texts : Pairs) → present_at key d ≡ p → texts_in p ≡ Some texts → HasTexts d key texts
texts_found_in key d None texts is h = let none : texts ≡ [] = cc in inr (lacks_found key d is, none)
texts_found_in key d (Some v) texts is h =
    let found = then_found texts_of (as_object v) texts h in
    let there = present_found key d v is in
    inl (there.0 ∙ ap (λ (w : Data). Some w) (as_object-found v found.0 found.1 ∙ ap object (texts_of-found found.0 texts found.2)))

pub texts_found : (key : Text) (d : Data) (texts : Pairs) → texts_at key d ≡ Some texts → HasTexts d key texts
texts_found key d texts h = texts_found_in key d (present_at key d) texts refl h

pub texts_only : (key : Text) (d : Data) (texts : Pairs) → HasTexts d key texts → texts_at key d ≡ Some texts
texts_only key d texts h = elim h [
  | inl is ↦ ap texts_in (present_only key d (object (text_members texts)) is (λ other. absurd cc)) ∙ texts_of-made texts
  | inr both ↦ ap texts_in (lacks_only key d both.0) ∙ ap (λ (ts : Pairs). Some ts) (sym both.1)
]

-- ---- sizes

size_by : (n m : ℕ) (b : Bool) → nat_lt n (2 ^ 63) ≡ b → (if b then Some n else None) ≡ Some m → (n ≡ m) × (n < 2 ^ 63)
size_by n m true is h = (cc, ltb-true n (2 ^ 63) is)
size_by n m false is h = absurd cc

pub size_found : (key : Text) (d : Data) (n : ℕ) → size_at key d ≡ Some n → (s : ℕ) × Has d key (number (unsigned s)) × (s < 2 ^ 63)
size_found key d n h =
    let found = then_found below_limit (option_and_then as_u64 (option_and_then as_number (get key d))) n h in
    (found.0, whole_found key d found.0 found.1, (size_by found.0 n (nat_lt found.0 (2 ^ 63)) refl found.2).1)

pub size_only : (key : Text) (d : Data) (n : ℕ) → Has d key (number (unsigned n)) → n < 2 ^ 63 → size_at key d ≡ Some n
size_only key d n h lt = then_only below_limit (option_and_then as_u64 (option_and_then as_number (get key d))) n n (whole_only key d n h) (rw (lt-ltb n (2 ^ 63) lt) refl)
