-- Which sessions stand in the rows of uploads, after rows came, changed or went; and which pieces are left.
use Rattle.std.proofs.Common.{◌≡◌, ◌<◌, ◌==◌, ◌&&◌, ℕ, List, [], ◌∷◌, Bool, true, false, cond, Option, None, Some, refl, sym, ap, ◌∙◌, true≢false, arith}
use Rattle.std.specs.Prelude.{bytes_eq, find, option_map, is_some}
use Rattle.std.specs.List.{AllByRecursion}
use Rattle.std.specs.Ordering.{eq_by_cmp, nat_cmp}
use Rattle.std.specs.Cmp.{unsigned_tied}
use Rattle.std.proofs.lemmas.Bool.{false_from_ne_true}
use Rattle.sqlite.specs.declared.types.Value.TheVariants.{Int}
use Rattle.sqlite.specs.Order.{Row}
use Rattle.sqlite_trees.proofs.ListLemmas.{all_weaker}
use Rattle.sqlite_keyed.specs.Lists.{sort_by}
use Rattle.oci_types.specs.Text.{Text}
use Rattle.store_schema.specs.Rows.{bytes_at, natural_at}
use Rattle.store_schema.proofs.Lists.{bytes_eq_true, bytes_eq_itself, find_left, none_kept}
use Rattle.store_statements.specs.Keys.{of_first, of_session}
use Rattle.store_statements.specs.Tables.{Tables}
use Rattle.store_statements.specs.World.{by_start, pieces_of}
use Rattle.store_statements.specs.Registry.{last_in, UploadAgrees, IsOpen, IsRegistry}
use Rattle.store_statements.specs.Changes.{without, changed, with_size, upload_columns, Comes}
use Rattle.store_statements.proofs.Found.{both_true, equal_true, found_all, found_passes, is_session, number_tie, find_came, find_changed}
use Rattle.store_statements.proofs.PieceWorlds.{pieces_left}
use Rattle.store_statements.proofs.SessionMaps.{has_session}

-- ---- keys

-- two keys, the one of a row, and the other asked of it
pub session_of_both : (name : Text) (number : ℕ) (other : Text) (k : ℕ) (r : Row) → of_session other k r ≡ true → of_session name number r ≡ (bytes_eq other name && k == number)
session_of_both name number other k r e = let key = is_session other k r e in λ i. bytes_eq (key.0 i) name && key.1 i == number

pub first_of_both : (name other : Text) (k : ℕ) (r : Row) → of_session other k r ≡ true → of_first name r ≡ bytes_eq other name
first_of_both name other k r e = ap (λ n. bytes_eq n name) (is_session other k r e).0

-- in the repository itself the number decides
pub number_came : (name : Text) (number q : ℕ) → (bytes_eq name name && number == q) ≡ eq_by_cmp nat_cmp q number
number_came name number q = ap (λ b. b && number == q) (bytes_eq_itself name) ∙ sym (number_tie q number)

pub number_gone : (name : Text) (number q : ℕ) → (bytes_eq name name && q == number) ≡ eq_by_cmp nat_cmp q number
number_gone name number q = ap (λ b. b && q == number) (bytes_eq_itself name) ∙ sym (unsigned_tied q number)

some_cond : {X : Type 0} (b : Bool) (x : X) (o : Option X) → is_some (cond b (Some x) o) ≡ cond b true (is_some o)
some_cond true x o = refl
some_cond false x o = refl

none_cond : {X : Type 0} (b : Bool) (o : Option X) → is_some (cond b None o) ≡ cond b false (is_some o)
none_cond true o = refl
none_cond false o = refl

some_mapped : {X Y : Type 0} (f : X → Y) (o : Option X) → is_some (option_map f o) ≡ is_some o
some_mapped f None = refl
some_mapped f (Some x) = refl

-- ---- sessions that stand

pub has_came : (olds news : List Row) (name : Text) (number : ℕ) → Comes olds news (upload_columns name number) → find (of_session name number) olds ≡ None
    → (other : Text) (q : ℕ) → has_session news other q ≡ cond (bytes_eq name other && number == q) true (has_session olds other q)
has_came olds news name number c none other q =
    ap is_some (find_came (of_session other q) (of_session name number) olds news (upload_columns name number) c none (λ e r.
    let key = both_true (bytes_eq name other) (number == q) e in sym (λ i. bytes_eq (bytes_at r 1) (bytes_eq_true name other key.0 i) && natural_at r 2 == equal_true number q key.1 i)))
    ∙ some_cond (bytes_eq name other && number == q) (Int c.id ∷ upload_columns name number) (find (of_session other q) olds)

pub has_changed : (p : Row → Bool) (size : ℕ) (rows : List Row) (other : Text) (q : ℕ) → has_session (changed p (with_size size) rows) other q ≡ has_session rows other q
has_changed p size rows other q = ap is_some (find_changed p (of_session other q) (with_size size) (λ r. refl) rows) ∙ some_mapped (λ r. cond (p r) (with_size size r) r) (find (of_session other q) rows)

pub has_without : (name : Text) (number : ℕ) (rows : List Row) (other : Text) (q : ℕ) → has_session (without (of_session name number) rows) other q ≡ cond (bytes_eq other name && q == number) false (has_session rows other q)
has_without name number rows other q =
    ap is_some (find_left (of_session name number) (of_session other q) (bytes_eq other name && q == number) rows (λ r h e. session_of_both name number other q r e))
    ∙ none_cond (bytes_eq other name && q == number) (find (of_session other q) rows)

pub has_without_all : (name : Text) (rows : List Row) (other : Text) (q : ℕ) → has_session (without (of_first name) rows) other q ≡ cond (bytes_eq other name) false (has_session rows other q)
has_without_all name rows other q =
    ap is_some (find_left (of_first name) (of_session other q) (bytes_eq other name) rows (λ r h e. first_of_both name other q r e)) ∙ none_cond (bytes_eq other name) (find (of_session other q) rows)

-- ---- pieces that stay

pub pieces_without : (name : Text) (number : ℕ) (pieces : List Row) (other : Text) (q : ℕ) → (bytes_eq other name && q == number) ≡ false → pieces_of (without (of_session name number) pieces) other q ≡ pieces_of pieces other q
pieces_without name number pieces other q apart = pieces_left (of_session name number) pieces other q (λ r e. session_of_both name number other q r e ∙ apart)

pub pieces_without_all : (name : Text) (pieces : List Row) (other : Text) (q : ℕ) → bytes_eq other name ≡ false → pieces_of (without (of_first name) pieces) other q ≡ pieces_of pieces other q
pieces_without_all name pieces other q apart = pieces_left (of_first name) pieces other q (λ r e. first_of_both name other q r e ∙ apart)

-- a session that is not open has no pieces
pub no_pieces : (uploads pieces : List Row) (name : Text) (number : ℕ) → AllByRecursion (IsOpen uploads) pieces → find (of_session name number) uploads ≡ None → pieces_of pieces name number ≡ []
no_pieces uploads pieces name number opens none = ap (sort_by by_start) (none_kept (of_session name number) pieces (all_weaker (IsOpen uploads) (λ p. of_session name number p ≡ false) each pieces opens))
  where
    each : (p : Row) → IsOpen uploads p → of_session name number p ≡ false
    each p there = false_from_ne_true _ (λ e. let key = is_session name number p e in true≢false (sym there ∙ (λ i. has_session uploads (key.0 i) (key.1 i)) ∙ ap is_some none))

-- a number above the last one that was given out is free
pub number_free : (t : Tables) (name : Text) (number : ℕ) → IsRegistry t → last_in t.repos name < number → find (of_session name number) t.uploads ≡ None
number_free t name number is above = go (find (of_session name number) t.uploads) refl
  where
    go : (o : Option Row) → find (of_session name number) t.uploads ≡ o → o ≡ None
    go None e = refl
    go (Some r) e =
        let agrees = found_all (UploadAgrees t.repos t.pieces) (of_session name number) t.uploads r is.agree.uploads e in
        let key = is_session name number r (found_passes (of_session name number) t.uploads r e) in
        let given = agrees.given in
        let last = ap (λ n. last_in t.repos n) key.0 in
        let same = key.1 in
        absurd (omega (arith, given, last, same, above))
