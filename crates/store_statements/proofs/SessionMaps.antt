-- The map of a repository's sessions, after rows of uploads and pieces came, changed or went.
use Rattle.std.proofs.Common.{map, ◌≡◌, ℕ, ℤ, List, [], Bool, true, false, cond, Option, None, Some, refl, sym, ap, ◌∙◌}
use Rattle.std.specs.Prelude.{find, filter, option_map, is_some}
use Rattle.std.specs.Ordering.{eq_by_cmp, nat_cmp}
use Rattle.std.specs.FinMap.{from_entries, get, insert, remove, empty, get-insert, get-remove, same_map}
use Rattle.std.proofs.lemmas.Cmp.{nat_cmp_total}
use Rattle.std.proofs.lemmas.Map.Lookups.{exact_unsigned}
use Rattle.sqlite.specs.Order.{Row}
use Rattle.oci_types.specs.Text.{Text}
use Rattle.store_schema.proofs.Ids.{is_eq_equal}
use Rattle.store_statements.specs.Keys.{of_first, of_session}
use Rattle.store_statements.specs.World.{session_entry, pieces_of, joined, sessions_of}
use Rattle.store_statements.proofs.Base.{session_found}

-- a session stands in the rows of uploads
abbrev pub has_session : List Row → Text → ℕ → Bool
has_session uploads name number = is_some (find (of_session name number) uploads)

if_some : {X Y : Type 0} (v : Y) (o : Option X) → option_map (λ r. v) o ≡ cond (is_some o) (Some v) None
if_some v None = refl
if_some v (Some x) = refl

-- the bytes of a session, where it stands
pub session_get : (c : ℤ → Option Text) (pieces rows : List Row) (name : Text) (q : ℕ) → get (sessions_of c pieces rows name) q ≡ cond (has_session rows name q) (Some (joined c (pieces_of pieces name q))) None
session_get c pieces rows name q = session_found c pieces rows name q ∙ if_some (joined c (pieces_of pieces name q)) (find (of_session name q) rows)

-- the same sessions with the same bytes
pub same_sessions : (c : ℤ → Option Text) (old_pieces new_pieces olds news : List Row) (name : Text) → ((q : ℕ) → has_session news name q ≡ has_session olds name q)
    → ((q : ℕ) → pieces_of new_pieces name q ≡ pieces_of old_pieces name q) → sessions_of c new_pieces news name ≡ sessions_of c old_pieces olds name
same_sessions c old_pieces new_pieces olds news name has same = same_map nat_cmp_total exact_unsigned _ _ (λ q.
    session_get c new_pieces news name q ∙ ap (λ b. cond b (Some (joined c (pieces_of new_pieces name q))) None) (has q)
    ∙ ap (λ ps. cond (has_session olds name q) (Some (joined c ps)) None) (same q) ∙ sym (session_get c old_pieces olds name q))

-- one session gets its bytes
pub sessions_set : (c : ℤ → Option Text) (old_pieces new_pieces olds news : List Row) (name : Text) (number : ℕ) (bytes : Text) → ((q : ℕ) → has_session news name q ≡ cond (eq_by_cmp nat_cmp q number) true (has_session olds name q))
    → joined c (pieces_of new_pieces name number) ≡ bytes → ((q : ℕ) → eq_by_cmp nat_cmp q number ≡ false → pieces_of new_pieces name q ≡ pieces_of old_pieces name q)
    → sessions_of c new_pieces news name ≡ insert (sessions_of c old_pieces olds name) number bytes
sessions_set c old_pieces new_pieces olds news name number bytes has is same = same_map nat_cmp_total exact_unsigned _ _ (λ q.
    session_get c new_pieces news name q ∙ ap (λ b. cond b (Some (joined c (pieces_of new_pieces name q))) None) (has q) ∙ step q (eq_by_cmp nat_cmp q number) refl
    ∙ ap (cond (eq_by_cmp nat_cmp q number) (Some bytes)) (sym (session_get c old_pieces olds name q)) ∙ sym (get-insert nat_cmp_total (sessions_of c old_pieces olds name) number bytes q))
  where
    step : (q : ℕ) (b : Bool) → eq_by_cmp nat_cmp q number ≡ b
        → cond (cond b true (has_session olds name q)) (Some (joined c (pieces_of new_pieces name q))) None ≡ cond b (Some bytes) (cond (has_session olds name q) (Some (joined c (pieces_of old_pieces name q))) None)
    step q true e = ap Some (ap (λ n. joined c (pieces_of new_pieces name n)) (exact_unsigned q number (is_eq_equal _ e)) ∙ is)
    step q false e = ap (λ ps. cond (has_session olds name q) (Some (joined c ps)) None) (same q e)

-- one session goes
pub sessions_less : (c : ℤ → Option Text) (old_pieces new_pieces olds news : List Row) (name : Text) (number : ℕ) → ((q : ℕ) → has_session news name q ≡ cond (eq_by_cmp nat_cmp q number) false (has_session olds name q))
    → ((q : ℕ) → eq_by_cmp nat_cmp q number ≡ false → pieces_of new_pieces name q ≡ pieces_of old_pieces name q)
    → sessions_of c new_pieces news name ≡ remove (sessions_of c old_pieces olds name) number
sessions_less c old_pieces new_pieces olds news name number has same = same_map nat_cmp_total exact_unsigned _ _ (λ q.
    session_get c new_pieces news name q ∙ ap (λ b. cond b (Some (joined c (pieces_of new_pieces name q))) None) (has q) ∙ step q (eq_by_cmp nat_cmp q number) refl
    ∙ ap (cond (eq_by_cmp nat_cmp q number) None) (sym (session_get c old_pieces olds name q)) ∙ sym (get-remove nat_cmp_total (sessions_of c old_pieces olds name) number q))
  where
    step : (q : ℕ) (b : Bool) → eq_by_cmp nat_cmp q number ≡ b
        → cond (cond b false (has_session olds name q)) (Some (joined c (pieces_of new_pieces name q))) None ≡ cond b None (cond (has_session olds name q) (Some (joined c (pieces_of old_pieces name q))) None)
    step q true e = refl
    step q false e = ap (λ ps. cond (has_session olds name q) (Some (joined c ps)) None) (same q e)

-- no row of the repository is left
pub sessions_none : (c : ℤ → Option Text) (pieces news : List Row) (name : Text) → filter (of_first name) news ≡ [] → sessions_of c pieces news name ≡ empty
sessions_none c pieces news name none = ap (λ rows. from_entries (map (session_entry c pieces) rows)) none
