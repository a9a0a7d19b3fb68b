-- The keys that rows show.
use Rattle.std.proofs.Common.{◌≡◌, ◌∙◌, ◌+◌, ◌<◌, ◌++◌, ℕ, List, [], ◌∷◌, map, length, take, get_or, refl, ap, sym, subst}
use Rattle.std.specs.Prelude.{string_bytes}
use Rattle.std.proofs.lemmas.List.{take_more}
use Rattle.sqlite.specs.Order.{Row}
use Rattle.store_schema.specs.Rows.{bytes_at, natural_at}
use Rattle.store_migration.specs.declared.old_keys.Key.{Key}
use Rattle.store_migration.specs.declared.old_keys.SessionKey.{SessionKey}
use Rattle.store_migration.specs.Shown.{AllShown, key_shown, session_shown, two_texts, text_and_number}

-- ---- one more of them

module _ {K : Type 0} (Shows : Row → K → Type 0) where
  joined : (rows : List Row) (keys : List K) (row : Row) (key : K) → AllShown Shows rows keys → Shows row key → AllShown Shows (rows ++ row ∷ []) (keys ++ key ∷ [])
  joined [] [] row key all one = (one, tt)
  joined [] (k ∷ keys) row key all one = absurd all
  joined (r ∷ rows) [] row key all one = absurd all
  joined (r ∷ rows) (k ∷ keys) row key all one = (all.0, joined rows keys row key all.1 one)

  pub one_more : (rows : List Row) (at : ℕ) (row : Row) (key : K) (keys news : List K) → at < length rows → row ≡ get_or rows at row → Shows row key → AllShown Shows (take at rows) keys → news ≡ keys ++ key ∷ [] → AllShown Shows (take (at + 1) rows) news
  one_more rows at row key keys news low is one all e =
      subst (AllShown Shows (take (at + 1) rows)) (sym e)
      (subst (λ xs. AllShown Shows xs (keys ++ key ∷ [])) (sym (take_more rows at row low ∙ ap (λ x. take at rows ++ x ∷ []) (sym is))) (joined (take at rows) keys row key all one))

-- ---- as they are written

pub keys_told : (rows : List Row) (keys : List Key) → AllShown (λ row key. (string_bytes key.repo ≡ bytes_at row 0) × (string_bytes key.digest ≡ bytes_at row 1)) rows keys → map key_shown keys ≡ map two_texts rows
keys_told [] [] all = refl
keys_told [] (k ∷ keys) all = absurd all
keys_told (r ∷ rows) [] all = absurd all
keys_told (r ∷ rows) (k ∷ keys) all = λ i. (all.0.0 i, all.0.1 i) ∷ keys_told rows keys all.1 i

pub sessions_told : (rows : List Row) (keys : List SessionKey) → AllShown (λ row key. (string_bytes key.repo ≡ bytes_at row 0) × (key.number ≡ natural_at row 1)) rows keys → map session_shown keys ≡ map text_and_number rows
sessions_told [] [] all = refl
sessions_told [] (k ∷ keys) all = absurd all
sessions_told (r ∷ rows) [] all = absurd all
sessions_told (r ∷ rows) (k ∷ keys) all = λ i. (all.0.0 i, all.0.1 i) ∷ sessions_told rows keys all.1 i
