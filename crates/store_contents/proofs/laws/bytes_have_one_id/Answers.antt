use Rattle.std.proofs.Common.{◌≡◌, inl, inr, ℕ, ℤ, List, [], ◌∷◌, true, false, None, Some, refl, sym, ap, ◌∙◌, true≢false}
use Rattle.std.specs.Prelude.{find, Option, option_map, bytes_eq}
use Rattle.sqlite.specs.declared.types.Value.TheVariants.{Int}
use Rattle.sqlite.specs.Order.{Row}
use Rattle.sqlite.specs.Tree.{rowid, has_rowid}
use Rattle.sqlite.specs.Effect.{Database}
use Rattle.sqlite_rules.specs.Lists.{Has}
use Rattle.sqlite_rules.proofs.ListLemmas.{all_has}
use Rattle.store_schema.specs.Rows.{bytes_at}
use Rattle.store_schema.proofs.Lists.{bytes_eq_itself}
use Rattle.store_schema.proofs.Ids.{found_has}
use Rattle.store_contents.specs.Contents.{HoldsContents, AreApart, BytesHaveOneId, content_rows, bytes_in, has_bytes}
use Rattle.store_contents.proofs.laws.bytes_have_one_id.Goals as goal

alike : (r s : Row) → bytes_at r 4 ≡ bytes_at s 4 → has_bytes (bytes_at r 4) s ≡ true
alike r s e = ap (λ b. bytes_eq (bytes_at s 4) b) e ∙ bytes_eq_itself (bytes_at s 4)

-- two rows with equal bytes are one
one_row : (rows : List Row) (r s : Row) → AreApart rows → Has rows r → Has rows s → bytes_at r 4 ≡ bytes_at s 4 → r ≡ s
one_row [] r s apart h k e = absurd h
one_row (x ∷ xs) r s apart (inl a) (inl b) e = a ∙ sym b
one_row (x ∷ xs) r s apart (inl a) (inr k) e =
    absurd (true≢false (sym (alike x s (ap (λ y. bytes_at y 4) (sym a) ∙ e)) ∙ all_has (λ y. has_bytes (bytes_at x 4) y ≡ false) xs s apart.0 k))
one_row (x ∷ xs) r s apart (inr h) (inl b) e =
    absurd (true≢false (sym (alike x r (ap (λ y. bytes_at y 4) (sym b) ∙ sym e)) ∙ all_has (λ y. has_bytes (bytes_at x 4) y ≡ false) xs r apart.0 h))
one_row (x ∷ xs) r s apart (inr h) (inr k) e = one_row xs r s apart.1 h k e

-- the row under an id that has bytes
row_of : (db : Database) (i : ℤ) (bytes : List ℕ) → HoldsContents db → bytes_in db i ≡ Some bytes → (r : Row) × Has (content_rows db) r × (rowid r ≡ Int i) × (bytes_at r 4 ≡ bytes)
row_of db i bytes is e = go (find (has_rowid i) (content_rows db)) refl e
  where
    go : (o : Option Row) → find (has_rowid i) (content_rows db) ≡ o → option_map (λ r. bytes_at r 4) o ≡ Some bytes → (r : Row) × Has (content_rows db) r × (rowid r ≡ Int i) × (bytes_at r 4 ≡ bytes)
    go None f e = absurd (let x = e in cc)
    go (Some r) f e = let it = found_has (content_rows db) r i is.ids f in (r, it.0, it.1, cc)

one_id : BytesHaveOneId
one_id db is i j bytes e f =
    let a = row_of db i bytes is e in
    let b = row_of db j bytes is f in
    let same : a.0 ≡ b.0 = one_row (content_rows db) a.0 b.0 is.apart a.1 b.1 (a.3 ∙ sym b.3) in
    let ids : Int i ≡ Int j = sym a.2 ∙ ap rowid same ∙ b.2 in
    cc

pub returns : goal.returns
returns c = one_id
