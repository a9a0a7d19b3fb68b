-- What the queries on tags show of them.
use Rattle.std.proofs.Common.{◌≡◌, ℕ, List, [], ◌∷◌, map, IfOk}
use Rattle.std.specs.Prelude.{filter, find}
use Rattle.std.specs.Option.{option_to_list}
use Rattle.std.specs.List.Sorted.{IsPermutation}
use Rattle.sqlite.specs.declared.types.Value.TheVariants.{Text}
use Rattle.sqlite.specs.Order.{column}
use Rattle.sqlite.specs.State.{State, Shown}
use Rattle.sqlite_keyed.specs.Lists.{sort_by}
use Rattle.store_schema.proofs.Selects.{Answer, is_text, one_test, both_tests}
use Rattle.store_contents.specs.Layouts.{Layout}
use Rattle.store_statements.specs.Keys.{of_first, has_key}
use Rattle.store_statements.specs.Tables.{IsTagRow}
use Rattle.store_statements.specs.Steps.{names_digest}
use Rattle.store_statements.specs.TagTexts.{tag_find, tag_list, tag_named, tag_pairs}
use Rattle.store_statements.specs.Held.{HoldsTables, held}
use Rattle.store_statements.specs.ManifestShown.{by_second}
use Rattle.store_statements.proofs.InOrder.{orders}
use Rattle.store_statements.proofs.Keys.{key_parts}
use Rattle.store_statements.proofs.SelectedRows.{lists, finds}

pub digest_shown : {l : Layout} → (old new : State) (repo tag : List ℕ) (r : Answer) → HoldsTables l old.now → IfOk r (λ rows. Shown tag_find (Text repo ∷ Text tag ∷ []) old new rows.items)
    → IfOk r (λ rows. rows.items ≡ map (λ r. column r 3 ∷ []) (option_to_list (find (has_key repo tag) (held l old).tags)))
digest_shown {l} old new repo tag r h ran = finds IsTagRow tag_find _ _ _ _ (Text repo ∷ Text tag ∷ []) (has_key repo tag) old new h.known.tags.stored h.tables.tags.types h.known.tag_texts.find
    (λ r it. both_tests _ _ _ _ (is_text (column r 1) _ repo it.repo) (is_text (column r 2) _ tag it.tag)) _ (key_parts repo tag) h.tables.tags.apart r ran

pub tags_shown : {l : Layout} → (old new : State) (repo : List ℕ) (r : Answer) → HoldsTables l old.now → IfOk r (λ rows. Shown tag_list (Text repo ∷ []) old new rows.items)
    → IfOk r (λ rows. IsPermutation (map (λ r. column r 2 ∷ []) (filter (of_first repo) (held l old).tags)) rows.items)
tags_shown {l} old new repo r h ran = lists IsTagRow tag_list _ _ _ _ (Text repo ∷ []) (of_first repo) old new h.known.tags.stored h.tables.tags.types h.known.tag_texts.list
    (λ r it. one_test _ _ (is_text (column r 1) _ repo it.repo)) r ran

-- in byte order, with the digests
pub shows_tags : {l : Layout} → (old new : State) (repo : List ℕ) (r : Answer) → HoldsTables l old.now → IfOk r (λ rows. Shown tag_pairs (Text repo ∷ []) old new rows.items)
    → IfOk r (λ rows. rows.items ≡ map (λ r. column r 2 ∷ column r 3 ∷ []) (sort_by by_second (filter (of_first repo) (held l old).tags)))
shows_tags {l} old new repo r h ran = orders IsTagRow tag_pairs _ _ _ _ _ (Text repo ∷ []) (of_first repo) repo old new r
    h.known.tags.stored h.tables.tags.types h.tables.tags.apart h.known.tag_texts.pairs
    (λ r it. one_test _ _ (is_text (column r 1) _ repo it.repo)) (λ r it. it.tag) (λ r e. e) ran

pub named_shown : {l : Layout} → (old new : State) (repo digest : List ℕ) (r : Answer) → HoldsTables l old.now → IfOk r (λ rows. Shown tag_named (Text repo ∷ Text digest ∷ []) old new rows.items)
    → IfOk r (λ rows. IsPermutation (map (λ r. column r 2 ∷ []) (filter (names_digest repo digest) (held l old).tags)) rows.items)
named_shown {l} old new repo digest r h ran = lists IsTagRow tag_named _ _ _ _ (Text repo ∷ Text digest ∷ []) (names_digest repo digest) old new h.known.tags.stored h.tables.tags.types h.known.tag_texts.named
    (λ r it. both_tests _ _ _ _ (is_text (column r 1) _ repo it.repo) (is_text (column r 3) _ digest it.digest)) r ran
