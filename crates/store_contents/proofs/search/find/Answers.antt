use Rattle.std.proofs.Common.{◌≡◌, ◌≢◌, ℤ, [], ◌∷◌, map, Some}
use Rattle.std.specs.Prelude.{filter, MatchOption}
use Rattle.std.specs.List.Sorted.{IsPermutation}
use Rattle.sqlite.specs.Held.{state}
use Rattle.sqlite.specs.declared.types.Value.TheVariants.{Text}
use Rattle.store_schema.proofs.Selects.{leaves_all, keeps_by_query}
use Rattle.store_contents.specs.Contents.{content_rows, bytes_in}
use Rattle.store_contents.specs.Search.{has_sha256, found_columns, ShowsFirst}
use Rattle.store_contents.specs.Texts.{find_text}
use Rattle.store_contents.proofs.Reading.{value_read, same_read}
use Rattle.store_contents.proofs.SearchLemmas.{candidates_shown, found_is}
use Rattle.store_contents.proofs.search.find.Goals as goal

pub returns : goal.returns
returns g c =
    let old = state g.S.Store c.args.tx.now.conn.now in
    let new = state g.S.Store c.query_all.new.self.conn.now in
    record {
      found = λ clean is.
          value_read (ShowsFirst c.args.bytes.now) c.query_all.result c.first_with.result c.first_with.ensures
          (λ o. MatchOption o ((i : ℤ) → bytes_in old.now i ≢ Some c.args.bytes.now) (λ id. bytes_in old.now id ≡ Some c.args.bytes.now)) (λ rows. IsPermutation (map found_columns (filter (has_sha256 c.args.sha256.now) (content_rows old.now))) rows.items)
          (candidates_shown old new c.args.sha256.now c.query_all.result is (rw c.params-to_sql.ensures at (c.query_all.ensures.ok clean)))
          (λ rows o same it. found_is old.now c.args.sha256.now c.args.bytes.now rows.items o is c.requires.hashed same it.none it.some);
      same = λ clean is.
          same_read _ c.query_all.result c.first_with.result c.first_with.ensures old new
          (leaves_all find_text (Text c.args.sha256.now ∷ []) old new c.query_all.result is.known.texts.find.plain (rw c.params-to_sql.ensures at (c.query_all.ensures.ok clean)));
      kept = λ clean is.
          keeps_by_query find_text (Text c.args.sha256.now ∷ []) old new c.query_all.result is.known.texts.find.plain (rw c.params-to_sql.ensures at (c.query_all.ensures.ok clean)) (rw c.params-to_sql.ensures at (c.query_all.ensures.err clean));
      same_reference = c.query_all.ensures.same_reference;
      survives = c.query_all.ensures.survives;
    }
