use Rattle.std.proofs.Common.{◌≡◌, ◌∙◌, Bool, [], ◌∷◌, map}
use Rattle.std.specs.Prelude.{filter}
use Rattle.std.specs.List.{list_any}
use Rattle.std.specs.List.Sorted.{IsPermutation}
use Rattle.sqlite.specs.Held.{state}
use Rattle.sqlite.specs.Order.{Row, column}
use Rattle.sqlite.specs.declared.types.Value.TheVariants.{Text}
use Rattle.store_schema.proofs.Selects.{leaves_all, query_survives}
use Rattle.store_contents.specs.Contents.{content_rows, bytes_in}
use Rattle.store_contents.specs.Hashed.{shows_id, has_hash}
use Rattle.store_contents.specs.Search.{has_sha256}
use Rattle.store_contents.specs.Texts.{hash_text}
use Rattle.store_contents.proofs.HashLemmas.{ids_shown, hash_is, leaves_failed}
use Rattle.store_contents.proofs.Lasting.{lasts}
use Rattle.store_contents.proofs.Reading.{value_read, same_read, left_read}
use Rattle.store_contents.proofs.hashed.is_hashed.Goals as goal

pub returns : goal.returns
returns g c =
    let old = state g.S.Store c.args.conn.now in
    let new = state g.S.Store c.query_all-shown.new.self in
    record {
      found = λ clean is.
          value_read (λ rows (found : Bool). found ≡ list_any (shows_id c.args.id.id) rows) c.query_all-shown.result c.any_shown.result c.any_shown.ensures
          (λ found. found ≡ has_hash (bytes_in old.now c.args.id.id) c.args.sha256.now) (λ rows. IsPermutation (map (λ (r : Row). column r 0 ∷ []) (filter (has_sha256 c.args.sha256.now) (content_rows old.now))) rows.items)
          (ids_shown old new c.args.sha256.now c.query_all-shown.result is (rw c.params-to_sql.ensures at (c.query_all-shown.ensures.ok clean)))
          (λ rows found same e. e ∙ hash_is old.now is c.args.id.id c.args.sha256.now rows.items same);
      same = λ clean is.
          same_read _ c.query_all-shown.result c.any_shown.result c.any_shown.ensures old new
          (leaves_all hash_text (Text c.args.sha256.now ∷ []) old new c.query_all-shown.result is.known.texts.hash.plain (rw c.params-to_sql.ensures at (c.query_all-shown.ensures.ok clean)));
      failed = λ clean is.
          left_read old new c.query_all-shown.result c.any_shown.result
          (leaves_all hash_text (Text c.args.sha256.now ∷ []) old new c.query_all-shown.result is.known.texts.hash.plain (rw c.params-to_sql.ensures at (c.query_all-shown.ensures.ok clean)))
          (leaves_failed hash_text (Text c.args.sha256.now ∷ []) old new c.query_all-shown.result is.known.texts.hash.plain (rw c.params-to_sql.ensures at (c.query_all-shown.ensures.err clean)));
      survives = λ is. query_survives hash_text (Text c.args.sha256.now ∷ []) old new (λ early. (is early).known.texts.hash.plain) (rw c.params-to_sql.ensures at c.query_all-shown.ensures.survives);
      lasts = lasts old new _ c.query_all-shown.ensures.survives;
    }
