use Rattle.std.proofs.Common.{◌≡◌, ◌∙◌, [], ◌∷◌, Bool, ap, rules, w64, SFits}
use Rattle.std.proofs.lemmas.Int.{to_z-of_z}
use Rattle.std.specs.Prelude.{find}
use Rattle.std.specs.List.{list_any}
use Rattle.sqlite.specs.Held.{state}
use Rattle.sqlite.specs.Tree.{has_rowid}
use Rattle.sqlite.specs.declared.types.Value.TheVariants.{Int}
use Rattle.store_schema.proofs.Selects.{leaves_all, query_survives}
use Rattle.store_contents.specs.Hashed.{has_hash, shows_digits}
use Rattle.store_contents.specs.PlaceTexts.{content_hash}
use Rattle.store_contents.specs.Places.{bytes_in, content_rows}
use Rattle.store_contents.proofs.HashLemmas.{leaves_failed}
use Rattle.store_contents.proofs.Lasting.{lasts}
use Rattle.store_contents.proofs.PackDigestLemmas.{digits_are, digits_found, digits_shown}
use Rattle.store_contents.proofs.Reading.{value_read, same_read, left_read}
use Rattle.store_contents.proofs.pack_digests.is_hashed_in_pack.Goals as goal

pub returns : goal.returns
returns g c =
    let range : SFits w64 c.get.result = search rules in
    let old = state g.S.Store c.args.conn.now in
    let new = state g.S.Store c.query_all-shown.new.self in
    let given = c.params-to_sql.ensures ∙ ap Int (to_z-of_z w64 c.get.result range ∙ c.get.ensures) in
    record {
      found = λ file clean is.
          value_read (λ rows (found : Bool). found ≡ list_any (shows_digits c.args.sha256.now) rows) c.query_all-shown.result c.any_shown.result c.any_shown.ensures
          (λ found. found ≡ has_hash (bytes_in old.now file c.args.id.id) c.args.sha256.now) (λ rows. rows.items ≡ digits_shown (find (has_rowid c.args.id.id) (content_rows old.now)))
          (digits_found c.args.id.id old new c.query_all-shown.result is.rows (rw given at (c.query_all-shown.ensures.ok clean)))
          (λ rows found same e. e ∙ digits_are file old.now is c.args.id.id c.args.sha256.now rows.items same);
      same = λ clean is.
          same_read _ c.query_all-shown.result c.any_shown.result c.any_shown.ensures old new
          (leaves_all content_hash (Int c.args.id.id ∷ []) old new c.query_all-shown.result is.known.content_texts.hash.plain (rw given at (c.query_all-shown.ensures.ok clean)));
      failed = λ clean is.
          left_read old new c.query_all-shown.result c.any_shown.result
          (leaves_all content_hash (Int c.args.id.id ∷ []) old new c.query_all-shown.result is.known.content_texts.hash.plain (rw given at (c.query_all-shown.ensures.ok clean)))
          (leaves_failed content_hash (Int c.args.id.id ∷ []) old new c.query_all-shown.result is.known.content_texts.hash.plain (rw given at (c.query_all-shown.ensures.err clean)));
      survives = λ is. query_survives content_hash (Int c.args.id.id ∷ []) old new (λ early. (is early).known.content_texts.hash.plain) (rw given at c.query_all-shown.ensures.survives);
      lasts = lasts old new _ c.query_all-shown.ensures.survives;
    }
