use Rattle.std.proofs.Common.{◌≡◌, [], ◌∷◌, map, not}
use Rattle.std.specs.Prelude.{filter, Vec}
use Rattle.std.specs.declared.alloc.Global.{Global}
use Rattle.std.specs.List.Sorted.{IsPermutation}
use Rattle.sqlite.specs.Held.{state}
use Rattle.sqlite.specs.Order.{Row, column}
use Rattle.store_schema.proofs.Selects.{leaves_all, keeps_by_query}
use Rattle.store_contents.specs.declared.content_id.ContentId.{ContentId}
use Rattle.store_contents.specs.Linked.{is_linked, id_shown, ids_in, rows_in}
use Rattle.store_contents.specs.Texts.{list_text}
use Rattle.store_contents.proofs.ListingLemmas.{lists, list_plain, unlinked_are}
use Rattle.store_contents.proofs.Reading.{value_read, same_read}
use Rattle.store_contents.proofs.listing.unlinked.Goals as goal

pub returns : goal.returns
returns g c =
    let old = state g.S.Store c.args.tx.now.conn.now in
    let new = state g.S.Store c.query_all.new.self.conn.now in
    record {
      ids = λ l clean is.
          value_read (λ rows (ids : Vec ContentId Global). ids.items ≡ filter (λ id. not (is_linked c.args.linked.now id)) (map id_shown rows)) c.query_all.result c.all_lacking.result c.all_lacking.ensures
          (λ ids. IsPermutation (filter (λ id. not (is_linked c.args.linked.now id)) (ids_in l old.now)) ids.items) (λ rows. IsPermutation (map (λ (r : Row). column r 0 ∷ []) (rows_in l old.now)) rows.items)
          (lists l old new c.query_all.result is (c.query_all.ensures.ok clean)) (λ rows ids same e. unlinked_are l old.now c.args.linked.now rows.items ids.items same e);
      same = λ l clean is. same_read _ c.query_all.result c.all_lacking.result c.all_lacking.ensures old new (leaves_all list_text [] old new c.query_all.result (list_plain l old.now is) (c.query_all.ensures.ok clean));
      kept = λ l clean is. keeps_by_query list_text [] old new c.query_all.result (list_plain l old.now is) (c.query_all.ensures.ok clean) (c.query_all.ensures.err clean);
      same_reference = c.query_all.ensures.same_reference;
      survives = c.query_all.ensures.survives;
    }
