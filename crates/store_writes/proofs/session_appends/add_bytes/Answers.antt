use Rattle.std.proofs.Common.{◌∙◌, ap, subst, sym, OnOk, ◌+◌, ◌<◌}
use Rattle.std.specs.Prelude.{find, ◌^◌}
use Rattle.sqlite.specs.State.{HasCleanDisk}
use Rattle.sqlite.specs.Held.{state}
use Rattle.store_places.specs.Source as source
use Rattle.store_statements.specs.Held.{Becomes}
use Rattle.store_statements.specs.Steps.{uploads_changed, PieceComes}
use Rattle.store_statements.specs.Changes.{with_size, piece_columns}
use Rattle.store_statements.specs.Keys.{of_session}
use Rattle.store_places.specs.Source.{size_in}
use Rattle.store_schema.proofs.Selects.{commit_then, survives_both}
use Rattle.store_statements.specs.Held.{held}
use Rattle.store_statements.specs.Keys.{has_start}
use Rattle.store_statements.specs.Steps.{PieceStored}
use Rattle.store_statements.specs.Tables.{Tables}
use Rattle.store_statements.proofs.CleanBefore.{was_clean}
use Rattle.store_writes.proofs.BytesStored.{after_step, piece_fresh, piece_stored_if}
use Rattle.store_writes.proofs.Fitting.{first_fits, second_fits}
use Rattle.store_writes.proofs.session_appends.add_bytes.Goals as goal

pub returns-in-Ok-keep_with : goal.returns-in-Ok-keep_with
returns-in-Ok-keep_with g c =
    let old = state g.S.Store c.args.tx.now.conn.now in
    let mid = state g.S.Store c.set_size.new.tx.conn.now in
    let late = state g.S.Store c.keep_with.new.tx.conn.now in
    let new = state g.S.Store c.add_piece.new.tx.conn.now in
    let clean-2 : HasCleanDisk new → HasCleanDisk late = was_clean c.add_piece.ensures.survives in
    let clean-1 : HasCleanDisk late → HasCleanDisk mid = was_clean c.keep_with.ensures.survives in
    record {
      appended = λ l suits clean is fresh.
          let set = subst (λ n. Becomes l mid (uploads_changed (of_session c.args.repo.now c.args.number) (with_size (c.args.size + n)) (held l old))) (sym (c.len.ensures.text l suits)) (c.in-Ok.ensures.set l (clean-1 (clean-2 clean)) is) in
          let kept = c.in-Ok-keep_with.ensures.content l suits (clean-2 clean) set.0 in
          after_step l (λ s n. PieceStored s n c.args.repo.now c.args.number c.args.size (source.text_in l c.args.source) (source.runs_in c.args.source)) _ mid new c.add_piece.result set.1
          (piece_stored_if l mid late new c.in-Ok-keep_with.content.id c.args.repo.now c.args.number c.args.size (source.text_in l c.args.source) (source.runs_in c.args.source) c.add_piece.result kept.1
          (subst (λ n. OnOk c.add_piece.result (PieceComes l late new (piece_columns c.args.repo.now c.args.number c.args.size n c.in-Ok-keep_with.content.id))) (sym (c.len-in-Ok-keep_with.ensures.text l suits)) (c.add_piece.ensures.added l clean kept.0 (piece_fresh (held l mid) (held l late) c.in-Ok-keep_with.content.id c.args.repo.now c.args.number c.args.size (source.text_in l c.args.source) kept.1
          (ap (λ (t : Tables). find (has_start c.args.repo.now c.args.number c.args.size) t.pieces) set.1 ∙ fresh)))));
      kept = λ l suits clean is.
          let set = subst (λ n. Becomes l mid (uploads_changed (of_session c.args.repo.now c.args.number) (with_size (c.args.size + n)) (held l old))) (sym (c.len.ensures.text l suits)) (c.in-Ok.ensures.set l (clean-1 (clean-2 clean)) is) in
          commit_then old late new (commit_then old mid late (c.set_size.ensures.kept l (clean-1 (clean-2 clean)) is) (c.keep_with.ensures.kept l suits (clean-2 clean) set.0))
          (c.add_piece.ensures.kept l clean (c.in-Ok-keep_with.ensures.content l suits (clean-2 clean) set.0).0);
      same_reference = c.add_piece.ensures.same_reference ∙ c.keep_with.ensures.same_reference ∙ c.set_size.ensures.same_reference;
      survives = survives_both old late new (survives_both old mid late c.set_size.ensures.survives c.keep_with.ensures.survives) c.add_piece.ensures.survives;
    }

pub set_size-requires : goal.set_size-requires
set_size-requires g c = record { number_fits = c.requires.number_fits; size_fits = subst (λ n. c.args.size + n < 2 ^ 63) (sym c.len.ensures.size) c.requires.fits }

pub add_piece-requires : goal.add_piece-requires
add_piece-requires g c = record { number_fits = c.requires.number_fits; start_fits = first_fits c.args.size (size_in c.args.source) c.requires.fits; size_fits = subst (λ n. n < 2 ^ 63) (sym c.len-in-Ok-keep_with.ensures.size) (second_fits c.args.size (size_in c.args.source) c.requires.fits) }

pub returns-in-Err-keep_with : goal.returns-in-Err-keep_with
returns-in-Err-keep_with g c =
    let old = state g.S.Store c.args.tx.now.conn.now in
    let mid = state g.S.Store c.set_size.new.tx.conn.now in
    let new = state g.S.Store c.keep_with.new.tx.conn.now in
    record {
      appended = λ l suits clean is fresh. tt;
      kept = λ l suits clean is.
          let early : HasCleanDisk mid = was_clean c.keep_with.ensures.survives clean in
          commit_then old mid new (c.set_size.ensures.kept l early is) (c.keep_with.ensures.kept l suits clean (c.in-Ok.ensures.set l early is).0);
      same_reference = c.keep_with.ensures.same_reference ∙ c.set_size.ensures.same_reference;
      survives = survives_both old mid new c.set_size.ensures.survives c.keep_with.ensures.survives;
    }

pub returns-in-Err : goal.returns-in-Err
returns-in-Err g c = record {
  appended = λ l suits clean is fresh. tt;
  kept = λ l suits. c.set_size.ensures.kept l;
  same_reference = c.set_size.ensures.same_reference;
  survives = c.set_size.ensures.survives;
}
