use Rattle.std.proofs.Common.{◌≡◌, ◌∙◌, ◌<◌, ℕ, length, ap, subst, Some, Result, IfOk, refl, ◌+◌, sym}
use Rattle.std.specs.Prelude.{find, option_map, Option, ◌^◌}
use Rattle.sqlite.specs.State.{HasCleanDisk}
use Rattle.sqlite.specs.Held.{state}
use Rattle.store_places.specs.Source as source
use Rattle.store_places.specs.Source.{size_in}
use Rattle.store_writes.specs.Worlds.{AddsRows}
use Rattle.store_contents.specs.Layouts.{Layout}
use Rattle.store_schema.specs.Rows.{natural_at}
use Rattle.store_statements.specs.Keys.{of_session}
use Rattle.store_writes.proofs.SessionWrites.{appends_nothing, piece_free, appends}
use Rattle.store_statements.specs.Held.{held}
use Rattle.store_statements.proofs.Transactions.{survives_all}
use Rattle.store_statements.proofs.WritesAfterReads.{memory_told}
use Rattle.store_statements.proofs.CleanBefore.{was_clean}
use Rattle.oci_types.specs.declared.fault.Fault.{Fault}
use Rattle.store_statements.specs.Held.{IsSettled, StaysSettled, SettlesOn, world_in, is_storage}
use Rattle.store_statements.proofs.SettledAfter.{stays_then}
use Rattle.store_statements.proofs.Alone.{less, less_err}
use Rattle.registry_model.specs.Lookups as Lookups
use Rattle.store_statements.proofs.Checks.{fault_is, never_done, never_storage}
use Rattle.store_statements.proofs.Checks.{survives_here}
use Rattle.store_writes.proofs.Fitting.{not_above, some_more}
use Rattle.store_statements.proofs.Crashes.{back_from, kept_stayed, crash_failed, crash_made, crash_same}
use Rattle.store_statements.specs.Steps.{Appended}
use Rattle.store_writes.proofs.ContentsStay.{from_read, grow_from, piece_rows}
use Rattle.store_writes.proofs.SomeBytes.{no_places, puts_none, puts_some}
use Rattle.store_writes.proofs.session_appends.append.Goals as goal

pub as_str-repo-requires : goal.as_str-repo-requires
as_str-repo-requires g c = tt

pub find_upload-requires : goal.find_upload-requires
find_upload-requires g c = record { fits = not_above c.args.number c.if-number-gt-LARGEST.false }

pub make-requires : goal.make-requires
make-requires g c = record { fits = (not_above c.args.number c.if-number-gt-LARGEST.false, subst (λ n. c.in-Ok.size + n < 2 ^ 63) c.len-2.ensures.size c.in-Ok.ensures.room, c.requires.fits, c.requires.hashed) }

pub returns-then-len-eq0 : goal.returns-then-len-eq0
returns-then-len-eq0 g c = record {
  made = λ l suits is_open clean is. appends_nothing (state g.S.Store c.args.conn.now) c.args.repo.now c.args.number (source.text_in l c.args.source) is (is_open clean) (c.len.ensures.text l suits ∙ c.if-len-eq0.true);
  memory = λ l suits clean is memory. absurd (never_done memory);
  back = λ l suits clean is. tt;
  crash = λ l suits is_open clean is.
      crash_same g.S.Store c.args.conn.now c.args.conn.now (λ w. Lookups.append w c.args.repo.now c.args.number (source.text_in l c.args.source)) is (kept_stayed g.S.Store g.met.S.Store.settled c.args.conn.now c.args.conn.now is (is, refl))
      (appends_nothing (state g.S.Store c.args.conn.now) c.args.repo.now c.args.number (source.text_in l c.args.source) is (is_open clean) (c.len.ensures.text l suits ∙ c.if-len-eq0.true)).1;
  grows = λ l suits clean is id bytes e. e;
  places = λ l suits clean is. no_places c.args.source c.requires.fits (sym c.len.ensures.size ∙ c.if-len-eq0.true) (held l (state g.S.Store c.args.conn.now));
  contents = λ l suits clean is. puts_none (source.text_in l c.args.source) (size_in c.args.source) (held l (state g.S.Store c.args.conn.now)) (sym c.len.ensures.size ∙ c.if-len-eq0.true);
  survives = survives_here (state g.S.Store c.args.conn.now);
}

pub returns-then-number-gt-LARGEST : goal.returns-then-number-gt-LARGEST
returns-then-number-gt-LARGEST g c = record {
  made = λ l suits is_open clean is. tt;
  memory = λ l suits clean is memory. absurd (never_storage memory);
  back = λ l suits clean is is_open. (refl, refl);
  crash = λ l suits is_open clean is.
      crash_failed g.S.Store c.args.conn.now c.args.conn.now (λ w. Lookups.append w c.args.repo.now c.args.number (source.text_in l c.args.source)) is (kept_stayed g.S.Store g.met.S.Store.settled c.args.conn.now c.args.conn.now is (is, refl));
  grows = λ l suits clean is. tt;
  places = λ l suits clean is. tt;
  contents = λ l suits clean is. tt;
  survives = survives_here (state g.S.Store c.args.conn.now);
}

pub returns-in-Err : goal.returns-in-Err
returns-in-Err g c = record {
  made = λ l suits is_open clean is. tt;
  memory = λ l suits clean is memory.
      c.find_upload.ensures.settled l clean is (ap (λ (r : Result (Option ℕ) Fault). is_storage r) (c.in-Err.ensures.memory (fault_is memory)) ∙ memory_told (Option ℕ) c.in-Err.fault memory);
  back = λ l suits clean is. (c.find_upload.ensures.kept l clean is).back;
  crash = λ l suits is_open clean is. crash_failed g.S.Store c.args.conn.now c.find_upload.new.conn (λ w. Lookups.append w c.args.repo.now c.args.number (source.text_in l c.args.source)) is (c.find_upload.ensures.kept l clean is);
  grows = λ l suits clean is. tt;
  places = λ l suits clean is. tt;
  contents = λ l suits clean is. tt;
  survives = c.find_upload.ensures.survives;
}

pub returns-in-Ok : goal.returns-in-Ok
returns-in-Ok g c =
    let old = state g.S.Store c.args.conn.now in
    let mid = state g.S.Store c.find_upload.new.conn in
    let end = state g.S.Store c.make.new.conn in
    let early : HasCleanDisk end → HasCleanDisk mid = was_clean c.make.ensures.survives in
    let stays : (l : Layout) → HasCleanDisk mid → IsSettled l old → StaysSettled l old mid = λ l clean is. c.find_upload.ensures.settled l clean is (ap (λ (r : Result (Option ℕ) Fault). is_storage r) c.in-Ok.ensures.same) in
    let sized : (l : Layout) → HasCleanDisk mid → IsSettled l old → Some c.in-Ok.size ≡ option_map (λ r. natural_at r 3) (find (of_session c.as_str-repo.result.now c.args.number) (held l old).uploads) =
    λ l clean is. subst (λ r. IfOk r (λ o. o ≡ option_map (λ r. natural_at r 3) (find (of_session c.as_str-repo.result.now c.args.number) (held l old).uploads))) c.in-Ok.ensures.same (c.find_upload.ensures.found l clean is) in
    record {
      made = λ l suits is_open clean is.
          let late = early clean in
          let more : 0 < length (source.text_in l c.args.source) = some_more (length (source.text_in l c.args.source)) c.len.result (c.len.ensures.text l suits) c.if-len-eq0.false in
          less c.make.result
          (λ it. subst (λ name. SettlesOn l end (Lookups.append (world_in l old) name c.args.number (source.text_in l c.args.source))) c.as_str-repo.ensures.text (appends old mid end c.as_str-repo.result.now c.args.number c.in-Ok.size (source.text_in l c.args.source) is (stays l late is) (sized l late is) more it))
          (c.make.ensures.made l suits (λ clean. piece_free old mid c.as_str-repo.result.now c.args.number c.in-Ok.size is (stays l clean is) (sized l clean is)) clean (stays l late is).0);
      memory = λ l suits clean is memory.
          let late = early clean in
          stays_then old mid end (stays l late is)
          (c.make.ensures.memory l suits (λ clean. piece_free old mid c.as_str-repo.result.now c.args.number c.in-Ok.size is (stays l clean is) (sized l clean is)) clean (stays l late is).0 memory);
      back = λ l suits clean is.
          let late = early clean in
          less_err c.make.result (back_from old mid end is (stays l late is)) (c.make.ensures.back l suits (λ clean. piece_free old mid c.as_str-repo.result.now c.args.number c.in-Ok.size is (stays l clean is) (sized l clean is)) clean (stays l late is).0);
      crash = λ l suits is_open clean is.
          let late = early clean in
          let more : 0 < length (source.text_in l c.args.source) = some_more (length (source.text_in l c.args.source)) c.len.result (c.len.ensures.text l suits) c.if-len-eq0.false in
          crash_made g.S.Store c.args.conn.now c.make.new.conn (λ w. Lookups.append w c.args.repo.now c.args.number (source.text_in l c.args.source)) c.find_upload.new.conn (λ t u. Appended t u c.as_str-repo.result.now c.args.number c.in-Ok.size (source.text_in l c.args.source) (source.runs_in c.args.source)) is (stays l late is)
          (λ s it. subst (λ name. SettlesOn l s (Lookups.append (world_in l old) name c.args.number (source.text_in l c.args.source))) c.as_str-repo.ensures.text (appends old mid s c.as_str-repo.result.now c.args.number c.in-Ok.size (source.text_in l c.args.source) is (stays l late is) (sized l late is) more it)) c.make.result c.make.result (λ X x. x)
          (c.make.ensures.crash l suits (λ clean. piece_free old mid c.as_str-repo.result.now c.args.number c.in-Ok.size is (stays l clean is) (sized l clean is)) clean (stays l late is).0);
      places = λ l suits clean is.
          let late = early clean in
          less c.make.result (λ it. (from_read old mid (stays l late is) (AddsRows (source.text_in l c.args.source) (source.runs_in c.args.source)) end (piece_rows c.as_str-repo.result.now c.args.number c.in-Ok.size _ _ _ _ it.1)).0)
          (c.make.ensures.made l suits (λ clean. piece_free old mid c.as_str-repo.result.now c.args.number c.in-Ok.size is (stays l clean is) (sized l clean is)) clean (stays l late is).0);
      contents = λ l suits clean is.
          let late = early clean in
          less c.make.result (λ it. puts_some (source.text_in l c.args.source) (size_in c.args.source) _ _ (subst (λ n. n ≡ 0 → ⊥) c.len.ensures.size c.if-len-eq0.false) (from_read old mid (stays l late is) (AddsRows (source.text_in l c.args.source) (source.runs_in c.args.source)) end (piece_rows c.as_str-repo.result.now c.args.number c.in-Ok.size _ _ _ _ it.1)).1)
          (c.make.ensures.made l suits (λ clean. piece_free old mid c.as_str-repo.result.now c.args.number c.in-Ok.size is (stays l clean is) (sized l clean is)) clean (stays l late is).0);
      grows = λ l suits clean is.
          let late = early clean in
          less c.make.result (λ it. grow_from old mid (stays l late is) end it.1.grow)
          (c.make.ensures.made l suits (λ clean. piece_free old mid c.as_str-repo.result.now c.args.number c.in-Ok.size is (stays l clean is) (sized l clean is)) clean (stays l late is).0);
      survives = survives_all old mid end _ _ c.find_upload.ensures.survives c.make.ensures.survives;
    }
