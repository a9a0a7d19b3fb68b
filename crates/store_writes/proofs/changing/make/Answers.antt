use Rattle.std.proofs.Common.{◌∙◌, sym, refl}
use Rattle.sqlite.specs.Held.{state}
use Rattle.sqlite.specs.State.{State}
use Rattle.store_statements.proofs.Alone.{lasts}
use Rattle.store_contents.specs.Layouts.{Layout}
use Rattle.store_statements.specs.Between.{CommitsFrom}
use Rattle.store_statements.specs.Held.{Commits, held}
use Rattle.store_statements.proofs.ChangesTold.{told_so, told_memory, told_lasts, told_back, told_crash}
use Rattle.store_statements.proofs.CleanBefore.{was_clean}
use Rattle.store_statements.proofs.Crashes.{outcome_unmade, outcome_made, kept_stayed}
use Rattle.store_statements.proofs.Checks.{never_storage, survives_here}
use Rattle.store_writes.specs.Changing.{Asks, Makes, Suits}
use Rattle.store_writes.proofs.SchemaKept.{schema_kept}
use Rattle.store_writes.proofs.Transacted.{alone_asking, alone_left}
use Rattle.store_writes.proofs.changing.make.Goals as goal

pub returns-2 : goal.returns-2
returns-2 g c =
    let old = c.args.conn.now in
    let same = c.conn-1.given.1 (sym (c.work.ensures.same_reference ∙ c.alone-transaction.ensures.same_reference)) in
    let did = λ (l : Layout) (suits : Suits l c.args.change). alone_asking old c.alone-transaction.ensures.begun c.alone-done.ensures.ended (Asks c.args.change) (Makes l c.args.change) (c.work.ensures.made l suits) (c.work.ensures.kept l suits) c.work.ensures.survives in
    let told = rw same at c.checked.ensures.told in
    let new = c.checked.new.conn in
    record {
      made = λ l suits free clean is. told_so old {new = new} told (λ (s : State). Commits l s (held l s) × Makes l c.args.change (held l (state g.S.Store old)) (held l s)) clean (λ late. (did l suits).0 free late is);
      back = λ l suits free. told_back old {new = new} told ((did l suits).1 free);
      crash = λ l suits free clean is.
          outcome_made g.S.Store g.met.S.Store.settled old new c.checked.result (Makes l c.args.change) (schema_kept l c.args.change) is
          (told_so old {new = new} told (λ (s : State). Commits l s (held l s) × Makes l c.args.change (held l (state g.S.Store old)) (held l s)) clean (λ late. (did l suits).0 free late is))
          (λ db may. alone_left old c.alone-transaction.ensures.begun c.alone-done.ensures.ended (Asks c.args.change) (Makes l c.args.change) (c.work.ensures.made l suits) (c.work.ensures.kept l suits) c.work.ensures.survives free (was_clean told.survives clean) is db (told_crash old {new = new} told clean db may));
      memory = λ l suits free. told_memory old {new = c.checked.new.conn} told ((did l suits).1 free);
      survives = told_lasts old {new = c.checked.new.conn} told (lasts old c.alone-transaction.ensures.begun c.alone-done.ensures.ended c.work.ensures.survives);
    }

pub returns : goal.returns
returns g c = record {
  made = λ l suits free clean is. tt;
  memory = λ l suits free clean is e. absurd (never_storage e);
  back = λ l suits free clean is is_open. (refl, refl);
  crash = λ l suits free clean is. outcome_unmade (state g.S.Store c.args.conn.now) (state g.S.Store c.args.conn.now) (CommitsFrom g.S.Store l c.args.conn.now c.args.conn.now (Makes l c.args.change)) (kept_stayed g.S.Store g.met.S.Store.settled c.args.conn.now c.args.conn.now is (is, refl));
  survives = survives_here (state g.S.Store c.args.conn.now);
}

pub work-requires : goal.work-requires
work-requires g c = record { fits = c.requires.fits }
