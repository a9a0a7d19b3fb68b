use Rattle.std.proofs.Common.{◌≡◌, ◌∙◌, pos, Ok, OnOk, IfOk, inl, inr, refl, sym, ap, subst}
use Rattle.sqlite.specs.State.{HasCleanDisk, IsUnchanged}
use Rattle.sqlite.specs.Held.{state}
use Rattle.store_statements.proofs.CleanBefore.{was_clean}
use Rattle.store_statements.proofs.SettledAfter.{stays_read}
use Rattle.store_statements.proofs.Transactions.{survives_all}
use Rattle.store_opening.specs.Opening.{versions_in}
use Rattle.store_opening.specs.Asking.{IsOfSchema}
use Rattle.store_opening.proofs.OpeningLemmas.{knows_version, settled}
use Rattle.store_migration.specs.declared.migration.Known.{Known}
use Rattle.store_migration.specs.Migrating.{number_of}
use Rattle.store_migration.proofs.Asked.{old_known, old_says, new_says, same_number, not_said, one_not_new, two_not_old, refused_wanting, refused_other, refused_unsaid, refused_another, refused_told, names_neither, is_told, old_read, settles_read, crash_done, crash_undone, counts_read, free_read, back_read, left_back}
use Rattle.store_contents.proofs.Lasting.{lasts}
use Rattle.store_migration.proofs.Finishes.{left_given_up}
use Rattle.store_migration.proofs.migration.migrate_open.Goals as goal

-- ---- of schema 1

pub returns-in-Ok : goal.returns-in-Ok
returns-in-Ok g c =
    let old = state g.S.Store c.args.conn.now in
    let mid = state g.S.Store c.read_version.new.conn in
    let new = state g.S.Store c.take_over.new.conn in
    let early : HasCleanDisk new → HasCleanDisk mid = was_clean c.take_over.ensures.survives in
    let is : c.read_version.result ≡ Ok (pos 1) = c.in-Ok-One.ensures.known ∙ ap (λ (k : Known). Ok (number_of k)) c.in-Ok-One.field-0-is in
    let same : HasCleanDisk new → IsUnchanged old mid = λ clean. subst (λ f. OnOk f (IsUnchanged old mid)) is (c.read_version.ensures.same (early clean)) in
    record {
      moved = λ clean idle holds. settles_read old mid new (same clean) holds (c.in-Ok.ensures.moved clean);
      counted = λ clean idle holds. counts_read old mid new (same clean) _ holds (c.in-Ok.ensures.counted clean);
      wanting = λ clean holds. tt;
      found = λ clean idle holds. absurd (one_not_new old.now c.read_version.result (c.read_version.ensures.alone (early clean)) is holds);
      nothing = λ clean holds. absurd (one_not_new old.now c.read_version.result (c.read_version.ensures.alone (early clean)) is holds);
      unmoved = λ clean holds. tt;
      other = λ clean knows n says one two. absurd (one (sym (same_number (versions_in old.now) c.read_version.result (c.read_version.ensures.alone (early clean) knows) (pos 1) n is says)));
      unsaid = λ clean knows none. absurd (not_said (versions_in old.now) c.read_version.result (c.read_version.ensures.alone (early clean) knows) (pos 1) is none);
      asked = λ clean. subst (λ f. IfOk f (IsOfSchema old)) is (c.read_version.ensures.told (early clean));
      free = λ clean. free_read old mid new (same clean) (c.in-Ok.ensures.free clean);
      another = tt;
      told = λ clean. tt;
      back = λ clean idle holds. tt;
      left = λ clean idle never. absurd (never (subst (λ f. IfOk f (IsOfSchema old)) is (c.read_version.ensures.told (early clean))));
      crash = λ clean idle holds. crash_done g.S.Store c.args.conn.now c.read_version.new.conn c.take_over.new.conn (same clean) idle holds (c.in-Ok.ensures.crash clean);
      survives = survives_all old mid new _ _ c.read_version.ensures.survives c.take_over.ensures.survives;
    }

pub returns-in-Err-take_over : goal.returns-in-Err-take_over
returns-in-Err-take_over g c =
    let old = state g.S.Store c.args.conn.now in
    let mid = state g.S.Store c.read_version.new.conn in
    let new = state g.S.Store c.take_over.new.conn in
    let early : HasCleanDisk new → HasCleanDisk mid = was_clean c.take_over.ensures.survives in
    let is : c.read_version.result ≡ Ok (pos 1) = c.in-Ok-One.ensures.known ∙ ap (λ (k : Known). Ok (number_of k)) c.in-Ok-One.field-0-is in
    let same : HasCleanDisk new → IsUnchanged old mid = λ clean. subst (λ f. OnOk f (IsUnchanged old mid)) is (c.read_version.ensures.same (early clean)) in
    record {
      moved = λ clean idle holds. tt;
      counted = λ clean idle holds. tt;
      wanting = λ clean holds. c.in-Err-take_over.ensures.wanting clean (old_read old mid (same clean) holds);
      found = λ clean idle holds. tt;
      nothing = λ clean holds. tt;
      unmoved = λ clean holds. absurd (one_not_new old.now c.read_version.result (c.read_version.ensures.alone (early clean)) is holds);
      other = λ clean knows n says one two. absurd (one (sym (same_number (versions_in old.now) c.read_version.result (c.read_version.ensures.alone (early clean) knows) (pos 1) n is says)));
      unsaid = λ clean knows none. absurd (not_said (versions_in old.now) c.read_version.result (c.read_version.ensures.alone (early clean) knows) (pos 1) is none);
      asked = λ clean. tt;
      free = λ clean. tt;
      another = names_neither c.in-Err-take_over.fault c.in-Err-take_over.ensures.unnumbered;
      told = λ clean. is_told old c.in-Err-take_over.fault c.in-Err-take_over.ensures.unnumbered;
      back = λ clean idle holds. back_read old mid new (same clean) idle holds (c.in-Err-take_over.ensures.back clean);
      left = λ clean idle never. absurd (never (subst (λ f. IfOk f (IsOfSchema old)) is (c.read_version.ensures.told (early clean))));
      crash = λ clean idle holds. crash_undone g.S.Store c.args.conn.now c.read_version.new.conn c.take_over.new.conn (same clean) idle holds (c.in-Err-take_over.ensures.crash clean);
      survives = survives_all old mid new _ _ c.read_version.ensures.survives c.take_over.ensures.survives;
    }

-- ---- of schema 2

pub returns-in-Ok-Two : goal.returns-in-Ok-Two
returns-in-Ok-Two g c =
    let old = state g.S.Store c.args.conn.now in
    let new = state g.S.Store c.read_version.new.conn in
    let is : c.read_version.result ≡ Ok (pos 2) = c.in-Ok-Two.ensures.known ∙ ap (λ (k : Known). Ok (number_of k)) c.in-Ok-Two.field-0-is in
    record {
      moved = λ clean idle holds. absurd (two_not_old old.now c.read_version.result (c.read_version.ensures.alone clean) is holds);
      counted = λ clean idle holds. absurd (two_not_old old.now c.read_version.result (c.read_version.ensures.alone clean) is holds);
      wanting = λ clean holds. tt;
      found = λ clean idle holds. stays_read old new (settled old idle holds) (subst (λ f. OnOk f (IsUnchanged old new)) is (c.read_version.ensures.same clean));
      nothing = λ clean holds. refl;
      unmoved = λ clean holds. tt;
      other = λ clean knows n says one two. absurd (two (sym (same_number (versions_in old.now) c.read_version.result (c.read_version.ensures.alone clean knows) (pos 2) n is says)));
      unsaid = λ clean knows none. absurd (not_said (versions_in old.now) c.read_version.result (c.read_version.ensures.alone clean knows) (pos 2) is none);
      asked = λ clean. subst (λ f. IfOk f (IsOfSchema old)) is (c.read_version.ensures.told clean);
      free = λ clean. tt;
      another = tt;
      told = λ clean. tt;
      back = λ clean idle holds. tt;
      left = λ clean idle never. left_back old new idle (c.read_version.ensures.left clean);
      crash = λ clean idle holds. absurd (two_not_old old.now c.read_version.result (c.read_version.ensures.alone clean) is holds);
      survives = lasts (state g.S.Store c.args.conn.now) (state g.S.Store c.read_version.new.conn) (λ _. ⊥) c.read_version.ensures.survives;
    }

-- ---- of another, or of none

pub returns-in-Err : goal.returns-in-Err
returns-in-Err g c =
    let old = state g.S.Store c.args.conn.now in
    record {
      moved = λ clean idle holds. tt;
      counted = λ clean idle holds. tt;
      wanting = λ clean holds.
          let knows = old_known old.now holds in
          let says = old_says old.now holds in
          refused_wanting (versions_in old.now) c.read_version.result (c.read_version.ensures.alone clean knows) c.in-Err.fault c.in-Err.ensures.other (pos 1) (inl refl) says (c.read_version.ensures.whole clean knows (pos 1) says);
      found = λ clean idle holds. tt;
      nothing = λ clean holds. tt;
      unmoved = λ clean holds.
          let knows = knows_version old.now holds.holds in
          let says = new_says old.now holds in
          refused_wanting (versions_in old.now) c.read_version.result (c.read_version.ensures.alone clean knows) c.in-Err.fault c.in-Err.ensures.other (pos 2) (inr refl) says (c.read_version.ensures.whole clean knows (pos 2) says);
      other = λ clean knows n says one two. refused_other (versions_in old.now) c.read_version.result (c.read_version.ensures.alone clean knows) c.in-Err.fault c.in-Err.ensures.other n says (c.read_version.ensures.whole clean knows n says);
      unsaid = λ clean knows none. refused_unsaid (versions_in old.now) c.read_version.result (c.read_version.ensures.alone clean knows) c.in-Err.fault c.in-Err.ensures.other none c.read_version.ensures.none;
      asked = λ clean. tt;
      free = λ clean. tt;
      another = refused_another c.read_version.result c.in-Err.fault c.in-Err.ensures.other c.read_version.ensures.unnumbered;
      told = λ clean. refused_told old c.read_version.result c.in-Err.fault c.in-Err.ensures.other (c.read_version.ensures.told clean) c.read_version.ensures.unnumbered;
      back = λ clean idle holds. left_back old (state g.S.Store c.read_version.new.conn) idle (c.read_version.ensures.left clean);
      left = λ clean idle never. left_back old (state g.S.Store c.read_version.new.conn) idle (c.read_version.ensures.left clean);
      crash = λ clean idle holds trees may. (tt, inl (left_given_up g.S.Store g.met.S.Store.settled c.args.conn.now idle (state g.S.Store c.read_version.new.conn) c.read_version.ensures.survives clean trees may));
      survives = lasts (state g.S.Store c.args.conn.now) (state g.S.Store c.read_version.new.conn) (λ _. ⊥) c.read_version.ensures.survives;
    }
