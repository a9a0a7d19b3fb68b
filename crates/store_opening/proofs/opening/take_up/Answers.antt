use Rattle.sqlite.specs.Held.{state}
use Rattle.store_contents.specs.Layouts.{InTables}
use Rattle.store_statements.specs.Held.{held}
use Rattle.store_opening.specs.Opening.{versions_in}
use Rattle.store_opening.proofs.OpeningLemmas.{knows_version, is_marked, settled, is_two, two_told, wanting_told, other_told, unsaid_told, told_as, never_two, names_none, unnamed, unanswered, on_two, on_err, two_asked, never_both, never_neither, bare_unmarked}
use Rattle.store_statements.proofs.SettledAfter.{stays_read}
use Rattle.store_opening.proofs.VersionAsked.{back_left, unnumbered}
use Rattle.store_contents.proofs.Lasting.{lasts}
use Rattle.store_opening.proofs.opening.take_up.Goals as goal

pub returns-then-not-is_marked : goal.returns-then-not-is_marked
returns-then-not-is_marked g c = record {
  made = c.create.ensures.made;
  found = λ clean idle h. absurd (never_both c.is_marked.result _ c.is_marked.ensures (is_marked (state g.S.Store c.args.conn.now).now.schema h.holds.known.version) c.if-not-is_marked.true);
  unmade = c.create.ensures.wanting;
  wanting = λ clean h. absurd (never_both c.is_marked.result _ c.is_marked.ensures (is_marked (state g.S.Store c.args.conn.now).now.schema h.holds.known.version) c.if-not-is_marked.true);
  two = λ clean h. absurd (never_both c.is_marked.result _ c.is_marked.ensures (is_marked (state g.S.Store c.args.conn.now).now.schema h.known.version) c.if-not-is_marked.true);
  other = λ clean h n alone not_two. absurd (never_both c.is_marked.result _ c.is_marked.ensures (is_marked (state g.S.Store c.args.conn.now).now.schema h.known.version) c.if-not-is_marked.true);
  unsaid = λ clean h none. absurd (never_both c.is_marked.result _ c.is_marked.ensures (is_marked (state g.S.Store c.args.conn.now).now.schema h.known.version) c.if-not-is_marked.true);
  asked = λ clean marked. absurd (never_both c.is_marked.result _ c.is_marked.ensures marked c.if-not-is_marked.true);
  free = λ clean unmarked. c.create.ensures.free clean;
  beside = λ clean unmarked. c.create.ensures.beside clean;
  unmarked = λ marked. unnamed c.create.result c.create.ensures.unnumbered;
  unanswered = λ clean none. unnamed c.create.result c.create.ensures.unnumbered;
  told = λ clean. unnumbered (state g.S.Store c.args.conn.now) c.create.result c.create.ensures.unnumbered;
  another = names_none c.create.result c.create.ensures.unnumbered;
  back = c.create.ensures.back;
  survives = c.create.ensures.survives;
}

pub returns : goal.returns
returns g c = record {
  made = λ clean bare. absurd (never_neither c.is_marked.result _ c.is_marked.ensures (bare_unmarked (state g.S.Store c.args.conn.now).now bare) c.if-not-is_marked.false);
  found = λ clean idle h.
      on_two c.read_version.result c.only_two.result _ _ c.only_two.ensures.two (c.read_version.ensures.same clean)
      (stays_read (state g.S.Store c.args.conn.now) (state g.S.Store c.read_version.new.conn) (settled (state g.S.Store c.args.conn.now) idle h));
  unmade = λ clean bare. absurd (never_neither c.is_marked.result _ c.is_marked.ensures (bare_unmarked (state g.S.Store c.args.conn.now).now bare) c.if-not-is_marked.false);
  wanting = λ clean h. wanting_told (versions_in (state g.S.Store c.args.conn.now).now) c.read_version.result (c.read_version.ensures.alone clean (knows_version (state g.S.Store c.args.conn.now).now h.holds)) c.only_two.result c.only_two.ensures.other h.agree.version (c.read_version.ensures.whole clean (knows_version (state g.S.Store c.args.conn.now).now h.holds));
  two = λ clean h.
      is_two c.only_two.result (held InTables (state g.S.Store c.args.conn.now)).version
      (two_told (versions_in (state g.S.Store c.args.conn.now).now) c.read_version.result (c.read_version.ensures.alone clean (knows_version (state g.S.Store c.args.conn.now).now h)) c.only_two.result c.only_two.ensures.two);
  other = λ clean h n alone not_two. other_told (versions_in (state g.S.Store c.args.conn.now).now) c.read_version.result (c.read_version.ensures.alone clean (knows_version (state g.S.Store c.args.conn.now).now h)) c.only_two.result c.only_two.ensures.other n alone (c.read_version.ensures.whole clean (knows_version (state g.S.Store c.args.conn.now).now h) n alone);
  unsaid = λ clean h none. unsaid_told (versions_in (state g.S.Store c.args.conn.now).now) c.read_version.result (c.read_version.ensures.alone clean (knows_version (state g.S.Store c.args.conn.now).now h)) c.only_two.result c.only_two.ensures.other none c.read_version.ensures.none;
  asked = λ clean marked. two_asked (state g.S.Store c.args.conn.now) c.read_version.result (c.read_version.ensures.told clean) c.only_two.result c.only_two.ensures.two;
  free = λ clean unmarked. absurd (never_neither c.is_marked.result _ c.is_marked.ensures unmarked c.if-not-is_marked.false);
  beside = λ clean unmarked. absurd (never_neither c.is_marked.result _ c.is_marked.ensures unmarked c.if-not-is_marked.false);
  unmarked = λ unmarked. absurd (never_neither c.is_marked.result _ c.is_marked.ensures unmarked c.if-not-is_marked.false);
  unanswered = λ clean none.
      unanswered (state g.S.Store c.args.conn.now) c.only_two.result
      (told_as (state g.S.Store c.args.conn.now) c.read_version.result c.only_two.result c.only_two.ensures.other (c.read_version.ensures.told clean) c.read_version.ensures.unnumbered)
      none;
  told = λ clean. told_as (state g.S.Store c.args.conn.now) c.read_version.result c.only_two.result c.only_two.ensures.other (c.read_version.ensures.told clean) c.read_version.ensures.unnumbered;
  another = never_two c.read_version.result c.only_two.result c.only_two.ensures.other c.read_version.ensures.unnumbered;
  back = λ clean idle. on_err c.only_two.result _ (back_left (state g.S.Store c.args.conn.now) (state g.S.Store c.read_version.new.conn) idle.committed (c.read_version.ensures.left clean));
  survives = lasts (state g.S.Store c.args.conn.now) (state g.S.Store c.read_version.new.conn) (λ _. ⊥) c.read_version.ensures.survives;
}
