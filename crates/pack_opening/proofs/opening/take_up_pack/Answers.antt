use Rattle.std.proofs.Common.{◌∙◌}
use Rattle.sqlite.specs.Held.{state}
use Rattle.store_opening.specs.Opening.{versions_in}
use Rattle.store_opening.proofs.OpeningLemmas.{on_err}
use Rattle.store_opening.proofs.VersionAsked.{back_left}
use Rattle.store_statements.proofs.SettledAfter.{stays_read}
use Rattle.pack_opening.proofs.AskingLemmas.{knows_version, shows_three, is_packed, settled, on_three, three_asked, three_packed, wanting_three, other_told, told_other, never_three, unanswered}
use Rattle.pack_opening.proofs.opening.take_up_pack.Goals as goal

pub returns : goal.returns
returns g c =
    let old = state g.S.Store c.args.conn.now in
    let new = state g.S.Store c.read_version.new.conn in
    let found = c.read_version.result in
    let packed = c.is_there-is_packed.result in
    let three = c.only_three.ensures.three in
    record {
      found = λ clean idle file it. on_three found packed c.only_three.result _ _ three (c.read_version.ensures.same clean)
          (stays_read old new (settled file old idle it));
      wanting = λ clean file it.
          let known = knows_version file old.now it in
          wanting_three (versions_in old.now) found packed c.only_three.result (c.read_version.ensures.alone clean known)
          (c.is_there-is_packed.ensures ∙ is_packed file old.now it) c.only_three.ensures.other (shows_three file old.now it)
          (c.read_version.ensures.whole clean known _ (shows_three file old.now it));
      other = λ clean known n says not_three. other_told (versions_in old.now) found packed c.only_three.result (c.read_version.ensures.alone clean known)
          c.only_three.ensures.other n says not_three (c.read_version.ensures.whole clean known n says);
      asked = λ clean. three_asked found packed old c.only_three.result three (c.read_version.ensures.told clean);
      packed = three_packed found packed c.only_three.result _ three c.is_there-is_packed.ensures;
      same = λ clean. on_three found packed c.only_three.result _ _ three (c.read_version.ensures.same clean) (λ same. same);
      unanswered = λ clean none. unanswered old found packed c.only_three.result c.only_three.ensures.other (c.read_version.ensures.told clean)
          c.read_version.ensures.none none;
      told = λ clean. told_other old found packed c.only_three.result c.only_three.ensures.other (c.read_version.ensures.told clean)
          c.read_version.ensures.unnumbered;
      another = never_three found packed c.only_three.result c.only_three.ensures.other c.read_version.ensures.unnumbered;
      back = λ clean idle. on_err c.only_three.result _ (back_left old new idle.committed (c.read_version.ensures.left clean));
      survives = c.read_version.ensures.survives;
    }
