use Rattle.std.proofs.Common.{List, ℕ, inl, subst, sym}
use Rattle.std.specs.Prelude.{⊤}
use Rattle.std.specs.List.{AllByRecursion}
use Rattle.sqlite.specs.Effect.{Database}
use Rattle.sqlite.specs.State.{HasCleanDisk, Survives}
use Rattle.sqlite.specs.Held.{state}
use Rattle.store_contents.specs.Layouts.{InPack}
use Rattle.store_contents.specs.Places.{pack_rows, place_rows, runs_of}
use Rattle.store_pack.proofs.ContentsLemmas.{named_as_said}
use Rattle.store_pack.specs.Contents.{IsSpared, Names}
use Rattle.store_statements.proofs.CleanBefore.{was_clean}
use Rattle.store_statements.proofs.SettledAfter.{stays_read}
use Rattle.store_statements.proofs.Transactions.{survives_all}
use Rattle.store_statements.specs.Held.{IsSettled}
use Rattle.layout_opening.proofs.beside.take_up_beside.Goals as goal

pub over-requires : goal.over-requires
over-requires g c = record {
  ours = λ ours clean.
      let s1 = state g.S.Store c.take_up_pack.new.conn in
      let s2 = state g.S.Store c.open.new.conn in
      let early : HasCleanDisk s1 = was_clean c.open.ensures.survives clean.0 in
      let known = c.requires.ours (was_clean c.take_up_pack.ensures.survives early) in
      let stays = c.in-Ok.ensures.found early known.0 (g.D.Disk.seen c.args.disk) known.1 in
      let rows = stays.0.holds.contents.rows in
      let after = stays_read s1 s2 stays.0 (c.in-Ok-open.ensures.same clean.0 rows) in
      let pack = c.in-Ok-open.contents.pack in
      record {
        settled = subst (λ (file : List ℕ). IsSettled (InPack file) s2) (sym c.in-Ok-open.ensures.file) after.0;
        spared =
            subst (λ (d : Database). AllByRecursion (IsSpared pack) (runs_of (place_rows d))) (sym after.1)
            (c.in-Ok-open.ensures.spared clean.0 rows clean.1);
        named =
            subst (λ (d : Database). Names pack (pack_rows d)) (sym after.1)
            (named_as_said s1.now pack (inl (c.in-Ok-open.ensures.says clean.0 rows)));
      };
}

pub returns-in-Ok-open-clause-survives : goal.returns-in-Ok-open-clause-survives
returns-in-Ok-open-clause-survives g c =
    let s0 = state g.S.Store c.args.conn in
    subst (λ h. Survives s0 (state g.S.Store h) (λ _. ⊤)) (sym c.over.ensures.conn)
    (survives_all s0 (state g.S.Store c.take_up_pack.new.conn) (state g.S.Store c.open.new.conn) (λ _. ⊥) (λ _. ⊤) c.take_up_pack.ensures.survives c.open.ensures.survives)
