use Rattle.std.proofs.Common.{arith, sym, subst, ◌≢◌, ◌∙◌, Some}
use Rattle.sqlite.specs.Effect.{Database}
use Rattle.sqlite.specs.State.{HasCleanDisk}
use Rattle.sqlite.specs.Held.{state}
use Rattle.store_contents.specs.Contents.{bytes_in}
use Rattle.store_schema.proofs.Selects.{commit_then, survives_both}
use Rattle.store_contents.proofs.AddLemmas.{or_adds}
use Rattle.store_contents.proofs.InsideLemmas.{inside_still}
use Rattle.store_contents.proofs.keep.find_or_add_hashed.Goals as goal

pub returns-in-Ok-Some-clause-inside : goal.returns-in-Ok-Some-clause-inside
returns-in-Ok-Some-clause-inside g c clean is = inside_still (state g.S.Store c.args.tx.now.conn.now) (state g.S.Store c.find.new.tx.conn.now) is (c.in-Ok-Some.ensures.same clean is.contents)

pub returns-in-Ok-None : goal.returns-in-Ok-None
returns-in-Ok-None g c =
    let s0 = state g.S.Store c.args.tx.now.conn.now in
    let s1 = state g.S.Store c.find.new.tx.conn.now in
    let s2 = state g.S.Store c.add.new.tx.conn.now in
    let early : HasCleanDisk s2 → HasCleanDisk s1 = λ clean. omega (arith, c.add.ensures.survives.clean) in
    record {
      content = λ clean is.
          let same = c.in-Ok-None.ensures.same (early clean) is.contents in
          let nowhere = rw c.in-Ok-None.field-0-is at (c.in-Ok-None.ensures.found (early clean) is.contents) in
          or_adds s0.now s1.now s2.now c.args.bytes.now c.add.result same.0.now_is
          (c.add.ensures.added clean (inside_still s0 s1 is same) (λ i. subst (λ (d : Database). bytes_in d i ≢ Some c.args.bytes.now) (sym same.0.now_is) (nowhere i)));
      inside = λ clean is.
          let same = c.in-Ok-None.ensures.same (early clean) is.contents in
          let nowhere = rw c.in-Ok-None.field-0-is at (c.in-Ok-None.ensures.found (early clean) is.contents) in
          c.add.ensures.inside clean (inside_still s0 s1 is same) (λ i. subst (λ (d : Database). bytes_in d i ≢ Some c.args.bytes.now) (sym same.0.now_is) (nowhere i));
      kept = λ clean is.
          commit_then s0 s1 s2 (c.find.ensures.kept (early clean) is.contents) (c.add.ensures.kept clean (inside_still s0 s1 is (c.in-Ok-None.ensures.same (early clean) is.contents)));
      same_reference = c.add.ensures.same_reference ∙ c.find.ensures.same_reference;
      survives = survives_both s0 s1 s2 c.find.ensures.survives c.add.ensures.survives;
    }

pub returns-in-Err : goal.returns-in-Err
returns-in-Err g c = record {
  content = λ clean is. tt;
  inside = λ clean is. tt;
  kept = λ clean is. c.find.ensures.kept clean is.contents;
  same_reference = c.find.ensures.same_reference;
  survives = c.find.ensures.survives;
}
