use Rattle.std.proofs.Common.{◌≡◌, ℕ, ◌<◌, true, List, length, take, drop, sym, subst, ◌∙◌, arith, IfSome, Option, Some, None, is_some, IsTrue, length-take}
use Rattle.std.proofs.lemmas.Bool.{not-true, not-false, false≢true}
use Rattle.std.proofs.lemmas.Slice.Eq.{bytes_eq-Decides}
use Rattle.registry_pack.specs.Extents.{bytes_at, total_of}
use Rattle.registry_pack.specs.Content.{ReadsPiece}
use Rattle.registry_pack.proofs.ContentLemmas.{compared_pieces, differ_in_length, differ_in_range, goes_on, has_ended, same_more}
use Rattle.registry_pack.proofs.content.compare_piece.Goals as goal
use Rattle.registry_pack.proofs.content.compare_piece.Goals.{then-m-eq0-via-then-m-eq0, then-m-eq0-via-else-m-eq0+then-ne}

some_of : {X : Type 0} (o : Option X) (P : X → Type 0) → is_some o ≡ true → IfSome o P → (x : X) × P x
some_of None P is was = absurd (false≢true is)
some_of (Some x) P is was = (x, was)

pub returns-then-is_some-clause-compared : goal.returns-then-is_some-clause-compared
returns-then-is_some-clause-compared g c clean within other_within =
    let first = c.in_ok-n.ensures.read in
    let (e, run) = some_of c.run_from.result _ (sym c.is_some.ensures ∙ c.if-is_some.true) c.run_from.ensures.run in
    differ_in_length (g.D.Disk.seen c.args.disk.now) c.args.ones.now c.args.others.now c.args.from within other_within
    (has_ended _ _ _ first.some c.if-n-eq0.true) (omega (arith, run.some, run.within))

pub returns-then-m-eq0-clause-compared : goal.returns-then-m-eq0-clause-compared
returns-then-m-eq0-clause-compared g c clean within other_within same =
    let file = g.D.Disk.seen c.args.disk.now in
    let first = c.in_ok-n.ensures in
    let kept = c.in_ok-m.ensures.kept in
    let n = c.in_ok-n.n in
    let m = c.in_ok-m.m in
    let from = c.args.from in
    let old = c.args.other_buf.now in
    let piece = c.read_piece-2.new.buf in
    let clean_then = IsTrue (g.D.Disk.is_clean c.read_piece-2.new.disk) in
    let second = subst (λ (f : List ℕ). ReadsPiece clean_then f c.args.others.now from (take n old) piece m) first.kept.seen c.in_ok-m.ensures.read in
    let room : length (take n old) ≡ n = omega (arith, length-take n old, first.read.fits) in
    let goes : from < total_of c.args.ones.now = goes_on from (total_of c.args.ones.now) n first.read.none (omega arith) in
    elim c.then-m-eq0.branch [
      | then-m-eq0-via-then-m-eq0 w ↦
          differ_in_length file c.args.others.now c.args.ones.now from other_within within
          (has_ended _ _ _ second.some w.if-m-eq0.true) goes (sym same)
      | then-m-eq0-via-else-m-eq0+then-ne w ↦
          let compared = compared_pieces (bytes_at file c.args.ones.now) (bytes_at file c.args.others.now) c.read_piece.new.buf piece (drop n old) from n m
          (omega (arith, second.fits)) (omega (arith, second.fits, second.length))
          (first.read.bytes (kept.clean clean) within) (second.bytes clean other_within) in
          differ_in_range (bytes_at file c.args.ones.now) (bytes_at file c.args.others.now) from m
          (sym compared ∙ not-true _ (sym w.ne.ensures ∙ w.if-ne.true)) same
    ]

pub returns-clause-compared : goal.returns-clause-compared
returns-clause-compared g c =
    let file = g.D.Disk.seen c.args.disk.now in
    let first = c.in_ok-n.ensures in
    let kept = c.in_ok-m.ensures.kept in
    let n = c.in_ok-n.n in
    let m = c.in_ok-m.m in
    let from = c.args.from in
    let old = c.args.other_buf.now in
    let piece = c.read_piece-2.new.buf in
    let clean_then = IsTrue (g.D.Disk.is_clean c.read_piece-2.new.disk) in
    let second = subst (λ (f : List ℕ). ReadsPiece clean_then f c.args.others.now from (take n old) piece m) first.kept.seen c.in_ok-m.ensures.read in
    let room : length (take n old) ≡ n = omega (arith, length-take n old, first.read.fits) in
    let goes : from < total_of c.args.ones.now = goes_on from (total_of c.args.ones.now) n first.read.none (omega arith) in
    let other_goes : from < total_of c.args.others.now = goes_on from (total_of c.args.others.now) m second.none (omega arith) in
    record {
      some = λ _. omega arith;
      other_some = λ _. omega arith;
      within = λ _. omega (arith, first.read.within goes, second.fits);
      other_within = λ _. second.within other_goes;
      bytes = λ clean within other_within front.
          let compared = compared_pieces (bytes_at file c.args.ones.now) (bytes_at file c.args.others.now) c.read_piece.new.buf piece (drop n old) from n m
          (omega (arith, second.fits)) (omega (arith, second.fits, second.length))
          (first.read.bytes (kept.clean clean) within) (second.bytes clean other_within) in
          same_more (bytes_at file c.args.ones.now) (bytes_at file c.args.others.now) from m front
          ((bytes_eq-Decides _ _).0 (sym compared ∙ not-false _ (sym c.ne.ensures ∙ c.if-ne.false)));
    }
