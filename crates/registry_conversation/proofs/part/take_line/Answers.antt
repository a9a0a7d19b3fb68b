use Rattle.std.proofs.Common.{◌≡◌, ◌<◌, ◌≤◌, ◌+◌, ◌-◌, length, ap, refl, arith}
use Rattle.std.proofs.lemmas.List.{length-drop}
use Rattle.registry_http.specs.Buffering.{behind}
use Rattle.registry_model.specs.Limits.{most_body}
use Rattle.registry_conversation.proofs.PartLemmas.{takes_none, line_cut, line_never, line_over, line_last, line_size, line_fits}
use Rattle.registry_http.specs.declared.ending.FramingRefusal.TheVariants.{UnreadableChunk, ChunksTooLarge}
use Rattle.registry_conversation.specs.declared.part.Part.TheVariants.{Line, Data, Trailer}
use Rattle.registry_conversation.specs.declared.part.Took.TheVariants as took
use Rattle.registry_conversation.proofs.part.take_line.Goals as goal

pub skip-requires : goal.skip-requires
skip-requires c = line_fits _ c.in-Whole.line (rw c.behind.ensures at c.in-Whole.ensures)

pub returns-in-NotYet : goal.returns-in-NotYet
returns-in-NotYet c = record {
  takes = takes_none c.args.settings (Line c.args.total) (took.NotYet (Line c.args.total)) _ _ _ (behind c.args.buffer.now) refl (λ framing front v carried x. (x, line_cut c.args.settings c.args.total framing front v carried _ x (rw c.behind.ensures at c.in-NotYet.ensures)));
  fewer = omega arith;
  smaller = tt;
}

pub returns-in-Never : goal.returns-in-Never
returns-in-Never c = record {
  takes = takes_none c.args.settings (Line c.args.total) (took.Never UnreadableChunk) _ _ _ (behind c.args.buffer.now) refl (λ framing front v carried x. line_never c.args.settings c.args.total framing front v carried _ x (λ tail. rw c.behind.ensures at (c.in-Never.ensures tail)));
  fewer = omega arith;
  smaller = tt;
}

pub returns-then-line-room : goal.returns-then-line-room
returns-then-line-room c =
    let over : most_body c.args.settings - c.args.total < c.in-Whole.line.size = omega (arith, c.if-line-room.true, c.saturating_sub-room.ensures, c.most_body-most.ensures) in
    record {
      takes = takes_none c.args.settings (Line c.args.total) (took.Never ChunksTooLarge) _ _ _ (behind c.args.buffer.now) refl (λ framing front v carried x. line_over c.args.settings c.args.total framing front v carried _ c.in-Whole.line x (rw c.behind.ensures at c.in-Whole.ensures) over);
      fewer = omega arith;
      smaller = tt;
    }

pub returns-then-size-eq0 : goal.returns-then-size-eq0
returns-then-size-eq0 c =
    let gone = length-drop c.in-Whole.line.len (behind c.args.buffer.now) in
    let none : c.in-Whole.line.size ≡ 0 = omega (arith, c.if-size-eq0.true) in
    record {
      takes = takes_none c.args.settings (Line c.args.total) (took.Next (Trailer c.args.total)) _ _ _ (behind c.skip.new.self) c.skip.ensures.before
          (λ framing front v carried x. line_last c.args.settings c.args.total framing front v carried _ _ c.in-Whole.line x (rw c.behind.ensures at c.in-Whole.ensures) none c.skip.ensures.behind);
      fewer = omega (arith, ap length c.skip.ensures.before, ap length c.skip.ensures.behind, gone);
      smaller = omega arith;
    }

pub returns : goal.returns
returns c =
    let gone = length-drop c.in-Whole.line.len (behind c.args.buffer.now) in
    let some : 0 < c.in-Whole.line.size = omega (arith, c.if-size-eq0.false) in
    let fits : c.in-Whole.line.size ≤ most_body c.args.settings - c.args.total = omega (arith, c.if-line-room.false, c.saturating_sub-room.ensures, c.most_body-most.ensures) in
    record {
      takes = takes_none c.args.settings (Line c.args.total) (took.Next (Data (c.args.total + c.in-Whole.line.size) c.in-Whole.line.size 0)) _ _ _ (behind c.skip.new.self) c.skip.ensures.before
          (λ framing front v carried x. line_size c.args.settings c.args.total framing front v carried _ _ c.in-Whole.line x (rw c.behind.ensures at c.in-Whole.ensures) some fits c.skip.ensures.behind);
      fewer = omega (arith, ap length c.skip.ensures.before, ap length c.skip.ensures.behind, gone);
      smaller = omega (arith, some, fits);
    }
