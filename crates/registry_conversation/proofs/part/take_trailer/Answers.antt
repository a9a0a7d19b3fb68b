use Rattle.std.proofs.Common.{◌++◌, length, subst, ap, refl, arith}
use Rattle.std.proofs.lemmas.List.{length-drop}
use Rattle.oci_types.specs.Text.{Text}
use Rattle.registry_http.specs.Buffering.{behind}
use Rattle.registry_http.specs.Chunks.{HoldsNoTrailer, TrailerIsCut}
use Rattle.registry_http.specs.Taking.{TrailerIsRead}
use Rattle.registry_conversation.proofs.PartLemmas.{takes_none, trailer_cut, trailer_never, trailer_whole}
use Rattle.registry_http.specs.declared.ending.FramingRefusal.TheVariants.{UnreadableChunk}
use Rattle.registry_conversation.specs.declared.part.Part.TheVariants.{Trailer}
use Rattle.registry_conversation.specs.declared.part.Took.TheVariants as took
use Rattle.registry_conversation.proofs.part.take_trailer.Goals as goal

pub returns-in-Whole : goal.returns-in-Whole
returns-in-Whole c = record {
  takes = λ settings. takes_none settings (Trailer c.args.total) (took.Whole c.args.total) _ _ _ (behind c.skip.new.self) c.skip.ensures.before
      (λ framing front v carried x. trailer_whole settings c.args.total framing front v carried _ _ c.in-Whole.len x
      (subst (λ (y : Text). TrailerIsRead y c.in-Whole.len) c.behind.ensures c.in-Whole.ensures) c.skip.ensures.behind);
  fewer = omega (arith, ap length c.skip.ensures.before, ap length c.skip.ensures.behind, length-drop c.in-Whole.len (behind c.args.buffer.now));
  smaller = λ settings. tt;
}

pub returns-in-NotYet : goal.returns-in-NotYet
returns-in-NotYet c = record {
  takes = λ settings. takes_none settings (Trailer c.args.total) (took.NotYet (Trailer c.args.total)) _ _ _ (behind c.args.buffer.now) refl (λ framing front v carried x. (x, trailer_cut settings c.args.total framing front v carried _ x (subst TrailerIsCut c.behind.ensures c.in-NotYet.ensures)));
  fewer = omega arith;
  smaller = λ settings. tt;
}

pub returns-in-Never : goal.returns-in-Never
returns-in-Never c = record {
  takes = λ settings. takes_none settings (Trailer c.args.total) (took.Never UnreadableChunk) _ _ _ (behind c.args.buffer.now) refl (λ framing front v carried x. trailer_never settings c.args.total framing front v carried _ x
      (λ tail. subst (λ (y : Text). HoldsNoTrailer (y ++ tail)) c.behind.ensures (c.in-Never.ensures tail)));
  fewer = omega arith;
  smaller = λ settings. tt;
}
