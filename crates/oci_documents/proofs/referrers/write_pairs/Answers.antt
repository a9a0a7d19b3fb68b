use Rattle.std.proofs.Common.{◌≡◌, List, [], ◌∷◌, ◌++◌, ◌∙◌, map, refl, sym, ap, subst, append_assoc, append-nil}
use Rattle.oci_types.specs.Json.{with_commas}
use Rattle.oci_types.specs.Member.{pairs_of}
use Rattle.oci_types.specs.Referrers.{pair_line}
use Rattle.oci_documents.proofs.Texts.{TextEntry}
use Rattle.oci_documents.proofs.Commas.{pair_more, has_one}
use Rattle.oci_documents.proofs.Pieces.{Took, took_nothing, took_both}
use Rattle.oci_documents.proofs.referrers.write_pairs.Goals as goal

pub loop-key-init : goal.loop-key-init
loop-key-init g c = record {
  done = [];
  parts = sym c.iter-key-items.ensures.rest ∙ sym c.into_iter-key-iterator.ensures.into_iter_gives;
  is_first = refl;
  taken = took_nothing g.S.Sink.took c.args.out.now;
}

pub loop-key-preserved : goal.loop-key-preserved
loop-key-preserved g c =
    let i = c.loop-key.invariant in
    let e : TextEntry = (c.in-Some.key.now, c.in-Some.text.now) in
    record {
      done = i.done ++ e ∷ [];
      parts = i.parts ∙ ap (λ (es : List TextEntry). i.done ++ es) c.in-Some.ensures.steps ∙ sym (append_assoc i.done (e ∷ []) c.next.new.self);
      is_first = has_one i.done e;
      taken = subst (Took g.S.Sink.took c.args.out.now c.write_pair.new.out)
          (pair_more i.done e c.as_str.result.now c.as_str-in-loop-key.result.now c.loop-key.is_first i.is_first c.as_str.ensures.value c.as_str-in-loop-key.ensures.value)
          (took_both g.S.Sink.took c.args.out.now c.loop-key.out c.write_pair.new.out _ _ i.taken
          (took_both g.S.Sink.took c.loop-key.out c.separate.new.out c.write_pair.new.out _ _ c.in_ok-separate.ensures c.in_ok-write_pair.ensures));
    }

pub returns : goal.returns
returns g c =
    let i = c.loop-key.invariant in
    subst (λ (es : List TextEntry). Took g.S.Sink.took c.args.out.now c.loop-key.out (with_commas (map pair_line (pairs_of es))))
    (sym (append-nil i.done) ∙ ap (λ (es : List TextEntry). i.done ++ es) (sym c.in-None.ensures.steps.0) ∙ sym i.parts) i.taken
