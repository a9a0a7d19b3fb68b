use Rattle.std.proofs.Common.{[], ◌++◌, sym, subst, append_assoc, append-nil, arith}
use Rattle.oci_types.specs.Text.{Text}
use Rattle.registry_http.specs.Buffering.{behind}
use Rattle.registry_conversation.specs.declared.part.Taken.TheVariants as all
use Rattle.registry_conversation.specs.Parts.{IsPart, TakesBody}
use Rattle.registry_conversation.proofs.PartLemmas.{more_taken}
use Rattle.registry_conversation.proofs.part.take_body.Goals as goal

pub parts-init : goal.parts-init
parts-init c = record {
  taken = (
    [],
    sym (append-nil _),
    λ framing front v carried x. subst (λ (y : Text). IsPart c.args.settings c.args.part framing front v y (behind c.args.buffer.now)) (sym (append-nil carried)) x,
  );
  fewer = omega arith;
}

pub parts-preserved : goal.parts-preserved
parts-preserved c =
    let first = c.parts.invariant.taken in
    let then = c.in-Next.ensures.takes in
    record {
      taken = (
        first.0 ++ then.0,
        more_taken _ _ _ first.0 then.0 first.1 then.1,
        λ framing front v carried x. subst (λ (y : Text). IsPart c.args.settings c.in-Next.more framing front v y (behind c.take_part.new.buffer)) (append_assoc carried first.0 then.0)
            (then.2 framing front v (carried ++ first.0) (first.2 framing front v carried x)),
      );
      fewer = omega (arith, c.parts.invariant.fewer, c.take_part.ensures.fewer);
    }

pub returns-in-Whole : goal.returns-in-Whole
returns-in-Whole c =
    let first = c.parts.invariant.taken in
    let then = c.in-Whole.ensures.takes in
    record {
      takes = (
        first.0 ++ then.0,
        more_taken _ _ _ first.0 then.0 first.1 then.1,
        λ framing front v carried x. subst (λ (y : Text). TakesBody c.args.settings (all.Whole c.in-Whole.size) framing front v y (behind c.take_part.new.buffer)) (append_assoc carried first.0 then.0) (then.2 framing front v (carried ++ first.0) (first.2 framing front v carried x)),
      );
      fewer = omega (arith, c.parts.invariant.fewer, c.take_part.ensures.fewer);
    }

pub returns-in-NotYet : goal.returns-in-NotYet
returns-in-NotYet c =
    let first = c.parts.invariant.taken in
    let then = c.in-NotYet.ensures.takes in
    record {
      takes = (
        first.0 ++ then.0,
        more_taken _ _ _ first.0 then.0 first.1 then.1,
        λ framing front v carried x. subst (λ (y : Text). TakesBody c.args.settings (all.Missing c.in-NotYet.missing) framing front v y (behind c.take_part.new.buffer)) (append_assoc carried first.0 then.0) (then.2 framing front v (carried ++ first.0) (first.2 framing front v carried x)),
      );
      fewer = omega (arith, c.parts.invariant.fewer, c.take_part.ensures.fewer);
    }

pub returns-in-Never : goal.returns-in-Never
returns-in-Never c =
    let first = c.parts.invariant.taken in
    let then = c.in-Never.ensures.takes in
    record {
      takes = (
        first.0 ++ then.0,
        more_taken _ _ _ first.0 then.0 first.1 then.1,
        λ framing front v carried x. subst (λ (y : Text). TakesBody c.args.settings (all.Refused c.in-Never.refusal) framing front v y (behind c.take_part.new.buffer)) (append_assoc carried first.0 then.0) (then.2 framing front v (carried ++ first.0) (first.2 framing front v carried x)),
      );
      fewer = omega (arith, c.parts.invariant.fewer, c.take_part.ensures.fewer);
    }
