use Rattle.std.proofs.Common.{◌<◌, ◌≤◌, ◌-◌, length, take, ap, refl, ◌∙◌, arith}
use Rattle.registry_http.specs.Buffering.{behind}
use Rattle.registry_http.specs.declared.ending.FramingRefusal.TheVariants.{UnreadableChunk}
use Rattle.registry_conversation.specs.declared.part.Part.TheVariants.{Data}
use Rattle.registry_conversation.specs.declared.part.Took.TheVariants as took
use Rattle.registry_conversation.proofs.PartLemmas.{takes_none, short_of, data_on, data_cut, data_never, data_whole, data_shorter, same_length}
use Rattle.registry_conversation.proofs.part.take_data.Goals as goal

pub returns-then-here-missing : goal.returns-then-here-missing
returns-then-here-missing c =
    let u = behind c.args.buffer.now in
    let here = length c.behind-here.result.now in
    let few : here ≤ length u = omega (arith, ap length c.behind-here.ensures) in
    let less : here < c.args.size - c.args.came = omega (arith, c.if-here-missing.true, c.saturating_sub-missing.ensures) in
    let short : length u < c.args.size - c.args.came = omega (arith, less, ap length c.behind-here.ensures) in
    record {
      takes = λ settings. (
        take here u,
        c.pass.ensures.before,
        λ framing front v carried x. (
          data_on settings c.args.total c.args.size c.args.came here framing front v carried u (behind c.pass.new.self) x few less c.pass.ensures.behind,
          data_cut settings c.args.total c.args.size c.args.came (c.args.size - c.args.came) framing front v carried u x refl (short_of (c.args.size - c.args.came) u short),
        ),
      );
      fewer = same_length _ _ u here _ c.pass.ensures.before c.pass.ensures.behind;
      smaller = λ settings. tt;
    }

pub returns-in-NotYet : goal.returns-in-NotYet
returns-in-NotYet c =
    let u = behind c.args.buffer.now in
    let missing = c.saturating_sub-missing.result in
    record {
      takes = λ settings. takes_none settings (Data c.args.total c.args.size c.args.came) (took.NotYet (Data c.args.total c.args.size c.args.came)) _ u _ u refl
          (λ framing front v carried x. (
            x,
            data_cut settings c.args.total c.args.size c.args.came missing framing front v carried u x c.saturating_sub-missing.ensures (rw c.behind.ensures at c.in-NotYet.ensures),
          ));
      fewer = omega arith;
      smaller = λ settings. tt;
    }

pub returns-in-Never : goal.returns-in-Never
returns-in-Never c =
    let u = behind c.args.buffer.now in
    let missing = c.saturating_sub-missing.result in
    record {
      takes = λ settings. takes_none settings (Data c.args.total c.args.size c.args.came) (took.Never UnreadableChunk) _ u _ u refl
          (λ framing front v carried x. data_never settings c.args.total c.args.size c.args.came missing framing front v carried u x c.saturating_sub-missing.ensures
          (λ tail. rw c.behind.ensures at (c.in-Never.ensures tail)));
      fewer = omega arith;
      smaller = λ settings. tt;
    }

pub returns : goal.returns
returns c =
    let u = behind c.args.buffer.now in
    let missing = c.saturating_sub-missing.result in
    record {
      takes = λ settings. (
        take missing u,
        c.skip.ensures.before ∙ c.pass-2.ensures.before,
        λ framing front v carried x. data_whole settings c.args.total c.args.size c.args.came missing framing front v carried u (behind c.pass-2.new.self) (behind c.skip.new.self) x
            c.saturating_sub-missing.ensures (rw c.behind.ensures at c.in-Whole.ensures) c.pass-2.ensures.behind c.skip.ensures.behind,
      );
      fewer = data_shorter missing _ _ _ _ _ _ c.pass-2.ensures.before c.pass-2.ensures.behind c.skip.ensures.before c.skip.ensures.behind;
      smaller = λ settings. omega arith;
    }
