use Rattle.std.proofs.Common.{◌<◌, ◌≤◌, ◌-◌, length, take, ap, arith}
use Rattle.registry_http.specs.Buffering.{behind}
use Rattle.registry_conversation.proofs.PartLemmas.{length_on, length_cut, length_whole, same_length}
use Rattle.registry_conversation.proofs.part.take_length.Goals as goal

pub returns-then-here-missing : goal.returns-then-here-missing
returns-then-here-missing c =
    let u = behind c.args.buffer.now in
    let here = length c.behind-here.result.now in
    let few : here ≤ length u = omega (arith, ap length c.behind-here.ensures) in
    let less : here < c.args.size - c.args.came = omega (arith, c.if-here-missing.true, c.saturating_sub-missing.ensures) in
    let short : length u < c.args.size - c.args.came = omega (arith, less, ap length c.behind-here.ensures) in
    record {
      takes = λ settings. (
        take here u,
        c.pass.ensures.before,
        λ framing front v carried x. (
          length_on settings c.args.size c.args.came here framing front v carried u (behind c.pass.new.self) x few less c.pass.ensures.behind,
          length_cut settings c.args.size c.args.came framing front v carried u x short,
        ),
      );
      fewer = same_length _ _ u here _ c.pass.ensures.before c.pass.ensures.behind;
      smaller = λ settings. tt;
    }

pub returns : goal.returns
returns c =
    let u = behind c.args.buffer.now in
    let missing = c.saturating_sub-missing.result in
    let enough : missing ≤ length u = omega (arith, c.if-here-missing.false, ap length c.behind-here.ensures) in
    record {
      takes = λ settings. (
        take missing u,
        c.pass-2.ensures.before,
        λ framing front v carried x. length_whole settings c.args.size c.args.came missing framing front v carried u (behind c.pass-2.new.self) x
            c.saturating_sub-missing.ensures enough c.pass-2.ensures.behind,
      );
      fewer = same_length _ _ u missing _ c.pass-2.ensures.before c.pass-2.ensures.behind;
      smaller = λ settings. tt;
    }
