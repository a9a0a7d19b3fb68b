use Rattle.std.proofs.Common.{rules, arith, take, drop, length, ◌-◌, ◌≡◌, length-drop}
use Rattle.std.proofs.Math.Seq.{take-add}
use Rattle.std.proofs.KnownBytes.{Appends-trans}
use Rattle.registry_http.proofs.HeadLemmas.{take_whole}
use Rattle.registry_http.proofs.outgoing.send.Goals as goal

pub loop-at-preserved : goal.loop-at-preserved
loop-at-preserved g c =
    let all : take (length c.args.text.now - c.loop-at.at) (drop c.loop-at.at c.args.text.now) ≡ drop c.loop-at.at c.args.text.now =
    take_whole _ _ (omega (arith, length-drop c.loop-at.at c.args.text.now)) in
    record {
      within = search rules;
      written = rw take-add (Appends-trans _ _ _ _ _ c.loop-at.invariant.written (rw all at c.in-Ok.ensures.bytes));
    }
