use Rattle.std.proofs.Common.{◌≡◌, ◌∙◌, ◌+◌, ◌∷◌, ◌++◌, drop, ap, sym, append_assoc}
use Rattle.std.proofs.lemmas.List.{at_drop_more}
use Rattle.oci_types.specs.Text.{Text}
use Rattle.registry_checking.specs.Lines.{line_of, lines_of, newline}
use Rattle.registry_checking.proofs.WrongLemmas.{appends_more}
use Rattle.registry_checking.proofs.lines.write_wrongs.Goals as goal

pub loop-wrong-preserved : goal.loop-wrong-preserved
loop-wrong-preserved g c =
    let so_far = c.loop-wrong.invariant in
    let wrong = c.wrong-item.result in
    let line : Text = line_of wrong ++ newline in
    let others = drop (c.loop-wrong.wrong-index + 1) c.args.wrongs.now in
    let next : lines_of (drop c.loop-wrong.wrong-index c.args.wrongs.now) ≡ line ++ lines_of others =
    at_drop_more lines_of c.args.wrongs.now c.loop-wrong.wrong-index wrong c.loop-wrong-test.true
    ∙ ap (λ x. lines_of (x ∷ others)) (sym c.wrong-item.is) in (
      so_far.0 ++ line,
      appends_more _ _ _ so_far.0 line so_far.1 c.in-Ok.ensures.bytes,
      append_assoc so_far.0 line (lines_of others) ∙ ap (λ x. so_far.0 ++ x) (sym next) ∙ so_far.2,
    )
