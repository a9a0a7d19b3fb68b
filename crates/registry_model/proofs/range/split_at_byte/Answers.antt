use Rattle.std.proofs.Common.{◌∙◌, ◌+◌, ◌==◌, ap, take, drop, arith}
use Rattle.registry_model.proofs.PlacesAndDigits.{some_place, no_place, behind, all_before, placed, not_placed}
use Rattle.registry_model.proofs.range.split_at_byte.Goals as goal

pub returns-in-Some : goal.returns-in-Some
returns-in-Some c =
    let t = c.args.text.now in
    let h = some_place (λ b. b == c.args.byte) t c.in-Some.at c.in-Some.ensures in (
      placed (λ b. b == c.args.byte) t (omega (arith, h.0, h.1)),
      ap (λ i. take i t) h.0,
      behind t (c.in-Some.at + 1) ∙ ap (λ i. drop (i + 1) t) h.0,
    )

pub returns-in-None : goal.returns-in-None
returns-in-None c =
    let t = c.args.text.now in
    let e = no_place (λ b. b == c.args.byte) t c.in-None.ensures in (
      not_placed (λ b. b == c.args.byte) t e,
      all_before (λ b. b == c.args.byte) t e,
    )
