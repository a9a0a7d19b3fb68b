use Rattle.std.proofs.Common.{◌≡◌, false, sym, ◌∙◌, ap, arith}
use Rattle.std.specs.Prelude.{bytes_eq}
use Rattle.std.proofs.lemmas.Bool.{not-true, not-false, true≢false}
use Rattle.std.proofs.lemmas.Slice.Eq.{bytes_eq-Decides}
use Rattle.registry_pack.specs.declared.head.Head.{Head}
use Rattle.registry_pack.specs.Heads.{Says}
use Rattle.registry_pack.proofs.HeadLemmas.{Says-same}
use Rattle.registry_pack.proofs.pack_opening.check_copy.Goals as goal

pub returns-then-ne-clause-err : goal.returns-then-ne-clause-err
returns-then-ne-clause-err g c used clean =
    let file = g.D.Disk.seen c.args.disk.now in
    let head = c.in-Some.head in
    let says : Says file c.args.copy head = rw c.in-Some.is at (c.in_ok-head.ensures.found clean) in
    let apart : bytes_eq head.mark c.args.mark.now ≡ false = not-true _ (sym c.ne.ensures ∙ c.if-ne.true) in
    (c.args.copy, (head, (says, λ same. true≢false (sym ((bytes_eq-Decides head.mark c.args.mark.now).1 same) ∙ apart))))

pub returns-then-age-head-clause-err : goal.returns-then-age-head-clause-err
returns-then-age-head-clause-err g c used clean =
    let file = g.D.Disk.seen c.args.disk.now in
    let head = c.in-Some.head in
    let says : Says file c.args.copy head = rw c.in-Some.is at (c.in_ok-head.ensures.found clean) in
    (c.args.copy, (head, (says, (bytes_eq-Decides head.mark c.args.mark.now).0 (not-false _ (sym c.ne.ensures ∙ c.if-ne.false)), c.if-age-head.true)))

pub returns-clause-ok : goal.returns-clause-ok
returns-clause-ok g c clean =
    let file = g.D.Disk.seen c.args.disk.now in
    let head = c.in-Some.head in
    let says : Says file c.args.copy head = rw c.in-Some.is at (c.in_ok-head.ensures.found clean) in
    let mark : head.mark ≡ c.args.mark.now = (bytes_eq-Decides head.mark c.args.mark.now).0 (not-false _ (sym c.ne.ensures ∙ c.if-ne.false)) in
    record {
      each = λ said says_too.
          let same = Says-same file c.args.copy said head says_too says in
          (ap (λ (h : Head). h.mark) same ∙ mark, omega (arith, ap (λ (h : Head). h.age) same, c.if-age-head.false));
      some = λ _. (head, says);
      none = λ no. absurd (true≢false no);
    }
