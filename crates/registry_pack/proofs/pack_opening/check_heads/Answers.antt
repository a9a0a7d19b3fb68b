use Rattle.std.proofs.Common.{List, ℕ, inl, inr, subst, IsTrue}
use Rattle.std.proofs.lemmas.Result.{err_from_is_err_and}
use Rattle.registry_pack.specs.declared.head.HeadCopy.TheVariants.{Second}
use Rattle.registry_pack.specs.Opening.{IsChecked, IsReason}
use Rattle.registry_pack.proofs.OpeningLemmas.{Belongs-either}
use Rattle.registry_pack.proofs.pack_opening.check_heads.Goals as goal

pub returns-in_err-second-clause-err : goal.returns-in_err-second-clause-err
returns-in_err-second-clause-err g c =
    let p = err_from_is_err_and c.from_residual-in_err-second.result c.from_residual-in_err-second.ensures.1 in
    let clean = IsTrue (g.D.Disk.is_clean c.check_copy-2.new.disk) in
    rw (p.1, p.2) (λ used.
    subst (λ (f : List ℕ). IsReason clean f c.args.mark.now c.args.age used c.in_err-second.field-0.0) c.in_ok-first.ensures.kept.seen
    (c.in_err-second.ensures.err used))

pub returns-then-second-clause-ok : goal.returns-then-second-clause-ok
returns-then-second-clause-ok g c clean =
    let file = g.D.Disk.seen c.args.disk.now in
    let second = subst (λ (f : List ℕ). IsChecked f c.args.mark.now c.args.age Second c.in_ok-second.second) c.in_ok-first.ensures.kept.seen
    (c.in_ok-second.ensures.ok clean) in
    let first = c.in_ok-first.ensures.ok (c.in_ok-second.ensures.kept.clean clean) in
    Belongs-either file c.args.mark.now c.args.age c.in_ok-first.first c.in_ok-second.second first second
    (elim c.if-second.either [ inl x ↦ inl x | inr x ↦ inr x.1 ])
