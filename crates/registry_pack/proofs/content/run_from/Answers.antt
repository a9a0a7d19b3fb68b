use Rattle.std.proofs.Common.{◌≡◌, ◌+◌, ◌-◌, List, ◌∷◌, drop, sym, ◌∙◌, ap, arith, subst, IfSome, Option, Some, None}
use Rattle.std.proofs.lemmas.List.{drop_more, drop_all}
use Rattle.registry_pack.specs.declared.extent.Extent.{Extent}
use Rattle.registry_pack.specs.Extents.{total_of}
use Rattle.registry_pack.proofs.ExtentLemmas.{total_of-none, total_of-more}
use Rattle.registry_pack.specs.Content.{IsRunFrom}
use Rattle.registry_pack.proofs.ContentLemmas.{IsRunFrom-first, IsRunFrom-later}
use Rattle.registry_pack.proofs.content.run_from.Goals as goal

IfSome-then : {X : Type 0} (o : Option X) (P Q : X → Type 0) → ((x : X) → P x → Q x) → IfSome o P → IfSome o Q
IfSome-then None P Q then was = tt
IfSome-then (Some x) P Q then was = then x was

pub returns-then-left-size-clause-run : goal.returns-then-left-size-clause-run
returns-then-left-size-clause-run c =
    let es = c.args.extents.now in
    let i = c.loop-extent.extent-index in
    let x = c.extent-item.result in
    let here : drop i es ≡ x ∷ drop (i + 1) es = drop_more es i x (omega arith) ∙ ap (λ (e : Extent). e ∷ drop (i + 1) es) (sym c.extent-item.is) in
    IfSome-then c.new.result _ _
    (λ e (start, size). c.loop-extent.invariant.runs e
    (subst (λ (l : List Extent). IsRunFrom l c.loop-extent.left e) (sym here)
    (IsRunFrom-first x (drop (i + 1) es) c.loop-extent.left e (omega arith) (omega arith) (omega arith))))
    c.new.ensures.extent

pub returns-then-left-size-clause-ends : goal.returns-then-left-size-clause-ends
returns-then-left-size-clause-ends c =
    IfSome-then c.new.result _ _ (λ e (start, size). (c.loop-extent.extent-index, c.extent-item.result, omega arith, sym c.extent-item.is, omega arith))
    c.new.ensures.extent

pub loop-extent-preserved : goal.loop-extent-preserved
loop-extent-preserved c =
    let es = c.args.extents.now in
    let i = c.loop-extent.extent-index in
    let x = c.extent-item.result in
    let here : drop i es ≡ x ∷ drop (i + 1) es = drop_more es i x (omega arith) ∙ ap (λ (e : Extent). e ∷ drop (i + 1) es) (sym c.extent-item.is) in
    let size : c.size-size.result ≡ x.size = c.size-size.ensures.size in
    record {
      runs = λ e run. c.loop-extent.invariant.runs e
          (subst (λ (l : List Extent). IsRunFrom l c.loop-extent.left e) (sym here)
          (IsRunFrom-later x (drop (i + 1) es) c.loop-extent.left e (omega arith)
          (subst (λ n. IsRunFrom (drop (i + 1) es) (c.loop-extent.left - n) e) size run)));
      none = λ short. c.loop-extent.invariant.none (omega (arith, ap total_of here, total_of-more x (drop (i + 1) es)));
    }

pub returns-clause-none : goal.returns-clause-none
returns-clause-none c _ =
    let es = c.args.extents.now in
    let i = c.loop-extent.extent-index in
    c.loop-extent.invariant.none (omega (arith, ap total_of (drop_all i es (omega arith)), total_of-none))
