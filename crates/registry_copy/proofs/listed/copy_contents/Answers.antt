use Rattle.std.proofs.Common.{All, subst, sym, ◌∙◌}
use Rattle.registry_model.specs.Keeping.{ReadsBy, Spends, digests_shown}
use Rattle.registry_copy.specs.Fit.{IsFitAt}
use Rattle.registry_copy.specs.Steps.{Chain}
use Rattle.registry_copy.specs.Parts.{ContentComes, ContentsCome, IsFitContent, digests_of}
use Rattle.registry_copy.proofs.FitLemmas.{contents_fit}
use Rattle.registry_copy.proofs.StepLemmas.{from_to, read_as, behind_read}
use Rattle.registry_copy.proofs.listed.copy_contents.Goals as goal

pub returns-in-Ok : goal.returns-in-Ok
returns-in-Ok g c =
    let repo = c.args.repo.now in
    let kind = c.args.kind in
    let k = g.A.Keeper.kept c.args.from.now in
    let k1 = g.A.Keeper.kept c.list_digests.new.from in
    let listed = c.in-Ok.digests in
    let given = c.deref.result.now in
    let found = λ (honest : g.A.Keeper.is_honest c.list_digests.new.from).
    read_as (λ r. ReadsBy digests_shown r (digests_of kind k.world repo) k k1) c.list_digests.result listed c.in-Ok.ensures (c.list_digests.ensures.found honest) in
    let all = λ (honest : g.A.Keeper.is_honest c.list_digests.new.from). c.deref.ensures.value ∙ (found honest).0 in
    behind_read (g.A.Keeper.is_honest c.args.from.now) (g.A.Keeper.is_honest c.list_digests.new.from) (g.A.Keeper.is_honest c.copy_each.new.from) k k1 (g.A.Keeper.kept c.copy_each.new.from)
    listed (from_to (g.B.Keeper.is_honest c.args.to.now) (g.B.Keeper.is_honest c.copy_each.new.to) (g.B.Keeper.kept c.args.to.now) (g.B.Keeper.kept c.copy_each.new.to)) c.copy_each.result
    (λ a _. Chain (ContentComes kind a repo) given) (λ a _. ContentsCome kind a repo) (λ a. All (IsFitContent kind a repo) given) (λ a. IsFitAt a repo) (λ _ _. ⊥) (λ _ _. ⊥)
    (λ honest. (found honest).1) (read_as (λ r. Spends r k k1) c.list_digests.result listed c.in-Ok.ensures c.list_digests.ensures.spends) c.list_digests.ensures.honest
    c.copy_each.ensures
    (λ honest x w w' chain. subst (λ ds. Chain (ContentComes kind k.world repo) ds w w') (all honest) chain)
    (λ honest fit. subst (All (IsFitContent kind k.world repo)) (sym (all honest)) (contents_fit kind k.world repo fit))
    (λ honest w x. x)
