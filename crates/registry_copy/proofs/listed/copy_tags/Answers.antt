use Rattle.std.proofs.Common.{All, subst, sym, ◌∙◌}
use Rattle.registry_model.specs.Keeping.{ReadsBy, Spends, tags_shown}
use Rattle.registry_model.specs.Lookups.{tags_at, manifest_bytes_at}
use Rattle.registry_copy.specs.Fit.{IsFitAt, IsFitManifest}
use Rattle.registry_copy.specs.Steps.{Chain}
use Rattle.registry_copy.specs.Parts.{TagComes, TagsCome}
use Rattle.registry_copy.proofs.FitLemmas.{tags_fit}
use Rattle.registry_copy.proofs.StepLemmas.{from_to, read_as, behind_read}
use Rattle.registry_copy.proofs.listed.copy_tags.Goals as goal

pub returns-in-Ok : goal.returns-in-Ok
returns-in-Ok g c =
    let repo = c.args.repo.now in
    let k = g.A.Keeper.kept c.args.from.now in
    let k1 = g.A.Keeper.kept c.tags.new.self in
    let listed = c.in-Ok.tags in
    let given = c.deref.result.now in
    let found = λ (honest : g.A.Keeper.is_honest c.tags.new.self).
    read_as (λ r. ReadsBy tags_shown r (tags_at k.world repo) k k1) c.tags.result listed c.in-Ok.ensures (c.tags.ensures.found honest) in
    let all = λ (honest : g.A.Keeper.is_honest c.tags.new.self). c.deref.ensures.value ∙ (found honest).0 in
    behind_read (g.A.Keeper.is_honest c.args.from.now) (g.A.Keeper.is_honest c.tags.new.self) (g.A.Keeper.is_honest c.copy_each_tag.new.from) k k1 (g.A.Keeper.kept c.copy_each_tag.new.from)
    listed (from_to (g.B.Keeper.is_honest c.args.to.now) (g.B.Keeper.is_honest c.copy_each_tag.new.to) (g.B.Keeper.kept c.args.to.now) (g.B.Keeper.kept c.copy_each_tag.new.to)) c.copy_each_tag.result
    (λ a _. Chain (TagComes a repo) given) (λ a _. TagsCome a repo) (λ a. All (λ e. IsFitManifest e.1 (manifest_bytes_at a repo e.1)) given) (λ a. IsFitAt a repo) (λ _ _. ⊥) (λ _ _. ⊥)
    (λ honest. (found honest).1) (read_as (λ r. Spends r k k1) c.tags.result listed c.in-Ok.ensures c.tags.ensures.spends) c.tags.ensures.honest
    c.copy_each_tag.ensures
    (λ honest x w w' chain. subst (λ es. Chain (TagComes k.world repo) es w w') (all honest) chain)
    (λ honest fit. subst (All (λ e. IsFitManifest e.1 (manifest_bytes_at k.world repo e.1))) (sym (all honest)) (tags_fit k.world repo fit))
    (λ honest w x. x)
