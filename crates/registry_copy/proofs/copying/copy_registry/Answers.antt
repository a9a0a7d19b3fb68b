use Rattle.std.proofs.Common.{◌≡◌, ◌∙◌, All, List, length, ap, subst, sym, rules}
use Rattle.std.specs.Vec.{vec_len}
use Rattle.std.specs.Prelude.{sum_by}
use Rattle.oci_types.specs.Text.{Text}
use Rattle.registry_model.specs.declared.quota.Usage.{Usage}
use Rattle.registry_model.specs.Lookups.{usages_of}
use Rattle.registry_model.specs.Usage.{in_64_bits}
use Rattle.registry_model.specs.Keeping.{Kept, ReadsBy, usages_shown}
use Rattle.registry_copy.specs.Fit.{IsFitOfUsage}
use Rattle.registry_copy.specs.Steps.{Chain, Meets}
use Rattle.registry_copy.specs.Parts.{RepoOfUsage, IsTaken}
use Rattle.registry_copy.proofs.FitLemmas.{usages_fit}
use Rattle.registry_copy.proofs.StepLemmas.{read_as, damaged_part, occupied_part}
use Rattle.registry_copy.proofs.WorldLemmas.{met_one, copied_whole, uploads_counted, repos_counted}
use Rattle.registry_copy.proofs.copying.copy_registry.Goals as goal

pub returns-in_err-copy_repos-clause-damaged : goal.returns-in_err-copy_repos-clause-damaged
returns-in_err-copy_repos-clause-damaged g c =
    λ hf d fit.
    let k = g.A.Keeper.kept c.args.from.now in
    let k1 = g.A.Keeper.kept c.usages.new.self in
    let read = read_as (λ r. ReadsBy usages_shown r (usages_of k.world) k k1) c.usages.result c.in_ok-usages.usages c.in_ok-usages.ensures (c.usages.ensures.found (c.in_err-copy_repos.ensures.honest hf)) in
    c.in_err-copy_repos.ensures.damaged hf (damaged_part c.from_residual-in_err-copy_repos.result c.in_err-copy_repos.field-0.0 c.from_residual-in_err-copy_repos.ensures d)
    (subst (λ (x : Kept). All (IsFitOfUsage x.world) c.deref-2.result.now) (sym read.1)
    (subst (All (IsFitOfUsage k.world)) (sym (c.deref-2.ensures.value ∙ read.0)) (usages_fit k.world fit)))

pub returns-in_err-copy_repos-clause-occupied : goal.returns-in_err-copy_repos-clause-occupied
returns-in_err-copy_repos-clause-occupied g c =
    λ hf ht o.
    let k = g.A.Keeper.kept c.args.from.now in
    let k1 = g.A.Keeper.kept c.usages.new.self in
    let w = (g.B.Keeper.kept c.args.to.now).world in
    let read = read_as (λ r. ReadsBy usages_shown r (usages_of k.world) k k1) c.usages.result c.in_ok-usages.usages c.in_ok-usages.ensures (c.usages.ensures.found (c.in_err-copy_repos.ensures.honest hf)) in
    let met = c.in_err-copy_repos.ensures.occupied hf ht (occupied_part c.from_residual-in_err-copy_repos.result c.in_err-copy_repos.field-0.0 c.from_residual-in_err-copy_repos.ensures o) in
    met_one k.world w
    (subst (λ us. Meets (RepoOfUsage k.world) IsTaken us w) (c.deref-2.ensures.value ∙ read.0)
    (subst (λ (x : Kept). Meets (RepoOfUsage x.world) IsTaken c.deref-2.result.now w) read.1 met))

pub returns-clause-copied : goal.returns-clause-copied
returns-clause-copied g c =
    λ hf ht.
    let k = g.A.Keeper.kept c.args.from.now in
    let k1 = g.A.Keeper.kept c.usages.new.self in
    let w = (g.B.Keeper.kept c.args.to.now).world in
    let w' = (g.B.Keeper.kept c.copy_repos.new.to).world in
    let read = read_as (λ r. ReadsBy usages_shown r (usages_of k.world) k k1) c.usages.result c.in_ok-usages.usages c.in_ok-usages.ensures (c.usages.ensures.found (c.in_ok-copy_repos.ensures.honest hf)) in
    let made = c.in_ok-copy_repos.ensures.made hf ht in
    let chain : Chain (RepoOfUsage k.world) (usages_of k.world) w w' =
    subst (λ us. Chain (RepoOfUsage k.world) us w w') (c.deref-2.ensures.value ∙ read.0)
    (subst (λ (x : Kept). Chain (RepoOfUsage x.world) c.deref-2.result.now w w') read.1 made.1) in
    let many : vec_len c.in_ok-usages.usages ≡ length c.in_ok-usages.usages.items = search rules in
    record {
      world = λ levels none. copied_whole k.world w w' levels none chain;
      held = made.0;
      counts = record {
        repos = c.len.ensures ∙ many ∙ ap (λ (us : List (Text × Usage)). length us) read.0 ∙ repos_counted k.world;
        uploads = c.count_uploads.ensures
            ∙ ap (λ us. in_64_bits (sum_by (λ (u : Text × Usage). u.1.sessions) us)) (c.deref-3.ensures.value ∙ read.0)
            ∙ ap in_64_bits (uploads_counted k.world);
      };
    }
