use Rattle.std.proofs.Common.{◌≡◌, ◌≤◌, true, Ok, subst}
use Rattle.registry_model.specs.World.{World, has_repo}
use Rattle.registry_model.specs.Limits.{largest}
use Rattle.registry_model.specs.Lookups.{last_number_at}
use Rattle.registry_copy.specs.Fit.{IsFitAt}
use Rattle.registry_copy.specs.Restoring.{set_last}
use Rattle.registry_copy.specs.Parts.{RepoBegins, HeldComes, LevelsCome, RepoComes}
use Rattle.registry_copy.proofs.RepoLemmas.{begun_there, begun_new}
use Rattle.registry_copy.proofs.StepLemmas.{from_to, then_step, lifted}
use Rattle.registry_copy.proofs.repository.copy_repo.Goals as goal

pub copy_last-requires-clause-there : goal.copy_last-requires-clause-there
copy_last-requires-clause-there g c =
    λ ht unspent. begun_there c.args.repo.now c.args.quota (g.B.Keeper.kept c.args.to.now).world (g.B.Keeper.kept c.begin_repo.new.to).world (c.in_ok-begin_repo.ensures.made tt ht).1

pub copy_last-requires-clause-new : goal.copy_last-requires-clause-new
copy_last-requires-clause-new g c =
    λ ht unspent. begun_new c.args.repo.now c.args.quota (g.B.Keeper.kept c.args.to.now).world (g.B.Keeper.kept c.begin_repo.new.to).world (c.in_ok-begin_repo.ensures.made tt ht).1

pub copy_held-requires : goal.copy_held-requires
copy_held-requires g c =
    λ ht unspent.
    c.in_ok-copy_last.ensures.there ht c.args.repo.now
    (begun_there c.args.repo.now c.args.quota (g.B.Keeper.kept c.args.to.now).world (g.B.Keeper.kept c.begin_repo.new.to).world (c.in_ok-begin_repo.ensures.made tt (c.in_ok-copy_last.ensures.trusted ht)).1)

pub copy_levels-requires : goal.copy_levels-requires
copy_levels-requires g c =
    λ ht unspent.
    let earlier = c.in_ok-copy_held.ensures.trusted ht in
    c.in_ok-copy_held.ensures.there ht c.args.repo.now
    (c.in_ok-copy_last.ensures.there earlier c.args.repo.now
    (begun_there c.args.repo.now c.args.quota (g.B.Keeper.kept c.args.to.now).world (g.B.Keeper.kept c.begin_repo.new.to).world (c.in_ok-begin_repo.ensures.made tt (c.in_ok-copy_last.ensures.trusted earlier)).1))

pub returns : goal.returns
returns g c =
    let repo = c.args.repo.now in
    let quota = c.args.quota in
    let honest = g.A.Keeper.is_honest in
    let trusted = g.B.Keeper.is_honest in
    let kept = g.A.Keeper.kept in
    let had = g.B.Keeper.kept in
    let f0 = c.args.from.now in
    let t0 = c.args.to.now in
    let t1 = c.begin_repo.new.to in
    let f2 = c.copy_last.new.from in
    let t2 = c.copy_last.new.to in
    let f3 = c.copy_held.new.from in
    let t3 = c.copy_held.new.to in
    let f4 = c.copy_levels.new.from in
    let t4 = c.copy_levels.new.to in
    let Numbered = λ (a w w' : World). (b : World) × RepoBegins repo quota w b × (w' ≡ set_last b repo (last_number_at a repo)) in
    let Holding = λ (a w w' : World). (b : World) × RepoBegins repo quota w b × HeldComes a repo (set_last b repo (last_number_at a repo)) w' in
    let Fit = λ (a : World). IsFitAt a repo × (quota ≤ largest) in
    let begun = lifted (honest f0) (kept f0) (from_to (trusted t0) (trusted t1) (had t0) (had t1)) c.in_ok-begin_repo.field-0 (RepoBegins repo quota) (quota ≤ largest) (λ w. has_repo w repo ≡ true) c.in_ok-begin_repo.ensures in
    let numbered =
    then_step (honest f0) (honest f0) (honest f2) (kept f0) (kept f0) (kept f2) (trusted t0) (trusted t1) (trusted t2) (had t0) (had t1) (had t2)
    c.in_ok-begin_repo.field-0 (Ok c.in_ok-copy_last.field-0)
    (λ _ _. RepoBegins repo quota) (λ _. Unit {0}) (λ _ _. ⊥) (λ a _ w w'. w' ≡ set_last w repo (last_number_at a repo)) (λ a _. Numbered a) (λ a. IsFitAt a repo) Fit (λ _ _. ⊥) (λ _ _. ⊥)
    begun c.in_ok-copy_last.ensures (λ a x w m w' one two. (m, one, two)) (λ a fit. fit.0) (λ a w m one x. x) in
    let held =
    then_step (honest f0) (honest f2) (honest f3) (kept f0) (kept f2) (kept f3) (trusted t0) (trusted t2) (trusted t3) (had t0) (had t2) (had t3)
    c.in_ok-copy_last.field-0 (Ok c.in_ok-copy_held.field-0)
    (λ a _. Numbered a) Fit (λ _ _. ⊥) (λ a _. HeldComes a repo) (λ a _. Holding a) (λ a. IsFitAt a repo) Fit (λ _ _. ⊥) (λ _ _. ⊥)
    numbered c.in_ok-copy_held.ensures (λ a x w m w' one two. (one.0, one.1, subst (λ y. HeldComes a repo y w') one.2 two)) (λ a fit. fit.0) (λ a w m one x. x) in
    then_step (honest f0) (honest f3) (honest f4) (kept f0) (kept f3) (kept f4) (trusted t0) (trusted t3) (trusted t4) (had t0) (had t3) (had t4)
    c.in_ok-copy_held.field-0 c.copy_levels.result
    (λ a _. Holding a) Fit (λ _ _. ⊥) (λ a _. LevelsCome a repo) (λ a _. RepoComes a repo quota) (λ _. Unit {0}) Fit (λ _ _. ⊥) (λ _ w. has_repo w repo ≡ true)
    held c.copy_levels.ensures
    (λ a x w m w' one two. record { begun = one.0; held = m; begins = one.1; held_comes = one.2; levels_come = two })
    (λ a fit. tt) (λ a w m one x. absurd x)
