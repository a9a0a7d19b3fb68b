use Rattle.std.specs.Prelude.{◌≡◌, ⊤}
use Rattle.sqlite.specs.State.{HasCleanDisk, Survives}
use Rattle.sqlite.specs.Held.{state}
use Rattle.store_contents.specs.Layouts.{Layout}
use Rattle.store_statements.specs.Held.{IsSettled, StaysSettled, world_in}
use Rattle.store_reads.specs.Each.{AreTold}
use Rattle.store_reads.specs.Tallies.{named_usage}
use Rattle.store_reads.proofs.repo_usages.with_usages.Given as goal

-- nothing has changed, and the usages of those so far are there
abbrev pub invariant-loop-repo : goal.invariant-loop-repo
invariant-loop-repo g l =
    let old = state g.S.Store l.fn.conn in
    let now = state g.S.Store l.conn in
    record {
      survives : Survives old now (λ _. ⊤);
      settled : (kept : Layout) → HasCleanDisk now → IsSettled kept old → StaysSettled kept old now;
      told : (kept : Layout) → HasCleanDisk now → IsSettled kept old → AreTold (λ repo named. named ≡ named_usage (world_in kept old) repo) l.yielded l.all.items;
    }
