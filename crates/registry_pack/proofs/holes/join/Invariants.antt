use Rattle.std.proofs.Common.{length, ◌-◌}
use Rattle.registry_pack.proofs.JoinLemmas.{Joining}
use Rattle.registry_pack.proofs.holes.join.Given as goal

abbrev pub invariant-loop-until : goal.invariant-loop-until
invariant-loop-until l = Joining l.holes l.first l.fn.extent l.joined l.until

abbrev pub decreases-loop-until : goal.decreases-loop-until
decreases-loop-until l = length l.holes - l.until
