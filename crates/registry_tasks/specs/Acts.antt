-- What a task does beside reading and writing, between two moments: over registries, and to servers.
use Rattle.std.specs.Prelude.{List}
use Rattle.registry_opening.specs.Openings.{Between, Never}
use Rattle.registry_tasks.specs.Sending.{Exchange}
use Rattle.registry_tasks.specs.Sending as sending

-- two moments of an opener of registries, and of what sends lines to servers
pub record Acts (K : Type 0) : Type 1 where
  pub openings : Between K
  pub sent : List Exchange → Type 0
  pub sent' : List Exchange → Type 0

abbrev pub acts : {K : Type 0} → Between K → (List Exchange → Type 0) → (List Exchange → Type 0) → Acts K
acts {K} openings sent sent' = record { openings = openings; sent = sent; sent' = sent' }

abbrev pub SendsNone : {K : Type 0} → Acts K → Type 0
SendsNone {K} a = sending.SendsNone a.sent a.sent'

-- no registry was opened or taken over, and nothing was sent
abbrev pub DoesNothing : {K : Type 0} → Acts K → Type 0
DoesNothing {K} a = Never a.openings × SendsNone a
