-- What a request comes to in the repository of its path: a reply, and what the repository becomes, where it
-- changes.
use Rattle.std.specs.Prelude.{Option, Some, None, if◌then◌else◌}
use Rattle.registry_model.specs.declared.refusal.Refusal.{Refusal}
use Rattle.registry_model.specs.declared.refusal.Refusal.TheVariants.{AccessDenied, QuotaExceeded}
use Rattle.registry_model.specs.World.{Repo}
use Rattle.registry_model.specs.Usage.{goes_over}
use Rattle.registry_model.specs.Answer.{Answer, refused}

pub record Decision : Type 0 where
  pub reply : Answer
  pub change : Option Repo

-- a refusal changes nothing
abbrev pub refuses : Refusal → Decision
refuses e = record { reply = refused e; change = None }

-- a reply that changes nothing
abbrev pub tells : Answer → Decision
tells a = record { reply = a; change = None }

abbrev pub makes : Answer → Repo → Decision
makes a r = record { reply = a; change = Some r }

-- what would go over the quota is refused (profile)
abbrev pub within_quota : Repo → Repo → Answer → Decision
within_quota old new a = if goes_over old new then refuses QuotaExceeded else makes a new

-- an operation on the repository of a name; a name without one is refused as one without a grant is (profile)
abbrev pub in_repo : Option Repo → (Repo → Decision) → Decision
in_repo None act = refuses AccessDenied
in_repo (Some r) act = act r
