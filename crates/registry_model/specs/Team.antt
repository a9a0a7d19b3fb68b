-- A team, what it sees of a world, and which steps are its own or leave what it sees (profile).
use Rattle.std.specs.Prelude.{◌≡◌, ◌≤◌, ◌⊎◌, Bool, true, false, if◌then◌else◌, List, Option, Some, None, is_some, IfSome, All, ⊤, bytes_eq}
use Rattle.std.specs.FinMap.{retain_keys, empty}
use Rattle.oci_types.specs.Text.{Text}
use Rattle.registry_model.specs.declared.request.Verb.{Verb}
use Rattle.registry_model.specs.declared.request.Verb.TheVariants.{Get, Head}
use Rattle.registry_model.specs.declared.admin.AdminCommand.{AdminCommand}
use Rattle.registry_model.specs.declared.admin.AdminCommand.TheVariants.{AddRepo, SetQuota, DropRepo, Grant, Revoke, RevokeAll, DropSessions, Prune, Clear}
use Rattle.registry_model.specs.World.{World, level_at}
use Rattle.registry_model.specs.Form.{Form}
use Rattle.registry_model.specs.Ask.{Ask}
use Rattle.registry_model.specs.Operation.{addressed, rank_of, rank}

-- tokens, and names of repositories
pub record Team : Type 0 where
  pub tokens : Text → Bool
  pub names : Text → Bool

-- every name on which a token of the team has a level is a name of the team
abbrev pub IsTeamOf : World → Team → Type 0
IsTeamOf w team =
    (token name : Text) → team.tokens token ≡ true → is_some (level_at w token name) ≡ true
    → team.names name ≡ true

-- the smallest team: one token, with the names on which it has a level
abbrev pub team_of_token : World → Text → Team
team_of_token w token = record {
  tokens = λ other. bytes_eq other token;
  names = λ name. is_some (level_at w token name);
}

-- the grants of the team's tokens alone, and the repositories of its names alone
abbrev pub view : World → Team → World
view w team = record {
  repos = retain_keys w.repos team.names;
  grants = λ token. if team.tokens token then w.grants token else empty;
}

-- ---- steps

-- a request, or an administrator's command
pub data Step : Type 0 where
  asks : Ask → Step
  orders : AdminCommand → Step

-- a request under a token of the team
abbrev pub is_own : Team → Option Text → Bool
is_own team None = false
is_own team (Some token) = team.tokens token

-- a request that reads, whatever its token
abbrev pub is_reading : Verb → Bool
is_reading Get = true
is_reading Head = true
is_reading _ = false

-- the step gives the token no level above the first on the name
abbrev pub GivesNoPush : Text → Text → Step → Type 0
GivesNoPush u name (asks q) = ⊤
GivesNoPush u name (orders (Grant token other level)) = (token.now ≡ u) → (other.now ≡ name) → rank level ≤ 1
GivesNoPush u name (orders _) = ⊤

-- the token may not push to the name, in the world and after any of the steps
abbrev pub NeverPushes : World → List Step → Text → Text → Type 0
NeverPushes w steps u name = (rank_of (level_at w u name) ≤ 1) × All (GivesNoPush u name) steps

-- no token, or one that may not push to the addressed name
abbrev pub MayNotPush : World → List Step → Option Text → Option Text → Type 0
MayNotPush w steps None name = ⊤
MayNotPush w steps (Some u) None = ⊤
MayNotPush w steps (Some u) (Some name) = NeverPushes w steps u name

-- the path addresses no name of the team
abbrev pub IsElsewhere : Team → Form → Type 0
IsElsewhere team form = IfSome (addressed form) (λ name. team.names name ≡ false)

-- by the first world and the whole list: the step is the team's own, or it is aside: elsewhere, or a reading,
-- or under a token that may not push there
abbrev pub OwnOrAside : World → List Step → Team → Step → Type 0
OwnOrAside w steps team (asks q) =
    (is_own team q.token ≡ true) ⊎ IsElsewhere team q.form ⊎ (is_reading q.verb ≡ true)
    ⊎ MayNotPush w steps q.token (addressed q.form)
OwnOrAside w steps team (orders (AddRepo name quota)) = team.names name.now ≡ false
OwnOrAside w steps team (orders (SetQuota name quota)) = team.names name.now ≡ false
OwnOrAside w steps team (orders (DropRepo name)) = team.names name.now ≡ false
OwnOrAside w steps team (orders (Grant token name level)) = team.tokens token.now ≡ false
OwnOrAside w steps team (orders (Revoke token name)) = team.tokens token.now ≡ false
OwnOrAside w steps team (orders (RevokeAll token)) = team.tokens token.now ≡ false
OwnOrAside w steps team (orders (DropSessions name)) = team.names name.now ≡ false
OwnOrAside w steps team (orders (Prune name)) = team.names name.now ≡ false
OwnOrAside w steps team (orders Clear) = ⊤
