-- What an administrator's command does (profile).
use Rattle.std.specs.Prelude.{ℕ, Option, Some, None, is_some, if◌then◌else◌}
use Rattle.std.specs.FinMap.{insert, remove, empty}
use Rattle.oci_types.specs.Text.{Text}
use Rattle.registry_model.specs.declared.level.Level.{Level}
use Rattle.registry_model.specs.declared.admin.AdminCommand.{AdminCommand}
use Rattle.registry_model.specs.declared.admin.AdminCommand.TheVariants.{AddRepo, SetQuota, DropRepo, Grant, Revoke, RevokeAll, DropSessions, Prune, Clear}
use Rattle.registry_model.specs.declared.admin.AdminFault.{AdminFault}
use Rattle.registry_model.specs.declared.admin.AdminFault.TheVariants.{NoRepo, NoGrant, RepoThere}
use Rattle.registry_model.specs.World.{Repo, World, repo_at, has_repo, is_known, level_at, new_repo, with_repo, update_repo, with_grants}
use Rattle.registry_model.specs.Pruning.{prune}

-- a repository that is there keeps all but its quota
abbrev pub with_quota : Option Repo → ℕ → Repo
with_quota None quota = new_repo quota
with_quota (Some r) quota = record r { quota = quota }

abbrev pub set_repo : World → Text → ℕ → World
set_repo w name quota = with_repo w name (with_quota (repo_at w name) quota)

-- the level takes the place of the one that the token has on the repository
abbrev pub grant : World → Text → Text → Level → World
grant w token name level = with_grants w token (insert (w.grants token) name level)

abbrev pub revoke : World → Text → Text → World
revoke w token name = with_grants w token (remove (w.grants token) name)

-- the token has no level any more
abbrev pub revoke_all : World → Text → World
revoke_all w token = with_grants w token empty

-- the repository goes, with every level on it
abbrev pub drop_repo : World → Text → World
drop_repo w name = record { repos = remove w.repos name; grants = λ token. remove (w.grants token) name }

-- every open session goes; the last number stays
abbrev pub without_sessions : Repo → Repo
without_sessions r = record r { sessions = empty }

abbrev pub drop_sessions : World → Text → World
drop_sessions w name = update_repo w name without_sessions (repo_at w name)

-- ---- commands

abbrev pub unless_there : World → Text → Option AdminFault
unless_there w name = if has_repo w name then None else Some NoRepo

-- why a command is refused, if it is
abbrev pub refusal_of : World → AdminCommand → Option AdminFault
refusal_of w (AddRepo name quota) = if has_repo w name.now then Some RepoThere else None
refusal_of w (SetQuota name quota) = unless_there w name.now
refusal_of w (DropRepo name) = unless_there w name.now
refusal_of w (Grant token name level) = unless_there w name.now
refusal_of w (Revoke token name) = if is_some (level_at w token.now name.now) then None else Some NoGrant
refusal_of w (RevokeAll token) = if is_known (w.grants token.now) then None else Some NoGrant
refusal_of w (DropSessions name) = unless_there w name.now
refusal_of w (Prune name) = unless_there w name.now
refusal_of w Clear = None

-- what a command that is not refused makes of the world; what `Clear` removes is in no world
abbrev pub carried_out : World → AdminCommand → World
carried_out w (AddRepo name quota) = set_repo w name.now quota.bytes
carried_out w (SetQuota name quota) = set_repo w name.now quota.bytes
carried_out w (DropRepo name) = drop_repo w name.now
carried_out w (Grant token name level) = grant w token.now name.now level
carried_out w (Revoke token name) = revoke w token.now name.now
carried_out w (RevokeAll token) = revoke_all w token.now
carried_out w (DropSessions name) = drop_sessions w name.now
carried_out w (Prune name) = prune w name.now
carried_out w Clear = w

abbrev pub after_command : World → AdminCommand → World
after_command w a = elim (refusal_of w a) as (λ _. World) [ None ↦ carried_out w a | Some e ↦ w ]
