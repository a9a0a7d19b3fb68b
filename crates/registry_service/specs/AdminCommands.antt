-- Why an administrator's command is not carried out.
use Rattle.std.specs.Prelude.{Bool, true, not, is_some}
use Rattle.oci_types.specs.declared.fault.Fault.{Fault}
use Rattle.oci_types.specs.declared.fault.Fault.TheVariants as fault
use Rattle.registry_model.specs.declared.admin.AdminCommand.{AdminCommand}
use Rattle.registry_model.specs.declared.admin.AdminCommand.TheVariants.{AddRepo, SetQuota, DropRepo, Grant, Revoke, RevokeAll, DropSessions, Prune, Clear}
use Rattle.registry_model.specs.declared.admin.AdminFault.{AdminFault}
use Rattle.registry_model.specs.declared.admin.AdminFault.TheVariants.{Memory, Storage, NoRepo, NoGrant, RepoThere}
use Rattle.registry_model.specs.World.{World, has_repo, is_known, level_at}

-- where the keeper gave up
abbrev pub fault_of : Fault → AdminFault
fault_of fault.Memory = Memory
fault_of fault.Storage = Storage

-- what a command is about is there, or is not where it makes it
abbrev pub is_carried_out : World → AdminCommand → Bool
is_carried_out w (AddRepo name quota) = not (has_repo w name.now)
is_carried_out w (SetQuota name quota) = has_repo w name.now
is_carried_out w (DropRepo name) = has_repo w name.now
is_carried_out w (Grant token name level) = has_repo w name.now
is_carried_out w (Revoke token name) = is_some (level_at w token.now name.now)
is_carried_out w (RevokeAll token) = is_known (w.grants token.now)
is_carried_out w (DropSessions name) = has_repo w name.now
is_carried_out w (Prune name) = has_repo w name.now
is_carried_out w Clear = true

-- why it is refused where it is
abbrev pub refusal_as : AdminCommand → AdminFault
refusal_as (AddRepo name quota) = RepoThere
refusal_as (Revoke token name) = NoGrant
refusal_as (RevokeAll token) = NoGrant
refusal_as _ = NoRepo
