-- Upload sessions (OCI Distribution Specification 1.1, Pushing a blob in chunks and Pushing blobs; their
-- numbers, limits and order of refusals are the profile's).
use Rattle.std.specs.Prelude.{ℕ, ◌+◌, ◌-◌, ◌==◌, [], ◌++◌, Bool, not, ◌||◌, nat_lt, nat_le, length, Option, Some, None, option_map, codes, decimal, if◌then◌else◌}
use Rattle.std.specs.Option.{option_and_then}
use Rattle.std.specs.FinMap.{get, insert, remove, len}
use Rattle.oci_types.specs.Text.{Text}
use Rattle.oci_types.specs.Digest.{matches}
use Rattle.oci_types.specs.SessionNumber.{session_number_of}
use Rattle.registry_model.specs.declared.range.RangeVerdict.{RangeVerdict}
use Rattle.registry_model.specs.declared.range.RangeVerdict.TheVariants.{Fits, Malformed, OutOfOrder, Unequal}
use Rattle.registry_model.specs.declared.refusal.Refusal.TheVariants.{UploadUnknown, InvalidDigest, DigestMismatch, ContentTooLarge, InvalidRange, RangeLength, RangeOutOfOrder, TooManyUploads}
use Rattle.registry_model.specs.declared.reply.Status.{Status}
use Rattle.registry_model.specs.declared.reply.Status.TheVariants.{Accepted, NoContent}
use Rattle.registry_model.specs.World.{Repo}
use Rattle.registry_model.specs.Limits.{largest, largest_blob, most_sessions}
use Rattle.registry_model.specs.Range.{range_verdict}
use Rattle.registry_model.specs.Answer.{Answer, bare_answer, refused}
use Rattle.registry_model.specs.Decision.{Decision, refuses, tells, makes, within_quota}
use Rattle.registry_model.specs.Blobs.{can_verify, with_blob, created_blob}

-- an open session: its number, and its bytes so far
pub record Session : Type 0 where
  pub number : ℕ
  pub bytes : Text

abbrev pub session_numbered : Repo → ℕ → Option Session
session_numbered r number =
    option_map (λ bytes. record { number = number; bytes = bytes }) (get r.sessions number)

-- the session whose number the text is
abbrev pub session_named : Repo → Text → Option Session
session_named r reference = option_and_then (session_numbered r) (session_number_of reference)

-- ---- replies

abbrev pub session_location : Text → ℕ → Text
session_location name number = codes "/v2/" ++ name ++ codes "/blobs/uploads/" ++ decimal number

-- the first and the last position; an empty session has "0-0" (profile)
abbrev pub session_range : ℕ → Text
session_range size = codes "0-" ++ decimal (size - 1)

abbrev pub session_reply : Status → Text → ℕ → ℕ → Answer
session_reply status name number size = record (bare_answer status) {
  location = Some (session_location name number);
  range = Some (session_range size);
}

-- the refusal that says where the session stands
abbrev pub refuses_order : Text → ℕ → ℕ → Decision
refuses_order name number size =
    tells (record (refused RangeOutOfOrder)
    { location = Some (session_location name number); range = Some (session_range size) })

-- ---- opening

abbrev pub is_full : Repo → Bool
is_full r = nat_le most_sessions (len r.sessions) || nat_le largest r.last

-- an empty session under the next number
abbrev pub opened : Repo → Repo
opened r = record r { last = r.last + 1; sessions = insert r.sessions (r.last + 1) [] }

abbrev pub open_session : Repo → Text → Decision
open_session r name =
    if is_full r then refuses TooManyUploads
    else makes (session_reply Accepted name (r.last + 1) 0) (opened r)

-- ---- status

abbrev pub show_session : Text → Option Session → Decision
show_session name None = refuses UploadUnknown
show_session name (Some s) = tells (session_reply NoContent name s.number (length s.bytes))

abbrev pub read_session : Repo → Text → Text → Decision
read_session r name reference = show_session name (session_named r reference)

-- ---- chunks

-- the verdict on the range, and what follows where it fits
abbrev pub range_checked : RangeVerdict → Text → ℕ → ℕ → Decision → Decision
range_checked Fits name number size next = next
range_checked Malformed name number size next = refuses InvalidRange
range_checked OutOfOrder name number size next = refuses_order name number size
range_checked Unequal name number size next = refuses RangeLength

abbrev pub appended : Repo → ℕ → Text → Repo
appended r number bytes = record r { sessions = insert r.sessions number bytes }

abbrev pub append_to : Repo → Text → Option Text → Text → Option Session → Decision
append_to r name range body None = refuses UploadUnknown
append_to r name range body (Some s) =
    range_checked (range_verdict range (length s.bytes) (length body)) name s.number (length s.bytes)
    (if nat_lt largest_blob (length s.bytes + length body) then refuses ContentTooLarge
    else within_quota r (appended r s.number (s.bytes ++ body))
    (session_reply Accepted name s.number (length s.bytes + length body)))

-- PATCH
abbrev pub append_chunk : Repo → Text → Text → Option Text → Text → Decision
append_chunk r name reference range body = append_to r name range body (session_named r reference)

-- ---- closing

-- the session is gone, and its bytes are a blob
abbrev pub finished : Repo → ℕ → Text → Text → Repo
finished r number digest bytes = with_blob (record r { sessions = remove r.sessions number }) digest bytes

-- a last chunk that is empty has no range to look at
abbrev pub last_range_verdict : Option Text → ℕ → Text → RangeVerdict
last_range_verdict range size body = if length body == 0 then Fits else range_verdict range size (length body)

abbrev pub close_with : Repo → Text → Text → Option Text → Text → Session → Decision
close_with r name digest range body s =
    if not (can_verify digest) then refuses InvalidDigest
    else range_checked (last_range_verdict range (length s.bytes) body) name s.number (length s.bytes)
    (if nat_lt largest_blob (length s.bytes + length body) then refuses ContentTooLarge
    else (if not (matches digest (s.bytes ++ body)) then refuses DigestMismatch
    else within_quota r (finished r s.number digest (s.bytes ++ body)) (created_blob name digest)))

abbrev pub close_to : Repo → Text → Option Text → Option Text → Text → Option Session → Decision
close_to r name digest range body None = refuses UploadUnknown
close_to r name None range body (Some s) = refuses InvalidDigest
close_to r name (Some digest) range body (Some s) = close_with r name digest range body s

-- PUT
abbrev pub close_session : Repo → Text → Text → Option Text → Option Text → Text → Decision
close_session r name reference digest range body =
    close_to r name digest range body (session_named r reference)
