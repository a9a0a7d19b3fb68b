-- Upload sessions, as they are looked up, and the parts of the answers.
use Rattle.std.specs.Prelude.{◌≡◌, ℕ, ◌+◌, ◌++◌, ◌||◌, not, nat_lt, nat_le, length, Option, Some, None, option_map, if◌then◌else◌}
use Rattle.std.specs.Option.{option_and_then}
use Rattle.std.specs.FinMap.{get}
use Rattle.oci_types.specs.Text.{Text}
use Rattle.oci_types.specs.Digest.{matches}
use Rattle.oci_types.specs.SessionNumber.{session_number_of}
use Rattle.registry_model.specs.declared.range.RangeVerdict.{RangeVerdict}
use Rattle.registry_model.specs.declared.range.RangeVerdict.TheVariants.{Fits, Malformed, OutOfOrder, Unequal}
use Rattle.registry_model.specs.declared.refusal.Refusal.TheVariants.{DigestMismatch, ContentTooLarge, InvalidRange, RangeLength}
use Rattle.registry_model.specs.declared.reply.Status.TheVariants.{Accepted}
use Rattle.operation_parts.specs.Digests.{verifiable_in}
use Rattle.registry_model.specs.World.{Repo, World}
use Rattle.registry_model.specs.Limits.{largest, largest_blob, most_sessions}
use Rattle.registry_model.specs.Answer.{Answer, refused}
use Rattle.registry_model.specs.Decision.{Decision, refuses, within_quota}
use Rattle.registry_model.specs.Blobs.{created_blob}
use Rattle.registry_model.specs.Keeping.{Kept}
use Rattle.registry_model.specs.Sessions.{appended, finished, session_reply, refuses_order}
use Rattle.registry_model.specs.Lookups.{session_size_at, sessions_open_at, last_number_at, bytes_or_none}
use Rattle.blob_operations.specs.declared.uploads.Upload.{Upload}

-- the open session whose number the text is
abbrev pub upload_at : World → Text → Text → Option Upload
upload_at w name reference =
    option_and_then
    (λ number. option_map (λ size. record { number = number; size = size }) (session_size_at w name number))
    (session_number_of reference)

-- such a session is open
abbrev pub IsOpen : Kept → Text → Upload → Type 0
IsOpen s name u = session_size_at s.world name u.number ≡ Some u.size

-- the number that the next session gets, where one more may be opened
abbrev pub next_number_at : World → Text → Option ℕ
next_number_at w name =
    if nat_le most_sessions (sessions_open_at w name) || nat_le largest (last_number_at w name) then None
    else Some (last_number_at w name + 1)

-- why a chunk of the length is refused, if it is: by the verdict on its range, and then by the session's
-- length after it
abbrev pub chunk_refusal : RangeVerdict → Text → Upload → ℕ → Option Answer
chunk_refusal Fits name u length =
    if nat_lt largest_blob (u.size + length) then Some (refused ContentTooLarge) else None
chunk_refusal Malformed name u length = Some (refused InvalidRange)
chunk_refusal OutOfOrder name u length = Some ((refuses_order name u.number u.size).reply)
chunk_refusal Unequal name u length = Some (refused RangeLength)

-- the digest that is given, where bytes can be verified against it
abbrev pub given_digest : Option Text → Option Text
given_digest given = option_and_then verifiable_in given

-- the bytes of a session so far
abbrev pub bytes_so_far : Repo → ℕ → Text
bytes_so_far r number = bytes_or_none (get r.sessions number)

-- a chunk behind them
abbrev pub append_more : Repo → Text → ℕ → Text → Decision
append_more r name number body =
    within_quota r (appended r number (bytes_so_far r number ++ body))
    (session_reply Accepted name number (length (bytes_so_far r number) + length body))

-- the session ends, and these are its whole bytes
abbrev pub finish_with : Repo → Text → ℕ → Text → Text → Decision
finish_with r name number digest bytes =
    if not (matches digest bytes) then refuses DigestMismatch
    else within_quota r (finished r number digest bytes) (created_blob name digest)
