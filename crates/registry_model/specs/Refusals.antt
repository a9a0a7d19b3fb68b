-- The refusals' statuses, codes and messages (OCI Distribution Specification 1.1, Error Codes; messages:
-- profile).
use Rattle.std.specs.Prelude.{◌++◌, codes}
use Rattle.oci_types.specs.Text.{Text}
use Rattle.registry_model.specs.declared.refusal.Refusal.{Refusal}
use Rattle.registry_model.specs.declared.refusal.Refusal.TheVariants as refusal
use Rattle.registry_model.specs.declared.reply.Status.{Status}
use Rattle.registry_model.specs.declared.reply.Status.TheVariants as status

abbrev pub status_of : Refusal → Status
status_of refusal.TokenRequired = status.Unauthorized
status_of refusal.NoEndpoint = status.NotFound
status_of refusal.InvalidName = status.BadRequest
status_of refusal.MethodNotAllowed = status.MethodNotAllowed
status_of refusal.AccessDenied = status.Forbidden
status_of refusal.BlobUnknown = status.NotFound
status_of refusal.ManifestUnknown = status.NotFound
status_of refusal.UploadUnknown = status.NotFound
status_of refusal.InvalidDigest = status.BadRequest
status_of refusal.DigestMismatch = status.BadRequest
status_of refusal.ContentTooLarge = status.PayloadTooLarge
status_of refusal.RangeLength = status.BadRequest
status_of refusal.RangeOutOfOrder = status.RangeNotSatisfiable
status_of refusal.InvalidRange = status.BadRequest
status_of refusal.ManifestBlobUnknown = status.NotFound
status_of refusal.InvalidManifest = status.BadRequest
status_of refusal.InvalidReference = status.BadRequest
status_of refusal.QuotaExceeded = status.Forbidden
status_of refusal.TooManyUploads = status.TooManyRequests
status_of refusal.InvalidPageSize = status.BadRequest

abbrev pub code_word : Refusal → Text
code_word refusal.TokenRequired = codes "UNAUTHORIZED"
code_word refusal.NoEndpoint = codes "UNSUPPORTED"
code_word refusal.InvalidName = codes "NAME_INVALID"
code_word refusal.MethodNotAllowed = codes "UNSUPPORTED"
code_word refusal.AccessDenied = codes "DENIED"
code_word refusal.BlobUnknown = codes "BLOB_UNKNOWN"
code_word refusal.ManifestUnknown = codes "MANIFEST_UNKNOWN"
code_word refusal.UploadUnknown = codes "BLOB_UPLOAD_UNKNOWN"
code_word refusal.InvalidDigest = codes "DIGEST_INVALID"
code_word refusal.DigestMismatch = codes "DIGEST_INVALID"
code_word refusal.ContentTooLarge = codes "SIZE_INVALID"
code_word refusal.RangeLength = codes "SIZE_INVALID"
code_word refusal.RangeOutOfOrder = codes "BLOB_UPLOAD_INVALID"
code_word refusal.InvalidRange = codes "BLOB_UPLOAD_INVALID"
code_word refusal.ManifestBlobUnknown = codes "MANIFEST_BLOB_UNKNOWN"
code_word refusal.InvalidManifest = codes "MANIFEST_INVALID"
code_word refusal.InvalidReference = codes "MANIFEST_INVALID"
code_word refusal.QuotaExceeded = codes "DENIED"
code_word refusal.TooManyUploads = codes "TOOMANYREQUESTS"
code_word refusal.InvalidPageSize = codes "UNSUPPORTED"

abbrev pub message_of : Refusal → Text
message_of refusal.TokenRequired = codes "token required"
message_of refusal.NoEndpoint = codes "no such endpoint"
message_of refusal.InvalidName = codes "invalid repository name"
message_of refusal.MethodNotAllowed = codes "method not allowed"
message_of refusal.AccessDenied = codes "access denied"
message_of refusal.BlobUnknown = codes "blob unknown"
message_of refusal.ManifestUnknown = codes "manifest unknown"
message_of refusal.UploadUnknown = codes "upload unknown"
message_of refusal.InvalidDigest = codes "invalid digest"
message_of refusal.DigestMismatch = codes "digest does not match"
message_of refusal.ContentTooLarge = codes "content too large"
message_of refusal.RangeLength = codes "range does not match body"
message_of refusal.RangeOutOfOrder = codes "range out of order"
message_of refusal.InvalidRange = codes "invalid content range"
message_of refusal.ManifestBlobUnknown = codes "manifest blob unknown"
message_of refusal.InvalidManifest = codes "invalid manifest"
message_of refusal.InvalidReference = codes "invalid reference"
message_of refusal.QuotaExceeded = codes "quota exceeded"
message_of refusal.TooManyUploads = codes "too many uploads"
message_of refusal.InvalidPageSize = codes "invalid page size"

-- the error body: one error, with no detail
abbrev pub error_body : Text → Text → Text
error_body code message =
    codes "{\"errors\":[{\"code\":\"" ++ code ++ codes "\",\"message\":\"" ++ message ++ codes "\"}]}"
