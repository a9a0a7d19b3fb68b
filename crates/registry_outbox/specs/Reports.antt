-- What is told of a request that was answered or refused.
use Rattle.std.specs.Prelude.{◌≡◌, ◌+◌, ◌⊎◌, Bool, if◌then◌else◌, length, Option, Some, None, IfSome, string_bytes}
use Rattle.oci_types.specs.Text.{Text}
use Rattle.httparse.specs.Grammar.{RequestHead}
use Rattle.registry_model.specs.Answer.{Answer, code_of, busy_answer, failed_answer}
use Rattle.registry_model.specs.Form.{Form, no_form, base, blob, uploads, session, manifest, tags, referrers}
use Rattle.registry_http.specs.Asking.{verb_of, path_text, form_if}
use Rattle.registry_http.specs.Refusals.{refusal_code}
use Rattle.registry_http.specs.Spelling.{Item}
use Rattle.registry_http.specs.declared.ending.FramingRefusal.{FramingRefusal}
use Rattle.registry_outbox.specs.declared.report.Endpoint.{Endpoint}
use Rattle.registry_outbox.specs.declared.report.Endpoint.TheVariants as endpoint
use Rattle.registry_outbox.specs.declared.report.Asked.{Asked}
use Rattle.registry_outbox.specs.declared.report.Report.{Report}

-- the form of a path, without its texts
abbrev pub endpoint_of : Form → Endpoint
endpoint_of no_form = endpoint.NoForm
endpoint_of base = endpoint.Base
endpoint_of (blob name digest) = endpoint.Blob
endpoint_of (uploads name) = endpoint.Uploads
endpoint_of (session name reference) = endpoint.Session
endpoint_of (manifest name reference) = endpoint.Manifest
endpoint_of (tags name) = endpoint.Tags
endpoint_of (referrers name digest) = endpoint.Referrers

-- the name in a path
abbrev pub name_of : Form → Option Text
name_of no_form = None
name_of base = None
name_of (blob name digest) = Some name
name_of (uploads name) = Some name
name_of (session name reference) = Some name
name_of (manifest name reference) = Some name
name_of (tags name) = Some name
name_of (referrers name digest) = Some name

-- the answer where memory is wanting, or of a service that is spent
abbrev pub failure_of : Bool → Answer
failure_of spent = if spent then failed_answer else busy_answer

-- what the path of a head asks; where memory was wanting for its text that is not known, and the answer says
-- so
abbrev pub IsEndpoint : Option Endpoint → RequestHead → Answer → Type 0
IsEndpoint told h a =
    (told ≡ Some (endpoint_of (form_if (path_text h.target))))
    ⊎ ((told ≡ None) × ((spent : Bool) × (a ≡ failure_of spent)))

-- what a request with this head asks, to which that was answered
pub record IsAsked (asked : Asked) (h : RequestHead) (a : Answer) : Type 0 where
  pub verb : asked.verb ≡ verb_of h.method
  pub endpoint : IsEndpoint asked.endpoint h a
  pub repository : IfSome asked.repository
      (λ name. name_of (form_if (path_text h.target)) ≡ Some (string_bytes name))

-- the report of this request, to which that was answered
pub record TellsAnswer (r : Report) (i : Item) (a : Answer) : Type 0 where
  pub status : r.status ≡ code_of a.status
  pub asked : Asked
  pub asked_is : r.asked ≡ Some asked
  pub asks : IsAsked asked i.head a
  pub came : r.came ≡ length i.body

-- the report of a request that was refused so before it was whole
pub record TellsRefusal (r : Report) (refusal : FramingRefusal) : Type 0 where
  pub status : r.status ≡ refusal_code refusal
  pub asked : r.asked ≡ None
  pub came : r.came ≡ 0

-- there is a report, of which P holds, and what is to go out has grown by as many bytes as it says
abbrev pub Reported : Option Report → Text → Text → (Report → Type 0) → Type 0
Reported report going going' P =
    (r : Report) × (report ≡ Some r) × P r × (length going' ≡ length going + r.went)
