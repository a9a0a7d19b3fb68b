-- Whom a request comes from, and where it leads.
use Rattle.std.specs.Prelude.{Option, Some, None}
use Rattle.oci_types.specs.Text.{Text}
use Rattle.registry_model.specs.declared.refusal.Refusal.TheVariants.{NoEndpoint}
use Rattle.registry_model.specs.declared.request.Verb.{Verb}
use Rattle.registry_model.specs.Decision.{Decision, refuses}
use Rattle.registry_model.specs.Form.{Form, no_form, base, blob, uploads, session, manifest, tags, referrers}
use Rattle.registry_model.specs.Judging.{at_base}

-- the name of the repository that a path leads to
abbrev pub name_at : Form → Option Text
name_at no_form = None
name_at base = None
name_at (blob name digest) = Some name
name_at (uploads name) = Some name
name_at (session name reference) = Some name
name_at (manifest name reference) = Some name
name_at (tags name) = Some name
name_at (referrers name digest) = Some name

-- what is told where it leads to none
abbrev pub beside : Form → Verb → Decision
beside base verb = at_base verb
beside _ verb = refuses NoEndpoint
