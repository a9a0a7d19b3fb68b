-- The registry's limits (profile). The constants of src/limits.rt are these numbers (`limits_are_these`).
use Rattle.std.specs.Prelude.{ℕ}
use Rattle.registry_model.specs.declared.settings.Settings.{Settings}

-- of session numbers, quotas and used bytes
abbrev pub largest : ℕ
largest = 9223372036854775807

-- the most bytes of a blob or of a session
abbrev pub largest_blob : ℕ
largest_blob = 67108864

-- the most bytes of a request's body, whatever the operator chose: those of a blob
abbrev pub most_body : Settings → ℕ
most_body s = largest_blob

-- the most bytes of a manifest
abbrev pub largest_manifest : ℕ
largest_manifest = 4194304

-- the most open sessions of a repository
abbrev pub most_sessions : ℕ
most_sessions = 1000
