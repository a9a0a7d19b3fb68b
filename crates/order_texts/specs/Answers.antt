-- The text of an answer (profile).
use Rattle.std.specs.Prelude.{ℕ, ◌++◌, decimal}
use Rattle.oci_types.specs.Text.{Text}
use Rattle.registry_orders.specs.declared.failure.Failure.{Failure}
use Rattle.registry_orders.specs.Failures.{status_of, text_of}
use Rattle.registry_orders.specs.Outputs.{newline}

-- the exit status, on a line of its own, and what the program prints: on standard output where the status
-- is 0, and else on standard error
abbrev pub answer_text : ℕ → Text → Text
answer_text status text = decimal status ++ newline ++ text

-- what the program says and how it ends, where it fails
abbrev pub failure_text : Failure → Text
failure_text failure = answer_text (status_of failure) (text_of failure ++ newline)
