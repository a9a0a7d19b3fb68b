-- The line that asks a server to stop, and the answer to it (profile).
use Rattle.std.specs.Prelude.{[], codes}
use Rattle.oci_types.specs.Text.{Text}
use Rattle.order_texts.specs.Answers.{answer_text}

-- without its end
abbrev pub stop_line : Text
stop_line = codes "stop"

-- done, and nothing is printed
abbrev pub stop_answer : Text
stop_answer = answer_text 0 []
