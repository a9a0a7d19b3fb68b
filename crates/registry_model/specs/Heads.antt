-- What HEAD leaves of GET (RFC 9110, section 9.3.2).
use Rattle.std.specs.Prelude.{ℕ, Bool, true, false, length}
use Rattle.registry_model.specs.declared.request.Verb.{Verb}
use Rattle.registry_model.specs.declared.request.Verb.TheVariants.{Get, Head}
use Rattle.registry_model.specs.Ask.{Ask}
use Rattle.registry_model.specs.Operation.{Operation, sizes_blob, sizes_manifest, sizes_referrers}
use Rattle.registry_model.specs.Answer.{Content, sent, unsent, Answer}

abbrev pub is_head : Verb → Bool
is_head Head = true
is_head _ = false

-- the content itself, and not its length alone
abbrev pub is_sent : Content → Bool
is_sent (sent bytes) = true
is_sent (unsent size) = false

-- it is answered with a length alone
abbrev pub is_sizing : Operation → Bool
is_sizing (sizes_blob digest) = true
is_sizing (sizes_manifest reference) = true
is_sizing (sizes_referrers digest artifact_type) = true
is_sizing _ = false

-- the request with the one method in the place of its own, and with the other
abbrev pub as_head : Ask → Ask
as_head q = record q { verb = Head }

abbrev pub as_get : Ask → Ask
as_get q = record q { verb = Get }

abbrev pub length_of : Content → ℕ
length_of (sent bytes) = length bytes
length_of (unsent size) = size

-- a reply without its content, but for the length
abbrev pub without_content : Answer → Answer
without_content a = record a { body = unsent (length_of a.body) }
