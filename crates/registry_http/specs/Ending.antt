-- How a connection ends on which there is no further request.
use Rattle.std.specs.Prelude.{◌≡◌, ◌<◌, length, take, Option}
use Rattle.std.specs.Io.KnownBytes.{Appends}
use Rattle.oci_types.specs.Text.{Text}
use Rattle.registry_http.specs.ReplyText.{refusal_text}
use Rattle.registry_http.specs.declared.ending.FramingRefusal.{FramingRefusal}
use Rattle.registry_http.specs.declared.ending.End.{End}
use Rattle.registry_http.specs.declared.ending.End.TheVariants.{Closed, Cut, Refused, ReadFailed, WriteFailed}

-- a refusal was sent, or so many of its first bytes
abbrev pub SendsRefusal : End → FramingRefusal → Option Text → Option Text → Type 0
SendsRefusal Closed r held held' = ⊥
SendsRefusal Cut r held held' = ⊥
SendsRefusal (Refused s) r held held' = (s ≡ r) × Appends held held' (refusal_text r)
SendsRefusal ReadFailed r held held' = ⊥
SendsRefusal (WriteFailed n) r held held' =
    (n < length (refusal_text r)) × Appends held held' (take n (refusal_text r))
