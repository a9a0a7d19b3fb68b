-- The status codes of framing refusals (RFC 9110, section 15).
use Rattle.std.specs.Prelude.{ℕ}
use Rattle.registry_http.specs.declared.ending.FramingRefusal.{FramingRefusal}
use Rattle.registry_http.specs.declared.ending.FramingRefusal.TheVariants.{UnreadableHead, HostCount, TargetForm, TransferEncodingConflict, UnknownTransferEncoding, InvalidContentLength, LengthTooLarge, UnreadableChunk, ChunksTooLarge, NoBufferMemory}

abbrev pub refusal_code : FramingRefusal → ℕ
refusal_code UnreadableHead = 400
refusal_code HostCount = 400
refusal_code TargetForm = 400
refusal_code TransferEncodingConflict = 400
refusal_code UnknownTransferEncoding = 501
refusal_code InvalidContentLength = 400
refusal_code LengthTooLarge = 413
refusal_code UnreadableChunk = 400
refusal_code ChunksTooLarge = 413
refusal_code NoBufferMemory = 503
