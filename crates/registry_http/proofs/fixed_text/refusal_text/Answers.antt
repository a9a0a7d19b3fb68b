use Rattle.registry_http.proofs.FixedTexts.{refusal_400, refusal_413, refusal_501, refusal_503}
use Rattle.registry_http.proofs.fixed_text.refusal_text.Goals as goal

pub returns-in-UnreadableHead : goal.returns-in-UnreadableHead
returns-in-UnreadableHead c = rw c.in-UnreadableHead.is refusal_400

pub returns-in-HostCount : goal.returns-in-HostCount
returns-in-HostCount c = rw c.in-HostCount.is refusal_400

pub returns-in-TargetForm : goal.returns-in-TargetForm
returns-in-TargetForm c = rw c.in-TargetForm.is refusal_400

pub returns-in-TransferEncodingConflict : goal.returns-in-TransferEncodingConflict
returns-in-TransferEncodingConflict c = rw c.in-TransferEncodingConflict.is refusal_400

pub returns-in-UnknownTransferEncoding : goal.returns-in-UnknownTransferEncoding
returns-in-UnknownTransferEncoding c = rw c.in-UnknownTransferEncoding.is refusal_501

pub returns-in-InvalidContentLength : goal.returns-in-InvalidContentLength
returns-in-InvalidContentLength c = rw c.in-InvalidContentLength.is refusal_400

pub returns-in-LengthTooLarge : goal.returns-in-LengthTooLarge
returns-in-LengthTooLarge c = rw c.in-LengthTooLarge.is refusal_413

pub returns-in-UnreadableChunk : goal.returns-in-UnreadableChunk
returns-in-UnreadableChunk c = rw c.in-UnreadableChunk.is refusal_400

pub returns-in-ChunksTooLarge : goal.returns-in-ChunksTooLarge
returns-in-ChunksTooLarge c = rw c.in-ChunksTooLarge.is refusal_413

pub returns-in-NoBufferMemory : goal.returns-in-NoBufferMemory
returns-in-NoBufferMemory c = rw c.in-NoBufferMemory.is refusal_503
