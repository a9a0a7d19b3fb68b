use Rattle.std.proofs.Common.{sym, arith}
use Rattle.registry_http.proofs.HeadLemmas.{take_whole}
use Rattle.registry_http.proofs.chunk.line_bytes.Goals as goal

pub returns-then-unread-lt-LONGEST_CHUNK_LINE : goal.returns-then-unread-lt-LONGEST_CHUNK_LINE
returns-then-unread-lt-LONGEST_CHUNK_LINE c = sym (take_whole 1024 c.args.unread.now (omega arith))
