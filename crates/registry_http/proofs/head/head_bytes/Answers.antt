use Rattle.std.proofs.Common.{sym, arith}
use Rattle.registry_http.proofs.HeadLemmas.{take_whole}
use Rattle.registry_http.proofs.head.head_bytes.Goals as goal

pub returns-then-buffer-lt-LONGEST_HEAD : goal.returns-then-buffer-lt-LONGEST_HEAD
returns-then-buffer-lt-LONGEST_HEAD c = sym (take_whole 16384 c.args.buffer.now (omega arith))
