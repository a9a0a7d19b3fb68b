use Rattle.std.proofs.Common.{[], sym, append-nil, arith}
use Rattle.registry_http.proofs.ChunkReading.{bad_first, bad_second}
use Rattle.registry_conversation.proofs.part.find_end.Goals as goal

pub returns-then-unread-size : goal.returns-then-unread-size
returns-then-unread-size c = (omega arith, λ more. absurd (omega (arith, more)))

pub returns-then-unread-size-ne13 : goal.returns-then-unread-size-ne13
returns-then-unread-size-ne13 c = λ tail. bad_first c.args.size c.args.unread.now tail (omega arith) c.if-unread-size-ne13.true

pub returns-then-unread-last : goal.returns-then-unread-last
returns-then-unread-last c = (omega arith, λ more. c.if-unread-size-ne13.false)

pub returns-then-unread-last-ne10 : goal.returns-then-unread-last-ne10
returns-then-unread-last-ne10 c = λ tail.
    let b = c.args.unread.now in
    bad_second c.args.size b b [] tail (sym (append-nil b)) (omega arith) c.if-unread-size-ne13.false (omega arith) c.if-unread-last-ne10.true

pub returns : goal.returns
returns c = (omega arith, c.if-unread-size-ne13.false, c.if-unread-last-ne10.false)
