use Rattle.std.proofs.Common.{◌≤◌, Err, length, take, ap, arith, length-take}
use Rattle.registry_http.proofs.HeadLemmas.{not_exceeded, refuses_never, refuses_full, not_yet, head_read}
use Rattle.registry_http.proofs.head.parse_head.Goals as goal

pub returns-then-seen-eq-LONGEST_HEAD : goal.returns-then-seen-eq-LONGEST_HEAD
returns-then-seen-eq-LONGEST_HEAD c =
    let e = c.head_bytes-seen.ensures in
    refuses_full c.args.buffer.now (rw (c.in-Ok-Partial.field-0-is, e) at c.in-Ok-Partial.ensures.partial) (rw e at c.if-seen-eq-LONGEST_HEAD.true)

pub returns-else-seen-eq-LONGEST_HEAD : goal.returns-else-seen-eq-LONGEST_HEAD
returns-else-seen-eq-LONGEST_HEAD c =
    let e = c.head_bytes-seen.ensures in
    let none = rw (c.in-Ok-Partial.field-0-is, e) at c.in-Ok-Partial.ensures.partial in
    let unfinished = rw (c.in-Ok-Partial.field-0-is, e) at c.in-Ok-Partial.ensures.unfinished in
    not_yet c.args.buffer.now none unfinished (rw e at c.if-seen-eq-LONGEST_HEAD.false)

pub returns-in-Err : goal.returns-in-Err
returns-in-Err c =
    let e = c.head_bytes-seen.ensures in
    let few : length (take 16384 c.args.buffer.now) ≤ 16384 = omega (arith, length-take 16384 c.args.buffer.now) in
    refuses_never c.args.buffer.now
    (rw e at (c.in-Err.ensures.invalid (λ same. not_exceeded (take 16384 c.args.buffer.now) few (rw (c.requires, e) at (c.in-Err.ensures.too_many (ap Err same))))))

pub returns-in-Ok-Complete : goal.returns-in-Ok-Complete
returns-in-Ok-Complete c =
    let e = c.head_bytes-seen.ensures in
    let within = rw (c.in-Ok-Complete.field-0-is, e) at c.in-Ok-Complete.ensures.within in
    let complete = rw (c.in-Ok-Complete.field-0-is, e) at c.in-Ok-Complete.ensures.complete in
    (complete.0, head_read c.args.buffer.now _ _ complete.0 within complete.1)
