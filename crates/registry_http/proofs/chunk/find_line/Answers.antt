use Rattle.registry_http.proofs.ChunkReading.{line_never, line_full, line_not_yet, line_read}
use Rattle.registry_http.proofs.chunk.find_line.Goals as goal

pub returns-in-Ok-Complete : goal.returns-in-Ok-Complete
returns-in-Ok-Complete c =
    let e = c.line_bytes-seen.ensures in
    let found = rw (c.in-Ok-Complete.field-0-is, e) at c.in-Ok-Complete.ensures.complete in
    line_read c.args.unread.now c.in-Ok-Complete.len c.in-Ok-Complete.size found.0 found.1

pub returns-then-seen-eq-LONGEST_CHUNK_LINE : goal.returns-then-seen-eq-LONGEST_CHUNK_LINE
returns-then-seen-eq-LONGEST_CHUNK_LINE c =
    let e = c.line_bytes-seen.ensures in
    line_full c.args.unread.now (rw (c.in-Ok-Partial.field-0-is, e) at c.in-Ok-Partial.ensures.partial) (rw e at c.if-seen-eq-LONGEST_CHUNK_LINE.true)

pub returns-else-seen-eq-LONGEST_CHUNK_LINE : goal.returns-else-seen-eq-LONGEST_CHUNK_LINE
returns-else-seen-eq-LONGEST_CHUNK_LINE c =
    let e = c.line_bytes-seen.ensures in
    let none = rw (c.in-Ok-Partial.field-0-is, e) at c.in-Ok-Partial.ensures.partial in
    let may = rw (c.in-Ok-Partial.field-0-is, e) at c.in-Ok-Partial.ensures.unfinished in
    line_not_yet c.args.unread.now none may (rw e at c.if-seen-eq-LONGEST_CHUNK_LINE.false)

pub returns-in-Err : goal.returns-in-Err
returns-in-Err c = line_never c.args.unread.now (rw c.line_bytes-seen.ensures at c.in-Err.ensures.invalid)
