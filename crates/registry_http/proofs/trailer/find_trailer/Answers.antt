use Rattle.std.proofs.Common.{◌≤◌, Err, length, take, ap, arith, length-take}
use Rattle.registry_http.proofs.TrailerLemmas.{section_not_exceeded, trailer_never, trailer_full, trailer_not_yet, trailer_read, trailer_crowded}
use Rattle.registry_http.proofs.trailer.find_trailer.Goals as goal

pub returns-then-count-gt-MOST_FIELDS : goal.returns-then-count-gt-MOST_FIELDS
returns-then-count-gt-MOST_FIELDS c =
    let e = c.head_bytes-seen.ensures in
    let within = rw (c.in-Ok-Complete.field-0-is, e) at c.in-Ok-Complete.ensures.within in
    let found = rw (c.in-Ok-Complete.field-0-is, e) at c.in-Ok-Complete.ensures.complete in
    trailer_crowded c.args.unread.now _ _ _ found.0 found.1 within found.2 c.if-count-gt-MOST_FIELDS.true

pub returns-else-count-gt-MOST_FIELDS : goal.returns-else-count-gt-MOST_FIELDS
returns-else-count-gt-MOST_FIELDS c =
    let e = c.head_bytes-seen.ensures in
    let within = rw (c.in-Ok-Complete.field-0-is, e) at c.in-Ok-Complete.ensures.within in
    let found = rw (c.in-Ok-Complete.field-0-is, e) at c.in-Ok-Complete.ensures.complete in
    trailer_read c.args.unread.now _ _ _ found.0 found.1 within found.2 c.if-count-gt-MOST_FIELDS.false

pub returns-then-seen-eq-LONGEST_HEAD : goal.returns-then-seen-eq-LONGEST_HEAD
returns-then-seen-eq-LONGEST_HEAD c =
    let e = c.head_bytes-seen.ensures in
    trailer_full c.args.unread.now (rw (c.in-Ok-Partial.field-0-is, e) at c.in-Ok-Partial.ensures.partial) (rw e at c.if-seen-eq-LONGEST_HEAD.true)

pub returns-else-seen-eq-LONGEST_HEAD : goal.returns-else-seen-eq-LONGEST_HEAD
returns-else-seen-eq-LONGEST_HEAD c =
    let e = c.head_bytes-seen.ensures in
    let none = rw (c.in-Ok-Partial.field-0-is, e) at c.in-Ok-Partial.ensures.partial in
    let may = rw (c.in-Ok-Partial.field-0-is, e) at c.in-Ok-Partial.ensures.unfinished in
    trailer_not_yet c.args.unread.now none may (rw e at c.if-seen-eq-LONGEST_HEAD.false)

pub returns-in-Err : goal.returns-in-Err
returns-in-Err c =
    let e = c.head_bytes-seen.ensures in
    let few : length (take 16384 c.args.unread.now) ≤ 16384 = omega (arith, length-take 16384 c.args.unread.now) in
    trailer_never c.args.unread.now
    (rw e at (c.in-Err.ensures.invalid (λ same. section_not_exceeded (take 16384 c.args.unread.now) few (rw (c.requires, e) at (c.in-Err.ensures.too_many (ap Err same))))))
