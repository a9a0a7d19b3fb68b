use Rattle.std.proofs.Common.{◌≤◌, length, rules}
use Rattle.registry_tasks.proofs.SendingLemmas.{all_read}
use Rattle.registry_tasks.proofs.messenger.read_all.Goals as goal

pub returns-in-Ok : goal.returns-in-Ok
returns-in-Ok g c =
    let read = rw (c.take.ensures.limit, c.take.ensures.inner, c.new-bytes.ensures.items) at c.in-Ok.ensures.bytes in
    let short : length c.read_to_end.new.buf.items ≤ 67108864 = search rules in
    record { given = all_read (g.R.Read.remaining c.args.reader) 67108864 c.read_to_end.new.buf.items read short; refused = tt }
