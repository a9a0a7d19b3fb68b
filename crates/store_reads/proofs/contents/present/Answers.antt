use Rattle.std.proofs.Common.{true≢false}
use Rattle.store_reads.proofs.Passing.{not_failed, failed_so, was_some}
use Rattle.store_reads.proofs.contents.present.Goals as goal

pub returns-in-Ok-Some : goal.returns-in-Ok-Some
returns-in-Ok-Some c = record {
  value = was_some c.args.found _ c.in-Ok-Some.bytes c.in-Ok-Some.is c.in-Ok-Some.field-0-is;
  storage = λ off. not_failed c.args.found _ c.in-Ok-Some.is;
}

pub returns-in-Ok-None : goal.returns-in-Ok-None
returns-in-Ok-None c = record {
  value = tt;
  storage = λ off. absurd (true≢false off);
}

pub returns-in-Err : goal.returns-in-Err
returns-in-Err c = record {
  value = tt;
  storage = failed_so c.args.found c.in-Err.fault c.in-Err.is;
}
