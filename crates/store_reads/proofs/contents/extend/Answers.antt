use Rattle.std.proofs.Common.{◌≡◌, ◌∙◌, ◌++◌, ap}
use Rattle.store_reads.proofs.Passing.{of_found, not_failed, failed_so}
use Rattle.store_reads.proofs.contents.extend.Goals as goal

pub returns-in-Ok-extend_from_slice : goal.returns-in-Ok-extend_from_slice
returns-in-Ok-extend_from_slice c = record {
  extended = of_found (λ more. c.extend_from_slice.new.self.items ≡ c.args.bytes.now.items ++ more.items) c.args.found c.in-Ok.more c.in-Ok.is
      (c.in-Ok-extend_from_slice.ensures.items ∙ ap (λ t. c.args.bytes.now.items ++ t) c.deref.ensures.value);
  storage = λ off. not_failed c.args.found c.in-Ok.more c.in-Ok.is;
}

pub returns : goal.returns
returns c = record {
  extended = tt;
  storage = failed_so c.args.found c.in-Err.fault c.in-Err.is;
}

pub returns-in-Ok : goal.returns-in-Ok
returns-in-Ok c = record {
  extended = tt;
  storage = λ off. not_failed c.args.found c.in-Ok.more c.in-Ok.is;
}
