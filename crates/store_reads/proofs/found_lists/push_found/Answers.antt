use Rattle.std.proofs.Common.{◌≡◌, ◌++◌, ◌∷◌, []}
use Rattle.std.proofs.lemmas.Result.{on_ok_weaker}
use Rattle.store_reads.proofs.Passing.{of_found, not_failed, failed_so}
use Rattle.store_reads.proofs.found_lists.push_found.Goals as goal

pub returns-in-Ok : goal.returns-in-Ok
returns-in-Ok g c = record {
  pushed = on_ok_weaker c.push.result (of_found (λ value. c.push.new.values.items ≡ c.args.values.now.items ++ value ∷ []) c.args.found c.in-Ok.value c.in-Ok.is) c.push.ensures;
  storage = λ off. not_failed c.args.found c.in-Ok.value c.in-Ok.is;
}

pub returns-in-Err : goal.returns-in-Err
returns-in-Err g c = record {
  pushed = tt;
  storage = failed_so c.args.found c.in-Err.fault c.in-Err.is;
}
