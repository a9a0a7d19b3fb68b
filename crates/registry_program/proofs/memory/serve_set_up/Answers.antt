use Rattle.std.proofs.Common.{refl}
use Rattle.registry_program.proofs.memory.serve_set_up.Goals as goal

pub returns-in-Ok : goal.returns-in-Ok
returns-in-Ok g c =
    let serves = rw c.into_keeper.ensures at c.serve_kept.ensures in
    record {
      begun = c.set_up.result;
      middle = c.set_up.new.service;
      last = serves.last;
      says = λ honest.
          let begins = rw c.new-service.ensures at (c.set_up.ensures.begins (serves.honest honest)) in
          (begins, rw c.in-Ok.is (serves.says honest));
    }

pub returns : goal.returns
returns g c = record {
  begun = c.set_up.result;
  middle = c.set_up.new.service;
  last = c.set_up.new.service;
  says = λ honest.
      let begins = rw c.new-service.ensures at (c.set_up.ensures.begins honest) in
      (begins, rw c.in-Err.is (refl, refl));
}
