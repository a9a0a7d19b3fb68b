use Rattle.std.proofs.Common.{refl}
use Rattle.registry_tasks.proofs.stdio.serve_set_up.Goals as goal

pub returns-in-Ok : goal.returns-in-Ok
returns-in-Ok g c = record {
  begun = c.set_up.result;
  middle = c.set_up.new.service;
  last = c.serve_stdio.new.service;
  says = λ honest.
      let begins = rw c.new-service.ensures at (c.set_up.ensures.begins (c.serve_stdio.ensures.honest honest)) in
      (begins, rw c.in-Ok.is (c.serve_stdio.ensures.serves honest));
}

pub returns : goal.returns
returns g c = record {
  begun = c.set_up.result;
  middle = c.set_up.new.service;
  last = c.set_up.new.service;
  says = λ honest.
      let begins = rw c.new-service.ensures at (c.set_up.ensures.begins honest) in
      (begins, rw c.in-Err.is (refl, record { left = refl; held = refl }));
}
