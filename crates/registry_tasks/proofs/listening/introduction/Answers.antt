use Rattle.std.proofs.Common.{refl}
use Rattle.registry_tasks.proofs.listening.introduction.Goals as goal

pub returns-in-Err-Memory : goal.returns-in-Err-Memory
returns-in-Err-Memory g c = record {
  honest = c.count_repos.ensures.honest;
  stays = rw c.in-Err-Memory.field-0-is at c.in-Err-Memory.ensures.found;
  spent = tt;
  fails = tt;
}

pub returns-in-Err-Storage : goal.returns-in-Err-Storage
returns-in-Err-Storage g c = record {
  honest = c.count_repos.ensures.honest;
  stays = tt;
  spent = rw c.in-Err-Storage.field-0-is at c.in-Err-Storage.ensures.spends;
  fails = refl;
}
