use Rattle.registry_store.proofs.store.Store+FileStore+D.adopt_or_close.Goals as goal

pub adopt-requires : goal.adopt-requires
adopt-requires g c = record { ours = λ _. c.requires.ours }

pub returns-in-Err : goal.returns-in-Err
returns-in-Err g c = record {
  made = tt;
  found = tt;
  unspent = tt;
  survives = tt;
  another = c.in-Err.ensures.another;
}
