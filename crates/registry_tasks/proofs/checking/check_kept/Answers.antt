use Rattle.registry_tasks.proofs.checking.check_kept.Goals as goal

pub tell_wrongs-requires : goal.tell_wrongs-requires
tell_wrongs-requires g c = record { none = c.new-found.ensures.items }

pub returns : goal.returns
returns g c = record {
  checks = c.tell_wrongs.ensures.checks;
  honest = c.tell_wrongs.ensures.honest;
  fails = c.tell_wrongs.ensures.fails;
}
