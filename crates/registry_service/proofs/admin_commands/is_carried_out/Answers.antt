use Rattle.registry_service.proofs.admin_commands.is_carried_out.Goals as goal

pub returns-in-SetQuota : goal.returns-in-SetQuota
returns-in-SetQuota g c = record {
  found = λ honest. rw c.in-SetQuota.is (c.has_repo-in-SetQuota.ensures.found honest);
  spends = c.has_repo-in-SetQuota.ensures.spends;
  honest = c.has_repo-in-SetQuota.ensures.honest;
}

pub returns-in-DropRepo : goal.returns-in-DropRepo
returns-in-DropRepo g c = record {
  found = λ honest. rw c.in-DropRepo.is (c.has_repo-in-DropRepo.ensures.found honest);
  spends = c.has_repo-in-DropRepo.ensures.spends;
  honest = c.has_repo-in-DropRepo.ensures.honest;
}

pub returns-in-Grant : goal.returns-in-Grant
returns-in-Grant g c = record {
  found = λ honest. rw c.in-Grant.is (c.has_repo-in-Grant.ensures.found honest);
  spends = c.has_repo-in-Grant.ensures.spends;
  honest = c.has_repo-in-Grant.ensures.honest;
}

pub returns-in-RevokeAll : goal.returns-in-RevokeAll
returns-in-RevokeAll g c = record {
  found = λ honest. rw c.in-RevokeAll.is (c.known.ensures.found honest);
  spends = c.known.ensures.spends;
  honest = c.known.ensures.honest;
}

pub returns-in-DropSessions : goal.returns-in-DropSessions
returns-in-DropSessions g c = record {
  found = λ honest. rw c.in-DropSessions.is (c.has_repo-in-DropSessions.ensures.found honest);
  spends = c.has_repo-in-DropSessions.ensures.spends;
  honest = c.has_repo-in-DropSessions.ensures.honest;
}

pub returns-in-Prune : goal.returns-in-Prune
returns-in-Prune g c = record {
  found = λ honest. rw c.in-Prune.is (c.has_repo-in-Prune.ensures.found honest);
  spends = c.has_repo-in-Prune.ensures.spends;
  honest = c.has_repo-in-Prune.ensures.honest;
}
