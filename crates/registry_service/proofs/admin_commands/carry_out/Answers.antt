use Rattle.registry_service.proofs.admin_commands.carry_out.Goals as goal

pub returns-in-AddRepo : goal.returns-in-AddRepo
returns-in-AddRepo g c = record {
  made = λ honest. rw c.in-AddRepo.is (c.set_repo.ensures.made honest);
  spends = c.set_repo.ensures.spends;
  honest = c.set_repo.ensures.honest;
}

pub returns-in-SetQuota : goal.returns-in-SetQuota
returns-in-SetQuota g c = record {
  made = λ honest. rw c.in-SetQuota.is (c.set_repo-in-SetQuota.ensures.made honest);
  spends = c.set_repo-in-SetQuota.ensures.spends;
  honest = c.set_repo-in-SetQuota.ensures.honest;
}

pub returns-in-DropRepo : goal.returns-in-DropRepo
returns-in-DropRepo g c = record {
  made = λ honest. rw c.in-DropRepo.is (c.drop_repo.ensures.made honest);
  spends = c.drop_repo.ensures.spends;
  honest = c.drop_repo.ensures.honest;
}

pub returns-in-Grant : goal.returns-in-Grant
returns-in-Grant g c = record {
  made = λ honest. rw c.in-Grant.is (c.grant.ensures.made honest);
  spends = c.grant.ensures.spends;
  honest = c.grant.ensures.honest;
}

pub returns-in-Revoke : goal.returns-in-Revoke
returns-in-Revoke g c = record {
  made = λ honest. rw c.in-Revoke.is (c.revoke.ensures.made honest);
  spends = c.revoke.ensures.spends;
  honest = c.revoke.ensures.honest;
}

pub returns-in-RevokeAll : goal.returns-in-RevokeAll
returns-in-RevokeAll g c = record {
  made = λ honest. rw c.in-RevokeAll.is (c.revoke_all.ensures.made honest);
  spends = c.revoke_all.ensures.spends;
  honest = c.revoke_all.ensures.honest;
}

pub returns-in-DropSessions : goal.returns-in-DropSessions
returns-in-DropSessions g c = record {
  made = λ honest. rw c.in-DropSessions.is (c.drop_sessions.ensures.made honest);
  spends = c.drop_sessions.ensures.spends;
  honest = c.drop_sessions.ensures.honest;
}

pub returns-in-Prune : goal.returns-in-Prune
returns-in-Prune g c = record {
  made = λ honest. rw c.in-Prune.is (c.prune.ensures.made honest);
  spends = c.prune.ensures.spends;
  honest = c.prune.ensures.honest;
}

pub returns-in-Clear : goal.returns-in-Clear
returns-in-Clear g c = record {
  made = λ honest. rw c.in-Clear.is (c.clear.ensures.made honest);
  spends = c.clear.ensures.spends;
  honest = c.clear.ensures.honest;
}
