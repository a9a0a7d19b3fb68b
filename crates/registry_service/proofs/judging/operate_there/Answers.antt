use Rattle.std.proofs.Common.{◌∙◌, sym, ap}
use Rattle.std.proofs.lemmas.Bool.{true≢false}
use Rattle.registry_model.specs.Heads.{is_sizing}
use Rattle.registry_model.specs.Answer.{answer_of}
use Rattle.registry_service.specs.Operations.{shown_operation}
use Rattle.registry_service.proofs.BodyLemmas.{any_from}
use Rattle.registry_service.proofs.judging.operate_there.Goals as goal

pub read_blob-requires : goal.read_blob-requires
read_blob-requires g c = record { unspent = c.requires.unspent; there = c.requires.there }

pub returns-in-ReadBlob : goal.returns-in-ReadBlob
returns-in-ReadBlob g c = record {
  comes = λ honest t is. rw c.in-ReadBlob.is (any_from (g.B.RequestBody.stage c.args.body) answer_of c.read_blob.result _ _ _ _ (c.read_blob.ensures.comes honest));
  answers = c.read_blob.ensures.answers;
  carries = λ whole. c.read_blob.ensures.carries;
  spends = c.read_blob.ensures.spends;
  honest = c.read_blob.ensures.honest;
}

pub size_blob-requires : goal.size_blob-requires
size_blob-requires g c = record { unspent = c.requires.unspent; there = c.requires.there }

pub returns-in-SizeBlob : goal.returns-in-SizeBlob
returns-in-SizeBlob g c = record {
  comes = λ honest t is. rw c.in-SizeBlob.is (any_from (g.B.RequestBody.stage c.args.body) answer_of c.size_blob.result _ _ _ _ (c.size_blob.ensures.comes honest));
  answers = c.size_blob.ensures.answers;
  carries = λ whole. absurd (true≢false (sym (ap (λ o. is_sizing (shown_operation o)) c.in-SizeBlob.is) ∙ whole));
  spends = c.size_blob.ensures.spends;
  honest = c.size_blob.ensures.honest;
}

pub delete_blob-requires : goal.delete_blob-requires
delete_blob-requires g c = record { unspent = c.requires.unspent; there = c.requires.there }

pub returns-in-DeleteBlob : goal.returns-in-DeleteBlob
returns-in-DeleteBlob g c = record {
  comes = λ honest t is. rw c.in-DeleteBlob.is (any_from (g.B.RequestBody.stage c.args.body) answer_of c.delete_blob.result _ _ _ _ (c.delete_blob.ensures.comes honest));
  answers = c.delete_blob.ensures.answers;
  carries = λ whole. c.delete_blob.ensures.carries;
  spends = c.delete_blob.ensures.spends;
  honest = c.delete_blob.ensures.honest;
}

pub push_blob-requires : goal.push_blob-requires
push_blob-requires g c = record { unspent = c.requires.unspent; there = c.requires.there }

pub returns-in-PushBlob : goal.returns-in-PushBlob
returns-in-PushBlob g c = record {
  comes = λ honest t is. rw c.in-PushBlob.is (c.push_blob.ensures.comes honest t is);
  answers = c.push_blob.ensures.answers;
  carries = λ whole. c.push_blob.ensures.carries;
  spends = c.push_blob.ensures.spends;
  honest = c.push_blob.ensures.honest;
}

pub open_session-requires : goal.open_session-requires
open_session-requires g c = record { unspent = c.requires.unspent; there = c.requires.there }

pub returns-in-OpenSession : goal.returns-in-OpenSession
returns-in-OpenSession g c = record {
  comes = λ honest t is. rw c.in-OpenSession.is (any_from (g.B.RequestBody.stage c.args.body) answer_of c.open_session.result _ _ _ _ (c.open_session.ensures.comes honest));
  answers = c.open_session.ensures.answers;
  carries = λ whole. c.open_session.ensures.carries;
  spends = c.open_session.ensures.spends;
  honest = c.open_session.ensures.honest;
}

pub mount_blob-requires : goal.mount_blob-requires
mount_blob-requires g c = record { unspent = c.requires.unspent; there = c.requires.there }

pub returns-in-MountBlob : goal.returns-in-MountBlob
returns-in-MountBlob g c = record {
  comes = λ honest t is. rw c.in-MountBlob.is (any_from (g.B.RequestBody.stage c.args.body) answer_of c.mount_blob.result _ _ _ _ (c.mount_blob.ensures.comes honest));
  answers = c.mount_blob.ensures.answers;
  carries = λ whole. c.mount_blob.ensures.carries;
  spends = c.mount_blob.ensures.spends;
  honest = c.mount_blob.ensures.honest;
}

pub read_session-requires : goal.read_session-requires
read_session-requires g c = record { unspent = c.requires.unspent; there = c.requires.there }

pub returns-in-ReadSession : goal.returns-in-ReadSession
returns-in-ReadSession g c = record {
  comes = λ honest t is. rw c.in-ReadSession.is (any_from (g.B.RequestBody.stage c.args.body) answer_of c.read_session.result _ _ _ _ (c.read_session.ensures.comes honest));
  answers = c.read_session.ensures.answers;
  carries = λ whole. c.read_session.ensures.carries;
  spends = c.read_session.ensures.spends;
  honest = c.read_session.ensures.honest;
}

pub append_chunk-requires : goal.append_chunk-requires
append_chunk-requires g c = record { unspent = c.requires.unspent; there = c.requires.there }

pub returns-in-AppendChunk : goal.returns-in-AppendChunk
returns-in-AppendChunk g c = record {
  comes = λ honest t is. rw c.in-AppendChunk.is (c.append_chunk.ensures.comes honest t is);
  answers = c.append_chunk.ensures.answers;
  carries = λ whole. c.append_chunk.ensures.carries;
  spends = c.append_chunk.ensures.spends;
  honest = c.append_chunk.ensures.honest;
}

pub close_session-requires : goal.close_session-requires
close_session-requires g c = record { unspent = c.requires.unspent; there = c.requires.there }

pub returns-in-CloseSession : goal.returns-in-CloseSession
returns-in-CloseSession g c = record {
  comes = λ honest t is. rw c.in-CloseSession.is (c.close_session.ensures.comes honest t is);
  answers = c.close_session.ensures.answers;
  carries = λ whole. c.close_session.ensures.carries;
  spends = c.close_session.ensures.spends;
  honest = c.close_session.ensures.honest;
}

pub read_manifest-requires : goal.read_manifest-requires
read_manifest-requires g c = record { unspent = c.requires.unspent; there = c.requires.there }

pub returns-in-ReadManifest : goal.returns-in-ReadManifest
returns-in-ReadManifest g c = record {
  comes = λ honest t is. rw c.in-ReadManifest.is (any_from (g.B.RequestBody.stage c.args.body) answer_of c.read_manifest.result _ _ _ _ (c.read_manifest.ensures.comes honest));
  answers = c.read_manifest.ensures.answers;
  carries = λ whole. c.read_manifest.ensures.carries;
  spends = c.read_manifest.ensures.spends;
  honest = c.read_manifest.ensures.honest;
}

pub size_manifest-requires : goal.size_manifest-requires
size_manifest-requires g c = record { unspent = c.requires.unspent; there = c.requires.there }

pub returns-in-SizeManifest : goal.returns-in-SizeManifest
returns-in-SizeManifest g c = record {
  comes = λ honest t is. rw c.in-SizeManifest.is (any_from (g.B.RequestBody.stage c.args.body) answer_of c.size_manifest.result _ _ _ _ (c.size_manifest.ensures.comes honest));
  answers = c.size_manifest.ensures.answers;
  carries = λ whole. absurd (true≢false (sym (ap (λ o. is_sizing (shown_operation o)) c.in-SizeManifest.is) ∙ whole));
  spends = c.size_manifest.ensures.spends;
  honest = c.size_manifest.ensures.honest;
}

pub delete_manifest-requires : goal.delete_manifest-requires
delete_manifest-requires g c = record { unspent = c.requires.unspent; there = c.requires.there }

pub returns-in-DeleteManifest : goal.returns-in-DeleteManifest
returns-in-DeleteManifest g c = record {
  comes = λ honest t is. rw c.in-DeleteManifest.is (any_from (g.B.RequestBody.stage c.args.body) answer_of c.delete_manifest.result _ _ _ _ (c.delete_manifest.ensures.comes honest));
  answers = c.delete_manifest.ensures.answers;
  carries = λ whole. c.delete_manifest.ensures.carries;
  spends = c.delete_manifest.ensures.spends;
  honest = c.delete_manifest.ensures.honest;
}

pub push_manifest-requires : goal.push_manifest-requires
push_manifest-requires g c = record { unspent = c.requires.unspent; there = c.requires.there }

pub returns-in-PushManifest : goal.returns-in-PushManifest
returns-in-PushManifest g c = record {
  comes = λ honest t is. rw c.in-PushManifest.is (c.push_manifest.ensures.comes honest t is);
  answers = c.push_manifest.ensures.answers;
  carries = λ whole. c.push_manifest.ensures.carries;
  spends = c.push_manifest.ensures.spends;
  honest = c.push_manifest.ensures.honest;
}

pub list_tags-requires : goal.list_tags-requires
list_tags-requires g c = record { unspent = c.requires.unspent; there = c.requires.there }

pub returns-in-ListTags : goal.returns-in-ListTags
returns-in-ListTags g c = record {
  comes = λ honest t is. rw c.in-ListTags.is (any_from (g.B.RequestBody.stage c.args.body) answer_of c.list_tags.result _ _ _ _ (c.list_tags.ensures.comes honest));
  answers = c.list_tags.ensures.answers;
  carries = λ whole. c.list_tags.ensures.carries;
  spends = c.list_tags.ensures.spends;
  honest = c.list_tags.ensures.honest;
}

pub list_referrers-requires : goal.list_referrers-requires
list_referrers-requires g c = record { unspent = c.requires.unspent; there = c.requires.there }

pub returns-in-ListReferrers : goal.returns-in-ListReferrers
returns-in-ListReferrers g c = record {
  comes = λ honest t is. rw c.in-ListReferrers.is (any_from (g.B.RequestBody.stage c.args.body) answer_of c.list_referrers.result _ _ _ _ (c.list_referrers.ensures.comes honest));
  answers = c.list_referrers.ensures.answers;
  carries = λ whole. c.list_referrers.ensures.carries;
  spends = c.list_referrers.ensures.spends;
  honest = c.list_referrers.ensures.honest;
}

pub size_referrers-requires : goal.size_referrers-requires
size_referrers-requires g c = record { unspent = c.requires.unspent; there = c.requires.there }

pub returns-in-SizeReferrers : goal.returns-in-SizeReferrers
returns-in-SizeReferrers g c = record {
  comes = λ honest t is. rw c.in-SizeReferrers.is (any_from (g.B.RequestBody.stage c.args.body) answer_of c.size_referrers.result _ _ _ _ (c.size_referrers.ensures.comes honest));
  answers = c.size_referrers.ensures.answers;
  carries = λ whole. absurd (true≢false (sym (ap (λ o. is_sizing (shown_operation o)) c.in-SizeReferrers.is) ∙ whole));
  spends = c.size_referrers.ensures.spends;
  honest = c.size_referrers.ensures.honest;
}
