use Rattle.std.proofs.Common.{◌∙◌, [], Some, None, refl, ap}
use Rattle.std.specs.Prelude.{codes}
use Rattle.std.specs.Fmt.{digits}
use Rattle.registry_model.specs.declared.reply.Status.TheVariants.{Accepted}
use Rattle.registry_model.specs.Sessions.{show_session, session_reply}
use Rattle.registry_model.specs.Operation as op
use Rattle.registry_model.specs.Worked.{app, in_session}
use Rattle.registry_model.proofs.WorkedRequests.{in_app, numbered, held, at_session, keeps_chunk}
use Rattle.registry_model.proofs.worked.chunks_follow_one_another.Goals as goal

pub returns : goal.returns
unfolding digits
returns c = record {
  first = λ w s. ap (λ o. o.reply) (
      in_app w (in_session []) s (op.appends_chunk (codes "1") (Some (codes "0-2"))) (codes "hel")
      ∙ at_session [] (Some (codes "0-2")) (codes "hel") ∙ keeps_chunk [] (codes "hel") (session_reply Accepted app 1 3) refl);
  spelled = λ w s. ap (λ o. o.reply) (
      in_app w (in_session []) s (op.appends_chunk (codes "1") (Some (codes "bytes 0-2/*"))) (codes "hel")
      ∙ at_session [] (Some (codes "bytes 0-2/*")) (codes "hel") ∙ keeps_chunk [] (codes "hel") (session_reply Accepted app 1 3) refl);
  repeated = λ w s. ap (λ o. o.reply) (
      in_app w (in_session (codes "hel")) s (op.appends_chunk (codes "1") (Some (codes "0-2"))) (codes "hel") ∙ at_session (codes "hel") (Some (codes "0-2")) (codes "hel"));
  status = λ w s. ap (λ o. o.reply) (
      in_app w (in_session (codes "hel")) s (op.reads_session (codes "1")) [] ∙ ap (λ o. show_session app (numbered 1 o)) (held (codes "hel")));
  next = λ w s. ap (λ o. o.reply) (
      in_app w (in_session (codes "hel")) s (op.appends_chunk (codes "1") (Some (codes "3-4"))) (codes "lo")
      ∙ at_session (codes "hel") (Some (codes "3-4")) (codes "lo") ∙ keeps_chunk (codes "hel") (codes "hello") (session_reply Accepted app 1 5) refl);
  rangeless = λ w s. ap (λ o. o.reply) (
      in_app w (in_session (codes "hel")) s (op.appends_chunk (codes "1") None) (codes "lo")
      ∙ at_session (codes "hel") None (codes "lo") ∙ keeps_chunk (codes "hel") (codes "hello") (session_reply Accepted app 1 5) refl);
  no_end = λ w s. ap (λ o. o.reply) (
      in_app w (in_session []) s (op.appends_chunk (codes "1") (Some (codes "0-"))) (codes "hel") ∙ at_session [] (Some (codes "0-")) (codes "hel"));
  backwards = λ w s. ap (λ o. o.reply) (
      in_app w (in_session []) s (op.appends_chunk (codes "1") (Some (codes "2-1"))) (codes "hel") ∙ at_session [] (Some (codes "2-1")) (codes "hel"));
  longer = λ w s. ap (λ o. o.reply) (
      in_app w (in_session []) s (op.appends_chunk (codes "1") (Some (codes "0-3"))) (codes "hel") ∙ at_session [] (Some (codes "0-3")) (codes "hel"));
}
