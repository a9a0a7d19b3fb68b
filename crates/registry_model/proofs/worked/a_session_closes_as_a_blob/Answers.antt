use Rattle.std.proofs.Common.{◌∙◌, [], Some, None, ap}
use Rattle.std.specs.Prelude.{codes}
use Rattle.registry_model.specs.Operation as op
use Rattle.registry_model.specs.Judging.{changed}
use Rattle.registry_model.specs.Worked.{app, abc_digest, hello_digest, in_session}
use Rattle.registry_model.proofs.WorkedRequests.{in_app, hello, closes_hello, to_match, to_differ, at_closing}
use Rattle.registry_model.proofs.worked.a_session_closes_as_a_blob.Goals as goal

pub returns : goal.returns
returns c = record {
  closed = λ w s ok. ap (λ o. o.reply) (
      in_app w (in_session hello) s (op.closes_session (codes "1") (Some hello_digest) None) [] ∙ at_closing (Some hello_digest) ∙ to_match hello_digest ok ∙ closes_hello);
  kept = λ w s ok. ap (λ o. changed w (Some app) o.change) (
      in_app w (in_session hello) s (op.closes_session (codes "1") (Some hello_digest) None) [] ∙ at_closing (Some hello_digest) ∙ to_match hello_digest ok ∙ closes_hello);
  other = λ w s differs. ap (λ o. o.reply) (
      in_app w (in_session hello) s (op.closes_session (codes "1") (Some abc_digest) None) [] ∙ at_closing (Some abc_digest) ∙ to_differ abc_digest differs);
  without = λ w s. ap (λ o. o.reply) (in_app w (in_session hello) s (op.closes_session (codes "1") None None) [] ∙ at_closing None);
}
