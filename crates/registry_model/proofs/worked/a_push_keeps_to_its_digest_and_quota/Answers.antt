use Rattle.std.proofs.Common.{◌∙◌, refl, ap}
use Rattle.registry_model.specs.World.{new_repo}
use Rattle.registry_model.specs.Operation as op
use Rattle.registry_model.specs.Worked.{app, abc_digest, hello_digest, md5_digest, holding_abc}
use Rattle.registry_model.proofs.WorkedRequests.{abc, in_app, matched, unmatched, takes_abc, refuses_abc, keeps_abc}
use Rattle.registry_model.proofs.worked.a_push_keeps_to_its_digest_and_quota.Goals as goal

pub returns : goal.returns
returns c = record {
  exact = λ w s ok. ap (λ o. o.reply) (in_app w (new_repo 3) s (op.pushes_blob abc_digest) abc ∙ matched (new_repo 3) app abc_digest abc ok ∙ takes_abc 3 refl);
  over = λ w s ok. ap (λ o. o.reply) (in_app w (new_repo 2) s (op.pushes_blob abc_digest) abc ∙ matched (new_repo 2) app abc_digest abc ok ∙ refuses_abc 2 refl);
  again = λ w s ok. ap (λ o. o.reply) (in_app w (holding_abc 2) s (op.pushes_blob abc_digest) abc ∙ matched (holding_abc 2) app abc_digest abc ok ∙ keeps_abc 2 refl);
  other = λ w r s differs. ap (λ o. o.reply) (in_app w r s (op.pushes_blob hello_digest) abc ∙ unmatched r app hello_digest abc differs);
  unverified = λ w r s. ap (λ o. o.reply) (in_app w r s (op.pushes_blob md5_digest) abc);
}
