use Rattle.std.proofs.Common.{◌∙◌, [], Some, refl, ap, length}
use Rattle.std.specs.Prelude.{option_map}
use Rattle.std.specs.FinMap.{get-empty}
use Rattle.registry_model.specs.World.{text_cmp, new_repo}
use Rattle.registry_model.specs.Judging.{changed}
use Rattle.registry_model.specs.Blobs.{found_blob, found_size}
use Rattle.registry_model.specs.Operation as op
use Rattle.registry_model.specs.Worked.{app, abc_digest, holding_abc}
use Rattle.registry_model.proofs.WorkedRequests.{abc, in_app, matched, takes_abc, found_abc}
use Rattle.registry_model.proofs.worked.a_blob_is_pushed_and_pulled.Goals as goal

pub returns : goal.returns
returns c = record {
  pushed = λ w s ok. ap (λ o. o.reply) (in_app w (new_repo 1000) s (op.pushes_blob abc_digest) abc ∙ matched (new_repo 1000) app abc_digest abc ok ∙ takes_abc 1000 refl);
  kept = λ w s ok. ap (λ o. changed w (Some app) o.change) (in_app w (new_repo 1000) s (op.pushes_blob abc_digest) abc ∙ matched (new_repo 1000) app abc_digest abc ok ∙ takes_abc 1000 refl);
  pulled = λ w s. ap (λ o. o.reply) (in_app w (holding_abc 1000) s (op.reads_blob abc_digest) [] ∙ ap (found_blob abc_digest) (found_abc 1000));
  sized = λ w s. ap (λ o. o.reply) (in_app w (holding_abc 1000) s (op.sizes_blob abc_digest) [] ∙ ap (λ o. found_size abc_digest (option_map length o)) (found_abc 1000));
  absent = λ w s. ap (λ o. o.reply) (in_app w (new_repo 1000) s (op.reads_blob abc_digest) [] ∙ ap (found_blob abc_digest) (get-empty text_cmp abc_digest));
}
