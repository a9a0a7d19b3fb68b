use Rattle.std.proofs.Common.{◌∙◌, cond, [], Some, None, refl, ap}
use Rattle.std.specs.Prelude.{codes, is_some}
use Rattle.std.specs.Option.{option_and_then}
use Rattle.std.specs.Ordering.{nat_cmp}
use Rattle.oci_types.specs.Text.{Text}
use Rattle.std.specs.Fmt.{digits}
use Rattle.std.specs.FinMap.{get, len-empty}
use Rattle.registry_model.specs.World.{Repo, repo_at, new_repo}
use Rattle.registry_model.specs.Mount.{mounted}
use Rattle.registry_model.specs.Operation as op
use Rattle.registry_model.specs.Worked.{app, abc_digest}
use Rattle.registry_model.proofs.WorkedRequests.{in_app, takes_abc, found_abc, opens, new_open}
use Rattle.registry_model.proofs.worked.a_mount_wants_a_level_on_its_source.Goals as goal

pub returns : goal.returns
unfolding digits
returns c = record {
  mounted = λ w s e k. ap (λ o. o.reply) (
      in_app w (new_repo 1000) s (op.mounts_blob abc_digest (Some (codes "team/lib"))) []
      ∙ (λ i. mounted (new_repo 1000) app abc_digest (cond (is_some (e i)) (option_and_then (λ (r : Repo). get r.blobs abc_digest) (k i)) None))
      ∙ ap (mounted (new_repo 1000) app abc_digest) (found_abc 1000)
      ∙ takes_abc 1000 refl);
  hidden = λ w s e. ap (λ o. o.reply) (
      in_app w (new_repo 1000) s (op.mounts_blob abc_digest (Some (codes "other"))) []
      ∙ (λ i. mounted (new_repo 1000) app abc_digest (cond (is_some (e i)) (option_and_then (λ (r : Repo). get r.blobs abc_digest) (repo_at w (codes "other"))) None))
      ∙ opens (new_repo 1000) app (new_open (new_repo 1000) (len-empty nat_cmp Text) refl));
  no_digest = λ w r s. ap (λ o. o.reply) (in_app w r s (op.mounts_blob (codes "sha256:12") (Some (codes "team/lib"))) []);
}
