use Rattle.std.proofs.Common.{◌∙◌, List, [], Option, None, Some, ap, length}
use Rattle.std.specs.Prelude.{codes}
use Rattle.std.specs.Prelude.{filter}
use Rattle.std.specs.List.{filter_map}
use Rattle.oci_types.specs.Text.{Text}
use Rattle.oci_types.specs.Referrers.{referrers_line}
use Rattle.registry_model.specs.World.{new_repo}
use Rattle.registry_model.specs.Answer.{sent, unsent}
use Rattle.registry_model.specs.Decision.{tells}
use Rattle.registry_model.specs.Referrers.{has_subject, referrer_in, is_wanted, referrers_reply}
use Rattle.registry_model.specs.Operation as op
use Rattle.registry_model.specs.Worked.{abc_digest}
use Rattle.registry_model.proofs.TextOrder.{text_total}
use Rattle.registry_model.proofs.WorkedRequests.{in_app, entries_of}
use Rattle.registry_model.proofs.worked.referrers_are_listed.Goals as goal

-- the body that is made of manifests
abbrev body_of : Option Text → List (Text × Text) → Text
body_of wanted es = referrers_line (filter (is_wanted wanted) (filter_map referrer_in (filter (has_subject abc_digest) es)))

pub returns : goal.returns
returns c = record {
  none = λ w s. ap (λ o. o.reply) (
      in_app w (new_repo 1000) s (op.lists_referrers abc_digest None) []
      ∙ ap (λ es. tells (referrers_reply None (sent (body_of None es)))) (entries_of {X = Text} text_total []));
  filtered = λ w s. ap (λ o. o.reply) (
      in_app w (new_repo 1000) s (op.lists_referrers abc_digest (Some (codes "application/x.sbom"))) []
      ∙ ap (λ es. tells (referrers_reply (Some (codes "application/x.sbom")) (sent (body_of (Some (codes "application/x.sbom")) es)))) (entries_of {X = Text} text_total []));
  sized = λ w s. ap (λ o. o.reply) (
      in_app w (new_repo 1000) s (op.sizes_referrers abc_digest None) []
      ∙ ap (λ es. tells (referrers_reply None (unsent (length (body_of None es))))) (entries_of {X = Text} text_total []));
  no_digest = λ w r s. ap (λ o. o.reply) (in_app w r s (op.lists_referrers (codes "sha256:12") None) []);
}
