use Rattle.std.proofs.Common.{◌≡◌, Some, rules}
use Rattle.oci_types.specs.Text.{Text}
use Rattle.std.specs.FinMap.{FinMap, insert}
use Rattle.registry_model.specs.World.{text_cmp}
use Rattle.registry_model.specs.Manifests.{with_tag}
use Rattle.registry_maps.specs.Maps.{repo_of, names_in}
use Rattle.registry_model.proofs.TextOrder.{text_total, exact_texts}
use Rattle.registry_maps.proofs.SeenMaps.{makes_put}
use Rattle.registry_maps.proofs.repository.Repository.set_tag.Goals as goal

pub returns : goal.returns
returns c =
    let r = c.args.self.now in
    let key : c.in_ok-key.key ≡ c.args.tag.now = search rules in
    let copy : c.in_ok-digest.digest ≡ c.args.digest.now = search rules in
    makes_put text_total exact_texts (λ (t : Text). t) c.in_ok-key.key c.in_ok-digest.digest r.tags c.put.new.map c.put.result (λ (x : FinMap text_cmp Text). record (repo_of r) { tags = x })
    (with_tag (repo_of r) (Some c.args.tag.now) c.args.digest.now) c.put.ensures (λ i. record (repo_of r) { tags = insert (names_in r.tags.entries) (key i) (copy i) })
