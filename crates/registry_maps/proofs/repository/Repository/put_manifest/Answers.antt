use Rattle.std.proofs.Common.{◌∙◌, sym, ap}
use Rattle.oci_types.specs.Text.{Text}
use Rattle.registry_maps.specs.Maps.{repo_of}
use Rattle.registry_model.proofs.TextOrder.{text_total, exact_texts}
use Rattle.registry_maps.proofs.SeenMaps.{seen_removed}
use Rattle.registry_maps.proofs.SeenRepositories.{undone}
use Rattle.registry_maps.proofs.repository.Repository.put_manifest.Goals as goal

pub returns-then-is_err : goal.returns-then-is_err
returns-then-is_err c =
    let old = repo_of c.args.self.now in
    let mid = c.set_tag-tagged.new.self in
    let taken = seen_removed text_total exact_texts (λ (t : Text). t) c.args.digest.now mid.manifests c.remove.new.self c.remove.ensures.updates in
    let failed = sym c.is_err.ensures.value ∙ c.if-is_err.true in
    let absent = sym c.in_ok-is_new.ensures.added ∙ c.if-is_new.true in
    undone old (repo_of c.add_manifest.new.self) (repo_of mid) c.set_tag-tagged.result c.args.digest.now c.args.bytes.now c.in-Some.tag.now failed absent
    c.in_ok-is_new.ensures.made c.set_tag-tagged.ensures (repo_of (record mid { manifests = c.remove.new.self })) (ap (λ x. record (repo_of mid) { manifests = x }) taken) _
