use Rattle.std.proofs.Common.{◌≡◌, ◌∙◌, sym, ap, rules, cond, not}
use Rattle.oci_types.specs.Text.{Text}
use Rattle.std.specs.FinMap.{insert}
use Rattle.registry_maps.specs.Maps.{repo_of, names_in}
use Rattle.registry_model.proofs.TextOrder.{text_total, exact_texts}
use Rattle.registry_maps.proofs.SeenMaps.{has_seen, seen_put}
use Rattle.registry_maps.proofs.repository.Repository.add_manifest.Goals as goal

pub returns-then-contains_key : goal.returns-then-contains_key
returns-then-contains_key c =
    let r = c.args.self.now in
    let there = has_seen text_total exact_texts (λ (t : Text). t) r.manifests c.args.digest.now ∙ sym c.contains_key.ensures ∙ c.if-contains_key.true in
    record {
      made = sym (ap (λ t. cond t (repo_of r) (record (repo_of r) { manifests = insert (names_in r.manifests.entries) c.args.digest.now c.args.bytes.now })) there);
      added = sym (ap not there);
    }

pub returns : goal.returns
returns c =
    let r = c.args.self.now in
    let absent = has_seen text_total exact_texts (λ (t : Text). t) r.manifests c.args.digest.now ∙ sym c.contains_key.ensures ∙ c.if-contains_key.false in
    let key : c.in_ok-key.key ≡ c.args.digest.now = search rules in
    let kept : c.in_ok-kept.kept ≡ c.args.bytes.now = search rules in
    record {
      made = ap (λ x. record (repo_of r) { manifests = x })
          (seen_put text_total exact_texts (λ (t : Text). t) c.in_ok-key.key r.manifests c.put.new.map c.in_ok-kept.kept c.in_ok-put.ensures ∙ (λ i. insert (names_in r.manifests.entries) (key i) (kept i)))
          ∙ sym (ap (λ t. cond t (repo_of r) (record (repo_of r) { manifests = insert (names_in r.manifests.entries) c.args.digest.now c.args.bytes.now })) absent);
      added = sym (ap not absent);
    }
