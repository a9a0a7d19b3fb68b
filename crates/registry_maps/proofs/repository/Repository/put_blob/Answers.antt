use Rattle.std.proofs.Common.{◌≡◌, ℕ, ◌∙◌, sym, ap, rules, cond}
use Rattle.std.specs.Prelude.{Vec}
use Rattle.std.specs.declared.alloc.Global.{Global}
use Rattle.std.specs.FinMap.{FinMap, insert}
use Rattle.oci_types.specs.Text.{Text}
use Rattle.registry_model.specs.World.{text_cmp}
use Rattle.registry_model.specs.Blobs.{with_blob}
use Rattle.registry_maps.specs.Maps.{repo_of, texts_in}
use Rattle.registry_model.proofs.TextOrder.{text_total, exact_texts}
use Rattle.registry_maps.proofs.SeenMaps.{has_seen, makes_put}
use Rattle.registry_maps.proofs.repository.Repository.put_blob.Goals as goal

pub returns-then-contains_key : goal.returns-then-contains_key
returns-then-contains_key c =
    let r = c.args.self.now in
    let there = has_seen text_total exact_texts (λ (v : Vec ℕ Global). v.items) r.blobs c.args.digest.now ∙ sym c.contains_key.ensures ∙ c.if-contains_key.true in
    sym (ap (λ t. cond t (repo_of r) (record (repo_of r) { blobs = insert (texts_in r.blobs.entries) c.args.digest.now c.args.bytes.now })) there)

pub returns : goal.returns
returns c =
    let r = c.args.self.now in
    let absent = has_seen text_total exact_texts (λ (v : Vec ℕ Global). v.items) r.blobs c.args.digest.now ∙ sym c.contains_key.ensures ∙ c.if-contains_key.false in
    let key : c.in_ok-key.key ≡ c.args.digest.now = search rules in
    let copy : c.in_ok-copy.copy.items ≡ c.args.bytes.now = search rules in
    makes_put text_total exact_texts (λ (v : Vec ℕ Global). v.items) c.in_ok-key.key c.in_ok-copy.copy r.blobs c.put.new.map c.put.result (λ (x : FinMap text_cmp Text). record (repo_of r) { blobs = x })
    (with_blob (repo_of r) c.args.digest.now c.args.bytes.now) c.put.ensures
    ((λ i. record (repo_of r) { blobs = insert (texts_in r.blobs.entries) (key i) (copy i) })
    ∙ sym (ap (λ t. cond t (repo_of r) (record (repo_of r) { blobs = insert (texts_in r.blobs.entries) c.args.digest.now c.args.bytes.now })) absent))
