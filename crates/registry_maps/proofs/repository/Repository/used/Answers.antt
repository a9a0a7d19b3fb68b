use Rattle.std.proofs.Common.{ℕ, ◌+◌, ◌∙◌, sym, ap, length}
use Rattle.std.specs.Prelude.{sum_by, Vec}
use Rattle.std.specs.BTreeMap.{values}
use Rattle.std.specs.declared.alloc.Global.{Global}
use Rattle.oci_types.specs.Text.{Text}
use Rattle.registry_model.specs.Usage.{in_64_bits}
use Rattle.registry_model.proofs.TextOrder.{text_total, exact_texts}
use Rattle.registry_maps.proofs.SeenMaps.{number_total, exact_numbers, values_seen}
use Rattle.registry_maps.proofs.SeenRepositories.{sums_seen, total_of}
use Rattle.registry_maps.proofs.repository.Repository.used.Goals as goal

pub returns : goal.returns
returns c =
    let r = c.args.self.now in
    let b = sum_by (λ (v : Vec ℕ Global). length v.items) (values r.blobs) in
    let m = sum_by (length {A = ℕ}) (values r.manifests) in
    let s = sum_by (λ (v : Vec ℕ Global). length v.items) (values r.sessions) in
    let blobs = sums_seen (λ (v : Vec ℕ Global). v.items) (values r.blobs) ∙ sym (ap (sum_by (length {A = ℕ})) (values_seen text_total exact_texts (λ (v : Vec ℕ Global). v.items) r.blobs c.with_lengths-blobs.ensures.ordered)) in
    let manifests = sums_seen (λ (t : Text). t) (values r.manifests) ∙ sym (ap (sum_by (length {A = ℕ})) (values_seen text_total exact_texts (λ (t : Text). t) r.manifests c.with_manifests-manifests.ensures.ordered)) in
    let sessions = sums_seen (λ (v : Vec ℕ Global). v.items) (values r.sessions) ∙ sym (ap (sum_by (length {A = ℕ})) (values_seen number_total exact_numbers (λ (v : Vec ℕ Global). v.items) r.sessions c.with_lengths.ensures.ordered)) in
    c.with_lengths.ensures.total ∙ ap (λ n. in_64_bits (n + s)) (c.with_manifests-manifests.ensures.total ∙ ap (λ n. in_64_bits (n + m)) c.with_lengths-blobs.ensures.total)
    ∙ total_of b m s ∙ (λ i. in_64_bits (blobs i + manifests i + sessions i))
