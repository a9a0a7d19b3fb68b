use Rattle.std.proofs.Common.{ℕ, ◌∙◌, ◌+◌, ◌-◌, ◌^◌, min, sym, ap, length}
use Rattle.std.specs.Prelude.{sum_by}
use Rattle.registry_model.specs.Usage.{in_64_bits}
use Rattle.registry_maps.proofs.SeenRepositories.{total_more, total_fits}
use Rattle.std.proofs.lemmas.List.Sums.{sum_by-cons}
use Rattle.registry_maps.proofs.repository.reads.with_manifests.Goals as goal

pub loop-manifest-preserved : goal.loop-manifest-preserved
loop-manifest-preserved c =
    let n = length c.in-Some.manifest.now in
    let rest = sum_by (length {A = ℕ}) c.next.new.self in
    let total = c.saturating_add-total.ensures ∙ ap (λ m. min (c.loop-manifest.total + m) (2 ^ 64 - 1)) c.len.ensures in (
      c.saturating_add-total.type_inv,
      ap (λ t. in_64_bits (t + rest)) total ∙ total_more c.loop-manifest.total n rest
          ∙ sym (ap (λ left. in_64_bits (c.loop-manifest.total + left)) (ap (sum_by (length {A = ℕ})) c.in-Some.ensures.steps ∙ sum_by-cons (length {A = ℕ}) c.in-Some.manifest.now c.next.new.self)) ∙ c.loop-manifest.invariant.1,
    )

pub returns-clause-total : goal.returns-clause-total
returns-clause-total c =
    sym (total_fits c.loop-manifest.total c.loop-manifest.invariant.0)
    ∙ sym (ap (λ left. in_64_bits (c.loop-manifest.total + sum_by (length {A = ℕ}) left)) c.in-None.ensures.steps.0) ∙ c.loop-manifest.invariant.1
