use Rattle.std.proofs.Common.{ℕ, ◌∙◌, ◌+◌, ◌-◌, ◌^◌, min, sym, ap, length}
use Rattle.std.specs.Prelude.{sum_by, Vec}
use Rattle.std.specs.declared.alloc.Global.{Global}
use Rattle.registry_model.specs.Usage.{in_64_bits}
use Rattle.registry_maps.proofs.SeenRepositories.{total_more, total_fits}
use Rattle.std.proofs.lemmas.List.Sums.{sum_by-cons}
use Rattle.registry_maps.proofs.repository.reads.with_lengths.Goals as goal

pub loop-bytes-preserved : goal.loop-bytes-preserved
loop-bytes-preserved g c =
    let n = length c.in-Some.bytes.now.items in
    let rest = sum_by (λ (v : Vec ℕ Global). length v.items) c.next.new.self in
    let total = c.saturating_add-total.ensures ∙ ap (λ m. min (c.loop-bytes.total + m) (2 ^ 64 - 1)) (c.len.ensures ∙ c.in-Some.bytes.now.ok.0) in (
      c.saturating_add-total.type_inv,
      ap (λ t. in_64_bits (t + rest)) total ∙ total_more c.loop-bytes.total n rest
          ∙ sym (ap (λ left. in_64_bits (c.loop-bytes.total + left)) (ap (sum_by (λ (v : Vec ℕ Global). length v.items)) c.in-Some.ensures.steps ∙ sum_by-cons (λ (v : Vec ℕ Global). length v.items) c.in-Some.bytes.now c.next.new.self)) ∙ c.loop-bytes.invariant.1,
    )

pub returns-clause-total : goal.returns-clause-total
returns-clause-total g c =
    sym (total_fits c.loop-bytes.total c.loop-bytes.invariant.0)
    ∙ sym (ap (λ left. in_64_bits (c.loop-bytes.total + sum_by (λ (v : Vec ℕ Global). length v.items) left)) c.in-None.ensures.steps.0) ∙ c.loop-bytes.invariant.1
