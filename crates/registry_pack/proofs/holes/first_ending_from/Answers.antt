use Rattle.std.proofs.Common.{◌+◌, ltb, ltb-true, ltb-false, rules}
use Rattle.std.proofs.lemmas.List.Sorted.{IsPartitionPoint-from_clause, IsPartitionedBy-ltb}
use Rattle.registry_pack.proofs.PointLemmas.{ends_rise, all_before, all_behind}
use Rattle.registry_pack.proofs.holes.first_ending_from.Goals as goal

pub returns : goal.returns
returns c =
    let within = c.partition_point.ensures.bound in
    let parted = IsPartitionedBy-ltb (λ e. e.at + e.size) _ c.args.at (ends_rise 0 _ c.requires) in
    let point = IsPartitionPoint-from_clause (λ e. ltb (e.at + e.size) c.args.at) _ _ c.partition_point.ensures.partitioned parted (λ a r q k. search rules) in
    record {
      within = within;
      before = all_before _ _ _ within (λ k d h l. ltb-true _ _ (point.0 k d h l));
      rest = all_behind _ _ _ within (λ k d h l. ltb-false _ _ (point.1 k d h l));
    }
