-- What begins behind all others comes last in their order.
use Rattle.std.proofs.Common.{◌≡◌, ◌<◌, ◌==◌, ℕ, List, [], ◌∷◌, ◌++◌, cond, ap}
use Rattle.std.specs.Cmp.{IsTotalOrder}
use Rattle.std.specs.Ordering.{nat_cmp}
use Rattle.std.specs.declared.cmp.Ordering.TheVariants.{Less, Equal, Greater}
use Rattle.std.proofs.lemmas.Bool.{lt-ltb}
use Rattle.std.proofs.lemmas.Cmp.{nat_cmp_total, on_total}
use Rattle.sqlite.specs.Order.{Row}
use Rattle.sqlite_keyed.specs.Lists.{sort_by}
use Rattle.sqlite_trees.proofs.ListLemmas.{all_weaker}
use Rattle.store_schema.specs.Rows.{natural_at}
use Rattle.store_contents.proofs.Sorting as sorting
use Rattle.store_contents.specs.Places.{by_start}
use Rattle.store_places.specs.Places.{AreBefore}

pub starts_total : IsTotalOrder by_start
starts_total = on_total (λ (r : Row). natural_at r 2) nat_cmp_total

less : (a b : ℕ) → a < b → nat_cmp a b ≡ Less
less a b low = ap (λ c. cond c Less (cond (a == b) Equal Greater)) (lt-ltb a b low)

pub sorted_last : (r : Row) (before after : List Row) → AreBefore (natural_at r 2) (before ++ after) → sort_by by_start (before ++ r ∷ after) ≡ sort_by by_start (before ++ after) ++ r ∷ []
sorted_last r before after all =
    sorting.sorted_last by_start starts_total r before after (all_weaker (λ x. natural_at x 2 < natural_at r 2) (λ x. by_start x r ≡ Less) (λ x low. less (natural_at x 2) (natural_at r 2) low) (before ++ after) all)
