-- What a reader has left, read up to a limit.
use Rattle.std.proofs.Common.{arith, ◌≡◌, ◌∙◌, ℕ, ◌+◌, ◌≤◌, Option, None, Some, length, take, ap}
use Rattle.std.specs.Prelude.{IfSome}
use Rattle.std.specs.Option.{option_map}
use Rattle.std.proofs.lemmas.List.{length-take}
use Rattle.oci_types.specs.Text.{Text}
use Rattle.registry_http.proofs.HeadLemmas.{take_whole}

-- where less than the limit was read, it was all
pub all_read : (left : Option Text) (most : ℕ) (bytes : Text)
    → IfSome (option_map (take (most + 1)) left) (λ xs. bytes ≡ xs) → length bytes ≤ most → IfSome left (λ xs. bytes ≡ xs)
all_read None most bytes read short = tt
all_read (Some xs) most bytes read short =
    let e = ap length read ∙ length-take (most + 1) xs in
    read ∙ take_whole (most + 1) xs (omega arith)
