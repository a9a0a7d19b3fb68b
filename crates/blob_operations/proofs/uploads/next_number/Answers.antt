use Rattle.std.proofs.Common.{ℕ}
use Rattle.std.specs.Prelude.{Option}
use Rattle.blob_operations.specs.Uploads.{next_number_at}
use Rattle.operation_parts.proofs.ReadLemmas.{read_failed, read_failed_later}
use Rattle.blob_operations.proofs.uploads.next_number.Goals as goal

pub returns-in_err-open : goal.returns-in_err-open
returns-in_err-open g c =
    read_failed (λ (o : Option ℕ). o) (next_number_at (g.K.Keeper.kept c.args.keeper.now).world c.args.name.now) (λ (n : ℕ). n) _
    c.from_residual.result c.in_err-open.field-0.0 _ _ _ _ c.from_residual.ensures c.in_err-open.ensures

pub returns-in_err-last : goal.returns-in_err-last
returns-in_err-last g c =
    let asked = c.in_ok-open.ensures in
    read_failed_later (λ (o : Option ℕ). o) (next_number_at (g.K.Keeper.kept c.args.keeper.now).world c.args.name.now) (λ (n : ℕ). n) _
    c.from_residual-in_err-last.result c.in_err-last.field-0.0 _ _ _ _ _ _ c.from_residual-in_err-last.ensures (λ between. (asked.found between).1) asked.honest asked.spends.0 c.in_err-last.ensures
