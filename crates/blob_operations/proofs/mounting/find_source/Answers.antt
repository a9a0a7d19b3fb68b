use Rattle.std.proofs.Common.{ℕ, refl}
use Rattle.std.specs.Prelude.{Option}
use Rattle.registry_model.specs.declared.level.Level.{Level}
use Rattle.registry_model.specs.Ask.{text_in}
use Rattle.blob_operations.specs.Mounting.{source_at}
use Rattle.blob_operations.specs.declared.mounting.Source.{Source}
use Rattle.operation_parts.proofs.ReadLemmas.{read_failed, read_failed_later}
use Rattle.blob_operations.proofs.mounting.find_source.Goals as goal

pub returns-in-Memory : goal.returns-in-Memory
returns-in-Memory g c = record { found = λ honest. refl; spends = (c.requires.unspent, c.requires.unspent); honest = λ honest. honest }

pub returns-in_err-level : goal.returns-in_err-level
returns-in_err-level g c =
    read_failed (λ (o : Option Source). o) (source_at (g.K.Keeper.kept c.args.keeper.now).world c.args.token.now (text_in c.args.«from») c.args.digest.now) (λ (o : Option Level). o) _
    c.from_residual.result c.in_err-level.field-0.0 _ _ _ _ c.from_residual.ensures c.in_err-level.ensures

pub returns-in_err-blob_size : goal.returns-in_err-blob_size
returns-in_err-blob_size g c =
    let asked = c.in_ok-level.ensures in
    read_failed_later (λ (o : Option Source). o) (source_at (g.K.Keeper.kept c.args.keeper.now).world c.args.token.now (text_in c.args.«from») c.args.digest.now) (λ (o : Option ℕ). o) _
    c.from_residual-in_err-blob_size.result c.in_err-blob_size.field-0.0 _ _ _ _ _ _ c.from_residual-in_err-blob_size.ensures (λ between. (asked.found between).1) asked.honest c.requires.unspent c.in_err-blob_size.ensures
