-- The table of what is used, as far as it was written.
use Rattle.std.proofs.Common.{◌≡◌, Option, Result, Ok, Err, sym, subst}
use Rattle.std.specs.Prelude.{OnOk, IfErr}
use Rattle.std.specs.Io.KnownBytes.{Appends}
use Rattle.oci_types.specs.Text.{Text}
use Rattle.registry_model.specs.Keeping.{Kept}
use Rattle.registry_model.specs.Lookups.{usages_of}
use Rattle.registry_orders.specs.declared.failure.Failure.{Failure}
use Rattle.registry_orders.specs.declared.failure.Failure.TheVariants.{ConnectionFailure}
use Rattle.registry_orders.specs.Outputs.{AppendsPart, output}
use Rattle.order_texts.specs.Table.{table_of}
use Rattle.order_carrying.specs.Carrying.{Shows}

pub shown_table : (s s' : Kept) (r : Result (Unit {0}) Failure) (old new : Option Text) (table : Text) → table ≡ table_of (usages_of s.world) → s' ≡ s
    → OnOk r (Appends old new table) → AppendsPart old new table → IfErr r (λ f. f ≡ ConnectionFailure) → Shows s r (output old new) s'
shown_table s s' (Ok v) old new table is same all part fails = (subst (Appends old new) is all, same)
shown_table s s' (Err f) old new table is same all part fails =
    subst (λ (f : Failure). Shows s (Err f) (output old new) s') (sym fails) (subst (AppendsPart old new) is part, same)
