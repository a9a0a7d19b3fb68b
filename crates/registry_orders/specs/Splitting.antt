-- What the texts of `--repo` and `--grant` split into.
use Rattle.std.specs.Borrow.{Bor}
use Rattle.oci_types.specs.Text.{Text}
use Rattle.registry_model.specs.declared.level.Level.{Level}
use Rattle.registry_model.specs.declared.quota.Quota.{Quota}
use Rattle.registry_orders.specs.Options.{IsRepoText, IsGrantText}

abbrev pub SplitsRepo : Bor Text → Bor Text × Quota → Type 0
SplitsRepo text split = IsRepoText text.now split.0.now split.1.bytes

abbrev pub SplitsGrant : Bor Text → Bor Text × Bor Text × Level → Type 0
SplitsGrant text split = IsGrantText text.now split.0.now split.1.now split.2
