use Rattle.store_migration.proofs.Ends.{version_raised}
use Rattle.store_migration.proofs.laws.the_version_becomes_two.Goals as goal

pub returns : goal.returns
returns c = version_raised
