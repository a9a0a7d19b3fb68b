use Rattle.oci_types.proofs.ManifestLaws.{manifest_only}
use Rattle.oci_types.proofs.manifest_laws.only.Goals as goal

pub returns : goal.returns
returns c = manifest_only
