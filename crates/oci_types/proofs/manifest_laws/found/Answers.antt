use Rattle.oci_types.proofs.ManifestLaws.{manifest_found}
use Rattle.oci_types.proofs.manifest_laws.found.Goals as goal

pub returns : goal.returns
returns c = manifest_found
