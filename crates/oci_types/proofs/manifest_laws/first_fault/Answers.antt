use Rattle.oci_types.proofs.FaultLaws.{refused_found, refused_only}
use Rattle.oci_types.proofs.manifest_laws.first_fault.Goals as goal

pub returns : goal.returns
returns c = λ bytes fault. (refused_found bytes fault, refused_only bytes fault)
