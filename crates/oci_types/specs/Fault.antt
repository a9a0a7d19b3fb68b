-- The numbers of the faults, and what they say of themselves (profile).
use Rattle.std.specs.Prelude.{ℕ, codes}
use Rattle.oci_types.specs.Text.{Text}
use Rattle.oci_types.specs.declared.fault.Fault.{Fault}
use Rattle.oci_types.specs.declared.fault.Fault.TheVariants as fault
use Rattle.oci_types.specs.declared.fault.NameFault.{NameFault}
use Rattle.oci_types.specs.declared.fault.NameFault.TheVariants.{DigestGrammar, DigestLength, Name, Tag, Reference, Token, Memory}

abbrev pub fault_text : Fault → Text
fault_text fault.Memory = codes "out of memory"
fault_text fault.Storage = codes "storage failed"

abbrev pub fault_number : NameFault → ℕ
fault_number DigestGrammar = 1
fault_number DigestLength = 2
fault_number Name = 3
fault_number Tag = 4
fault_number Reference = 5
fault_number Token = 6
fault_number Memory = 7

abbrev pub name_fault_text : NameFault → Text
name_fault_text DigestGrammar = codes "not a digest"
name_fault_text DigestLength = codes "the digest does not have the form of its algorithm"
name_fault_text Name = codes "not a repository name"
name_fault_text Tag = codes "not a tag"
name_fault_text Reference = codes "neither a tag nor a digest"
name_fault_text Token = codes "not a token"
name_fault_text Memory = codes "out of memory"
