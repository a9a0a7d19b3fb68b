use Rattle.oci_documents.proofs.Texts.{Copies}
use Rattle.oci_documents.proofs.member.fill.Given as goal

abbrev pub invariant-loop-key : goal.invariant-loop-key
invariant-loop-key l = Copies l.members.entries l.key-iterator l.texts.entries
