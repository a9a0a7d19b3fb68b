use Rattle.std.proofs.Common.{◌++◌, subst}
use Rattle.httparse.specs.Grammar.{HasNoRequest}
use Rattle.oci_types.specs.Text.{Text}
use Rattle.registry_http.specs.Spelling.{HoldsNoHead}
use Rattle.registry_conversation.proofs.HoldingLemmas.{not_without_head, not_hopeless}
use Rattle.registry_conversation.proofs.conversation.Conversation.taken_head.Goals as goal

pub returns-in-NotYet : goal.returns-in-NotYet
returns-in-NotYet c = record {
  found = tt;
  none = λ h v x. not_without_head h _ v x (subst HasNoRequest c.before-taken.ensures c.in-NotYet.ensures.1);
}

pub returns-in-Never : goal.returns-in-Never
returns-in-Never c = record {
  found = tt;
  none = λ h v x. not_hopeless h _ v x (λ tail. subst (λ (x : Text). HoldsNoHead (x ++ tail)) c.before-taken.ensures (c.in-Never.ensures tail));
}
