use Rattle.std.proofs.Common.{◌≡◌, ◌++◌}
use Rattle.oci_types.specs.Text.{Text}
use Rattle.registry_conversation.specs.Shown.{with_more}
use Rattle.registry_conversation.specs.ConversationShowing.{shown}
use Rattle.registry_conversation.proofs.conversation.Conversation.receive.Given as goal

-- some of the bytes stand behind those that came before, and the others are left
abbrev pub invariant-reads : goal.invariant-reads
invariant-reads l = record {
  kept : (front : Text) × (l.bytes ≡ front ++ l.left) × (shown l.self ≡ with_more (shown l.fn.self) front);
}
