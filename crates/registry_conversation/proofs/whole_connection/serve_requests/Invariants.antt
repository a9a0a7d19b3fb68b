use Rattle.std.proofs.Common.{◌+◌, ◌*◌}
use Rattle.registry_model.specs.Keeping.{state_of}
use Rattle.registry_conversation.specs.Shown.{turns_left}
use Rattle.registry_conversation.specs.ConversationShowing.{shown}
use Rattle.registry_conversation.proofs.ServingLemmas.{Stands}
use Rattle.registry_conversation.proofs.whole_connection.serve_requests.Given as goal

-- what was put out went, and what came and what the reader has left follow it
abbrev pub invariant-turns : goal.invariant-turns
invariant-turns g l = record {
  honest : g.K.Keeper.is_honest l.service → g.K.Keeper.is_honest l.fn.service;
  stands : g.K.Keeper.is_honest l.service → Stands (shown l.conversation) (record {
    settings = l.fn.settings;
    left = g.R.Read.remaining l.fn.reader;
    left' = g.R.Read.remaining l.reader;
    held = g.W.Write.contents l.fn.writer;
    held' = g.W.Write.contents l.writer;
    state = state_of (g.K.Keeper.kept l.fn.service);
    state' = state_of (g.K.Keeper.kept l.service);
  });
}

abbrev pub decreases-turns : goal.decreases-turns
decreases-turns g l = l.reads * 4194304 + turns_left (shown l.conversation)
