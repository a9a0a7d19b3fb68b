use Rattle.std.proofs.Common.{ap}
use Rattle.registry_conversation.specs.ConversationShowing.{shown}
use Rattle.registry_conversation.specs.Receiving.{placed}
use Rattle.registry_conversation.proofs.ApartLemmas.{placed_on}
use Rattle.registry_conversation.proofs.receiver.Receiver.receive.Goals as goal

pub returns : goal.returns
returns c =
    let old = c.args.self.now in
    record {
      ignores = λ deaf. ap (placed old.place) (c.receive.ensures.ignores deaf);
      keeps = λ hears. placed_on old.place c.args.bytes.now (shown old.conversation) (shown c.receive.new.self) (c.receive.ensures.keeps hears);
      sized = c.receive.ensures.sized;
    }
