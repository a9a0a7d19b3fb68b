use Rattle.registry_conversation.specs.Receiving.{received}
use Rattle.registry_conversation.proofs.ApartLemmas.{at_head}
use Rattle.registry_conversation.proofs.receiver.Receiver.answer_next.Goals as goal

pub returns-in-Head-clause-turns : goal.returns-in-Head-clause-turns
returns-in-Head-clause-turns g c = λ honest apart lies.
    let old = received c.args.self.now in
    let k = g.K.Keeper.kept c.args.service.now in
    let turn = c.turn.ensures.turns honest apart in
    record {
      apart' = turn.apart';
      lies = turn.lies;
      holds = λ b said x. turn.holds b said (at_head c.args.settings c.args.key k apart old b said c.in-Head.is lies x);
      tells = λ b said x. turn.tells b said (at_head c.args.settings c.args.key k apart old b said c.in-Head.is lies x);
    }
