use Rattle.registry_conversation.proofs.accepting.serve_one.Goals as goal

pub returns-clause-serves : goal.returns-clause-serves
returns-clause-serves g c honest = (_, c.serve_connection.ensures.serves honest)
