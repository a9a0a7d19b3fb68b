use Rattle.registry_service.proofs.LoginLemmas.{text_valid, text_invalid}
use Rattle.registry_service.proofs.login.text_of.Goals as goal

pub returns-in-Ok : goal.returns-in-Ok
returns-in-Ok c = rw (c.in-Ok.ensures.cases.0) (text_valid c.args.bytes.now c.in-Ok.ensures.cases.1)

pub returns-in-Err : goal.returns-in-Err
returns-in-Err c = text_invalid c.args.bytes.now c.in-Err.ensures.cases.0
