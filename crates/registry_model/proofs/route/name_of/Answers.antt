use Rattle.std.proofs.Common.{sym}
use lib.Utf8.{encode}
use Rattle.registry_model.proofs.LastSlash.{no_slash}
use Rattle.registry_model.proofs.route.name_of.Goals as goal

pub returns-in-None : goal.returns-in-None
unfolding encode
returns-in-None c = sym (no_slash c.args.path.now c.in-None.ensures.cases)
