use Rattle.std.proofs.Common.{refl}
use Rattle.registry_model.proofs.worked.paths_have_forms.Goals as goal

pub returns : goal.returns
returns c = record { nested = refl; nameless = refl; none = refl; of_session = refl; of_uploads = refl; of_base = refl }
