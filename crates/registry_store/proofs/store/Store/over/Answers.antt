use Rattle.std.proofs.Common.{◌∙◌, sym}
use Rattle.registry_model.proofs.ChangedMaps.{not_Some}
use Rattle.registry_store.proofs.store.Store.over.Goals as goal

pub invariant_of-result : goal.invariant_of-result
invariant_of-result g c unspent ours clean = (c.requires.ours ours clean, λ name u is. absurd (not_Some u (sym (c.new.ensures name) ∙ is)))
