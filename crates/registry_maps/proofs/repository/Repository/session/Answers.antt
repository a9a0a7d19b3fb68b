use Rattle.std.proofs.Common.{ℕ, ◌∙◌, sym, ap}
use Rattle.std.specs.Prelude.{option_map, Vec}
use Rattle.std.specs.declared.alloc.Global.{Global}
use Rattle.std.proofs.lemmas.Result.{IfOk-weaker}
use Rattle.registry_maps.proofs.SeenMaps.{number_total, exact_numbers, get_seen, copied}
use Rattle.registry_maps.proofs.repository.Repository.session.Goals as goal

pub returns : goal.returns
returns c =
    let r = c.args.self.now in
    let found = get_seen number_total exact_numbers (λ (v : Vec ℕ Global). v.items) r.sessions c.args.number ∙ ap (option_map (λ (v : Vec ℕ Global). v.items)) (sym c.get.ensures.value) ∙ copied (λ (v : Vec ℕ Global). v.items) c.get.result in
    IfOk-weaker c.copy_of.result _ _ (λ v h. h ∙ sym found) c.copy_of.ensures
