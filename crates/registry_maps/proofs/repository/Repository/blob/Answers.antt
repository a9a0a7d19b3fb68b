use Rattle.std.proofs.Common.{ℕ, ◌∙◌, sym, ap}
use Rattle.std.specs.Prelude.{option_map, Vec}
use Rattle.std.specs.declared.alloc.Global.{Global}
use Rattle.std.proofs.lemmas.Result.{IfOk-weaker}
use Rattle.registry_model.proofs.TextOrder.{text_total, exact_texts}
use Rattle.registry_maps.proofs.SeenMaps.{get_seen, copied}
use Rattle.registry_maps.proofs.repository.Repository.blob.Goals as goal

pub returns : goal.returns
returns c =
    let r = c.args.self.now in
    let found = get_seen text_total exact_texts (λ (v : Vec ℕ Global). v.items) r.blobs c.args.digest.now ∙ ap (option_map (λ (v : Vec ℕ Global). v.items)) (sym c.get.ensures.value) ∙ copied (λ (v : Vec ℕ Global). v.items) c.get.result in
    IfOk-weaker c.copy_of.result _ _ (λ v h. h ∙ sym found) c.copy_of.ensures
