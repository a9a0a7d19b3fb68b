use Rattle.std.proofs.Common.{◌∙◌, sym, refl}
use Rattle.registry_maps.specs.Maps.{repo_of}
use Rattle.registry_model.proofs.TextOrder.{text_total, exact_texts}
use Rattle.registry_maps.proofs.SeenMaps.{has_seen}
use Rattle.registry_maps.proofs.map_keeper.MapKeeperKeeper.has_repo.Goals as goal

pub returns : goal.returns
returns c = record {
  found = λ honest.
      let k = c.args.self.now in
      (c.contains_key.ensures ∙ sym (has_seen text_total exact_texts repo_of k.repos c.args.repo.now), refl);
  spends = (refl, refl);
  honest = λ honest. honest;
}
