use Rattle.std.proofs.Common.{◌∙◌, refl, sym}
use Rattle.registry_maps.specs.Maps.{repo_of}
use Rattle.registry_model.proofs.TextOrder.{text_total, exact_texts}
use Rattle.registry_maps.proofs.SeenMaps.{len_seen}
use Rattle.registry_maps.proofs.map_keeper.MapKeeperKeeper.count_repos.Goals as goal

pub returns : goal.returns
returns c = record {
  found = λ honest. (c.len.ensures.len ∙ sym (len_seen text_total exact_texts repo_of c.args.self.now.repos c.len.ensures.ordered), refl);
  spends = (refl, refl);
  honest = λ honest. honest;
}
