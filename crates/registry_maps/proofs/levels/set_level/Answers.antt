use Rattle.std.proofs.Common.{◌≡◌, ap, rules}
use Rattle.std.specs.FinMap.{insert}
use Rattle.registry_model.specs.declared.level.Level.{Level}
use Rattle.registry_model.specs.World.{Grants}
use Rattle.registry_maps.specs.Maps.{levels_in}
use Rattle.registry_model.proofs.TextOrder.{text_total, exact_texts}
use Rattle.registry_maps.proofs.SeenMaps.{makes_put}
use Rattle.registry_maps.proofs.levels.set_level.Goals as goal

pub returns : goal.returns
returns c =
    let old = c.args.levels.now in
    let key : c.in_ok-key.key ≡ c.args.name.now = search rules in
    makes_put text_total exact_texts (λ (l : Level). l) c.in_ok-key.key c.args.level old c.put.new.map c.put.result (λ (g : Grants). g)
    (insert (levels_in old.entries) c.args.name.now c.args.level) c.put.ensures (ap (λ t. insert (levels_in old.entries) t c.args.level) key)
