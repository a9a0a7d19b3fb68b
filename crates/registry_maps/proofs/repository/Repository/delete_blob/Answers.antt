use Rattle.std.proofs.Common.{ℕ, ap}
use Rattle.std.specs.Prelude.{Vec}
use Rattle.std.specs.declared.alloc.Global.{Global}
use Rattle.registry_maps.specs.Maps.{repo_of}
use Rattle.registry_model.proofs.TextOrder.{text_total, exact_texts}
use Rattle.registry_maps.proofs.SeenMaps.{seen_removed}
use Rattle.registry_maps.proofs.repository.Repository.delete_blob.Goals as goal

pub returns : goal.returns
returns c =
    let r = c.args.self.now in
    ap (λ x. record (repo_of r) { blobs = x }) (seen_removed text_total exact_texts (λ (v : Vec ℕ Global). v.items) c.args.digest.now r.blobs c.remove.new.self c.remove.ensures.updates)
