use Rattle.std.proofs.Common.{ℕ}
use Rattle.std.specs.Prelude.{Vec}
use Rattle.std.specs.declared.alloc.Global.{Global}
use Rattle.registry_model.proofs.TextOrder.{text_total, exact_texts}
use Rattle.registry_maps.proofs.SeenMaps.{keys_copied}
use Rattle.registry_maps.proofs.repository.Repository.blob_digests.Goals as goal

pub returns : goal.returns
returns c =
    keys_copied text_total exact_texts (λ (v : Vec ℕ Global). v.items) c.args.self.now.blobs c.digests_of.result c.digests_of.ensures.ordered c.digests_of.ensures.found
