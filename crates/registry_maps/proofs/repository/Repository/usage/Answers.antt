use Rattle.std.proofs.Common.{ℕ, ◌∙◌, sym}
use Rattle.std.specs.Prelude.{Vec}
use Rattle.std.specs.declared.alloc.Global.{Global}
use Rattle.oci_types.specs.Text.{Text}
use Rattle.registry_model.proofs.TextOrder.{text_total, exact_texts}
use Rattle.registry_maps.proofs.SeenMaps.{number_total, exact_numbers, len_seen}
use Rattle.registry_maps.proofs.repository.Repository.usage.Goals as goal

pub returns : goal.returns
returns c =
    let r = c.args.self.now in
    λ i. record {
      used = c.used.ensures i;
      quota = r.quota;
      blobs = (c.len.ensures.len ∙ sym (len_seen text_total exact_texts (λ (v : Vec ℕ Global). v.items) r.blobs c.len.ensures.ordered)) i;
      manifests = (c.len-2.ensures.len ∙ sym (len_seen text_total exact_texts (λ (t : Text). t) r.manifests c.len-2.ensures.ordered)) i;
      tags = (c.len-3.ensures.len ∙ sym (len_seen text_total exact_texts (λ (t : Text). t) r.tags c.len-3.ensures.ordered)) i;
      sessions = (c.len-4.ensures.len ∙ sym (len_seen number_total exact_numbers (λ (v : Vec ℕ Global). v.items) r.sessions c.len-4.ensures.ordered)) i;
    }
