use Rattle.std.proofs.Common.{ℕ, ◌∙◌, sym}
use Rattle.std.specs.Prelude.{Vec}
use Rattle.std.specs.declared.alloc.Global.{Global}
use Rattle.registry_maps.proofs.SeenMaps.{number_total, exact_numbers, len_seen}
use Rattle.registry_maps.proofs.repository.Repository.sessions_open.Goals as goal

pub returns : goal.returns
returns c = c.len.ensures.len ∙ sym (len_seen number_total exact_numbers (λ (v : Vec ℕ Global). v.items) c.args.self.now.sessions c.len.ensures.ordered)
