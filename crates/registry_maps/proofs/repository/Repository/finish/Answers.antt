use Rattle.std.proofs.Common.{ℕ, ◌∙◌, ap}
use Rattle.std.specs.Prelude.{Vec}
use Rattle.std.specs.declared.alloc.Global.{Global}
use Rattle.registry_maps.specs.Maps.{repo_of}
use Rattle.registry_maps.proofs.SeenMaps.{number_total, exact_numbers, seen_removed}
use Rattle.registry_maps.proofs.SeenRepositories.{finished_so}
use Rattle.registry_maps.proofs.repository.Repository.finish.Goals as goal

pub returns : goal.returns
returns c =
    let r = c.put_blob.new.self in
    ap (λ x. record (repo_of r) { sessions = x }) (seen_removed number_total exact_numbers (λ (v : Vec ℕ Global). v.items) c.args.number r.sessions c.remove.new.self c.remove.ensures.updates)
    ∙ finished_so (repo_of c.args.self.now) (repo_of r) c.args.number c.args.digest.now c.args.bytes.now c.in_ok-put_blob.ensures
