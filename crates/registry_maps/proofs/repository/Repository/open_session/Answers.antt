use Rattle.std.proofs.Common.{◌≡◌, ℕ, ◌∙◌, ap, rules}
use Rattle.std.specs.Prelude.{Vec}
use Rattle.std.specs.declared.alloc.Global.{Global}
use Rattle.std.proofs.Common.{◌+◌, []}
use Rattle.std.specs.FinMap.{insert}
use Rattle.registry_maps.specs.Maps.{repo_of, sessions_in}
use Rattle.registry_maps.proofs.SeenMaps.{number_total, exact_numbers, seen_put}
use Rattle.registry_maps.proofs.repository.Repository.open_session.Goals as goal

pub returns-clause-made : goal.returns-clause-made
returns-clause-made c =
    let r = c.args.self.now in
    let none : c.new.result.items ≡ [] = search rules in
    (λ i. record (repo_of r) {
      last = r.last + 1;
      sessions = (seen_put number_total exact_numbers (λ (v : Vec ℕ Global). v.items) (r.last + 1) r.sessions c.put.new.map c.new.result c.in_ok-put.ensures ∙ ap (insert (sessions_in r.sessions.entries) (r.last + 1)) none) i;
    })
