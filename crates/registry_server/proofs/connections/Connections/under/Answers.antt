use Rattle.std.proofs.Common.{sym}
use Rattle.registry_server.proofs.PlaceLemmas.{found_is}
use Rattle.registry_server.proofs.LifeLemmas.{life_found, no_life}
use Rattle.registry_server.proofs.connections.Connections.under.Goals as goal

pub returns : goal.returns
returns c =
    let items = c.args.self.now.connections.items in
    let f = c.in_ok-at.ensures.found in
    record {
      shown = sym (found_is c.args.number c.in_ok-at.at items c.index.result.now c.index.ensures f);
      life = sym (life_found c.args.number c.in_ok-at.at items c.index.result.now c.index.ensures f);
    }

pub returns-in_err-at : goal.returns-in_err-at
returns-in_err-at c =
    let items = c.args.self.now.connections.items in
    rw c.from_residual.ensures
    (record {
      shown = sym (c.in_err-at.ensures.none);
      life = sym (no_life c.args.number items c.in_err-at.ensures.none);
    })
