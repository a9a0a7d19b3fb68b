use Rattle.registry_server.proofs.PlaceLemmas.{found_if, none_if}
use Rattle.registry_server.proofs.connections.Connections.place_of.Goals as goal

pub returns-clause-found : goal.returns-clause-found
returns-clause-found c =
    let u = c.args.self.now in
    found_if u.next c.args.number c.find.result c.deref.result.now u.connections.items c.deref.ensures.value u.numbered c.find.ensures.found

pub returns-clause-none : goal.returns-clause-none
returns-clause-none c =
    none_if c.args.number c.find.result c.deref.result.now c.args.self.now.connections.items c.deref.ensures.value c.find.ensures.none
