use Rattle.registry_store.proofs.KnownChanges.{added}
use Rattle.registry_store.proofs.known_usages.KnownUsages.add.Goals as goal

pub returns : goal.returns
returns c = added c.args.self.now _ c.args.name c.args.usage c.insert-old.result c.requires.unknown c.insert-old.ensures.updates c.insert-old.ensures.err
