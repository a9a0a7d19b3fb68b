use Rattle.std.proofs.Common.{◌∙◌, ap}
use Rattle.std.specs.BTreeSet.{keys}
use Rattle.std.proofs.lemmas.Map.Lookups.{exact_signed}
use Rattle.store_writes.specs.Naming.{is_among}
use Rattle.store_writes.proofs.ContentNaming.{inserted}
use Rattle.store_writes.proofs.content_clearing.insert.Goals as goal

pub returns-in-Ok : goal.returns-in-Ok
returns-in-Ok c i = ap (λ ks. is_among ks i) c.in-Ok.ensures.keys ∙ inserted _ (λ a b e. exact_signed a.id b.id e) (keys c.args.set.now) c.args.id i
