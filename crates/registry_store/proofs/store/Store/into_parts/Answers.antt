use Rattle.std.proofs.Common.{◌∙◌, ap}
use Rattle.registry_store.specs.Kept.{Kept, both}
use Rattle.registry_store.proofs.store.Store.into_parts.Goals as goal

pub returns : goal.returns
returns g c = record {
  same = ap (λ (k : Kept g.row.S.Denot g.row.C.Denot). both k) c.self.view_is;
  ordered = λ unspent ours clean. (c.self.invariant (ap (λ (k : Kept g.row.S.Denot g.row.C.Denot). k.spent) c.self.view_is ∙ unspent) ours clean).0;
}
