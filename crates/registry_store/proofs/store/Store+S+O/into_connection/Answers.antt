use Rattle.std.proofs.Common.{◌∙◌, ap, refl}
use Rattle.store_bytes.specs.declared.table_contents.TableContents.{TableContents}
use Rattle.registry_store.specs.Kept.{Kept}
use Rattle.registry_store.proofs.store.Store+S+O.into_connection.Goals as goal

pub returns : goal.returns
returns g c = record {
  same = ap (λ (k : Kept g.row.S.Denot TableContents). k.conn) c.self.view_is;
  settled = λ unspent ours clean. (c.self.invariant (ap (λ (k : Kept g.row.S.Denot TableContents). k.spent) c.self.view_is ∙ unspent) ours (clean, refl)).0.settled;
}
