use Rattle.std.proofs.Common.{arith}
use Rattle.std.specs.BTreeMap.Entry.{map_with_value}
use Rattle.std.proofs.lemmas.Result.{on_ok_weaker}
use Rattle.order_carrying.proofs.NamingLemmas.{put_so}
use Rattle.order_carrying.proofs.naming.Namers.put.Goals as goal

pub returns : goal.returns
returns c =
    let new = c.put_behind.new.manifests in
    let entry = c.in_ok-self.ensures in
    on_ok_weaker c.put_behind.result (λ put q.
    let so = put_so c.args.self.now.manifests (map_with_value c.in_ok-self.field-0 new) c.args.digest c.args.manifest.now c.or_insert-manifests.result.now c.new.result new _
    (entry.update.0 new) c.or_insert-manifests.ensures.value entry.value c.new.ensures.items put q in
    grind (arith, so)) c.put_behind.ensures
