use Rattle.std.proofs.Common.{◌-◌, ◌∙◌, length, ap, rules}
use Rattle.std.specs.Prelude.{slice_get}
use Rattle.order_carrying.proofs.NamingLemmas.{last_tested, put_more, put_already}
use Rattle.order_carrying.proofs.naming.put_behind.Goals as goal

pub returns-in_ok-push : goal.returns-in_ok-push
returns-in_ok-push c =
    let ms = c.args.manifests.now.items in
    let at = last_tested c.last.result c.args.manifest ms (c.last.ensures.value ∙ ap (λ xs. slice_get xs (length xs - 1)) c.deref.ensures.value) in
    put_more ms c.push.new.self.items c.args.manifest.now c.ne.result _ c.ne.ensures at c.if-ne.true (search rules)

pub returns-else-ne : goal.returns-else-ne
returns-else-ne c =
    let ms = c.args.manifests.now.items in
    let at = last_tested c.last.result c.args.manifest ms (c.last.ensures.value ∙ ap (λ xs. slice_get xs (length xs - 1)) c.deref.ensures.value) in
    put_already ms c.args.manifest.now c.ne.result _ c.ne.ensures at c.if-ne.false
