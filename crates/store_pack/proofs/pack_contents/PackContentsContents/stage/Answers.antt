use Rattle.std.proofs.Common.{◌≡◌, ◌∙◌, ◌++◌, ◌∷◌, [], ap, sym, subst}
use Rattle.sha2.specs.Sha256.{sha256}
use Rattle.registry_pack.specs.Pack.{file_of}
use Rattle.store_bytes.specs.Staging.{IsStaged}
use Rattle.store_bytes.specs.declared.staged.Staged.TheVariants.{AtExtents}
use Rattle.store_pack.proofs.ContentsLemmas.{clear_of, pack_keeps, spared_all, staged_at}
use Rattle.store_pack.proofs.pack_contents.PackContentsContents.stage.Goals as goal

pub returns-in_err-extent-clause-bytes : goal.returns-in_err-extent-clause-bytes
returns-in_err-extent-clause-bytes g c db all = pack_keeps c.args.self.now.pack c.place.new.pack c.place.ensures.spares db all

pub returns-in-Ok-push-clause-staged : goal.returns-in-Ok-push-clause-staged
returns-in-Ok-push-clause-staged g c =
    let one = c.in-Ok-push.ensures.items ∙ ap (λ l. l ++ c.in_ok-extent.extent ∷ []) c.in-Ok.ensures.items in
    staged_at c.args.self.now.pack c.place.new.pack c.args.bytes.now c.in_ok-extent.extent c.in_ok-extent.ensures.placed c.place.ensures.spares (c.sha256_of-hash.result ≡ sha256 c.args.bytes.now)
    (g.D.Disk.seen (file_of c.place.new.pack)) c.push.new.self.items one c.sha256_of-hash.ensures c.in_ok-extent.ensures.placed.lasts.now

pub returns-in-Ok-push-clause-lasting : goal.returns-in-Ok-push-clause-lasting
returns-in-Ok-push-clause-lasting g c l may =
    let one = c.in-Ok-push.ensures.items ∙ ap (λ l. l ++ c.in_ok-extent.extent ∷ []) c.in-Ok.ensures.items in
    subst (λ m. IsStaged m c.args.bytes.now (AtExtents c.push.new.self c.sha256_of-hash.result)) (sym may.2)
    (staged_at c.args.self.now.pack c.place.new.pack c.args.bytes.now c.in_ok-extent.extent c.in_ok-extent.ensures.placed c.place.ensures.spares (c.sha256_of-hash.result ≡ sha256 c.args.bytes.now)
    may.0 c.push.new.self.items one c.sha256_of-hash.ensures (c.in_ok-extent.ensures.placed.lasts.after may.0 may.1))

pub returns-in-Ok-push-clause-spared : goal.returns-in-Ok-push-clause-spared
returns-in-Ok-push-clause-spared g c =
    spared_all c.args.self.now.pack c.place.new.pack c.args.bytes.now c.in_ok-extent.extent c.in_ok-extent.ensures.placed c.place.ensures.spares c.args.self.now.apart c.push.new.self.items (c.in-Ok-push.ensures.items ∙ ap (λ l. l ++ c.in_ok-extent.extent ∷ []) c.in-Ok.ensures.items)

pub returns-in-Ok-push-clause-clear : goal.returns-in-Ok-push-clause-clear
returns-in-Ok-push-clause-clear g c run it p low high used =
    clear_of c.args.self.now.pack c.place.new.pack c.args.bytes.now c.in_ok-extent.extent c.in_ok-extent.ensures.placed c.place.ensures.spares c.push.new.self.items (c.in-Ok-push.ensures.items ∙ ap (λ l. l ++ c.in_ok-extent.extent ∷ []) c.in-Ok.ensures.items) run it p low high used

pub returns-in-Ok-push-clause-bytes : goal.returns-in-Ok-push-clause-bytes
returns-in-Ok-push-clause-bytes g c db all = pack_keeps c.args.self.now.pack c.place.new.pack c.place.ensures.spares db all
