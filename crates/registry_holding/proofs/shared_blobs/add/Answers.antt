use Rattle.std.proofs.Common.{◌≡◌, rules}
use Rattle.registry_holding.proofs.SharingLemmas.{blob_put}
use Rattle.registry_holding.proofs.shared_blobs.add.Goals as goal

pub returns : goal.returns
returns c = λ w repo are it.
    let key : c.in_ok-clone.field-0 ≡ c.args.digest.now = search rules in
    blob_put c.make_room.new.blobs c.insert.new.self w repo c.args.digest.now c.in_ok-clone.field-0 c.in_ok-downgrade.field-0 c.args.bytes.now.value c.in_ok-insert.ensures.updates key c.in_ok-downgrade.ensures.ok (c.make_room.ensures w repo are) it
