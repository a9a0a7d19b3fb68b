use Rattle.std.specs.List.{filter_map}
use Rattle.registry_checking.specs.Wrongs.{wrong_blob_at}
use Rattle.registry_checking.proofs.WrongLemmas.{unread, of_all_read}
use Rattle.registry_checking.proofs.looking.look_at_blobs.Goals as goal

pub returns-in_err-digests : goal.returns-in_err-digests
returns-in_err-digests g c = unread _ c.from_residual.result _ _ _ _ _ _ _ c.from_residual.ensures c.in_err-digests.ensures

pub returns : goal.returns
returns g c =
    let read = c.in_ok-digests.ensures in
    of_all_read c.look_at_all.result (λ w digests. filter_map (wrong_blob_at w c.args.repo.now) digests) c.deref.result.now _ _ _ _ _ _ _ _ _ _
    c.deref.ensures.value read.found read.spends.0 read.honest c.look_at_all.ensures
