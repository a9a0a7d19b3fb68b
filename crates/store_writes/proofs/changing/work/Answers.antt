use Rattle.sqlite.specs.Held.{state}
use Rattle.store_writes.proofs.SchemaKept.{only_in_pack, only_in_tables}
use Rattle.store_writes.specs.Naming.{Cleared, FreesPlaces}
use Rattle.store_statements.specs.StepsFrom.{StepsFrom}
use Rattle.store_statements.specs.Held.{IsReady}
use Rattle.sqlite.specs.State.{HasCleanDisk, KeepsCommit}
use Rattle.std.specs.Prelude.{⊤}
use Rattle.store_statements.proofs.Alone.{less}
use Rattle.store_statements.proofs.BlobLinks.{link_put_if}
use Rattle.store_writes.proofs.changing.work.Goals as goal

pub store_blob-requires : goal.store_blob-requires
store_blob-requires g c = let fits = rw c.in-AddBlob.is at c.requires.fits in record { right = fits.0; fits = fits.1; matching = fits.2 }

pub add_blob_link-requires : goal.add_blob_link-requires
add_blob_link-requires g c = record { fits = rw c.in-AddLink.is at c.requires.fits }

pub add_tagged-requires : goal.add_tagged-requires
add_tagged-requires g c = let fits = rw c.in-AddManifest.is at c.requires.fits in record { right = fits.0; fits = fits.1; matching = fits.2 }

pub put_quota-requires : goal.put_quota-requires
put_quota-requires g c = record { fits = rw c.in-SetRepo.is at c.requires.fits }

pub returns-in-AddBlob : goal.returns-in-AddBlob
returns-in-AddBlob g c = record {
  made = rw c.in-AddBlob.is (c.store_blob.ensures.stored);
  kept = rw c.in-AddBlob.is (λ l suits clean is asks. c.store_blob.ensures.kept l suits clean is);
  same_reference = c.store_blob.ensures.same_reference;
  survives = c.store_blob.ensures.survives;
}

pub returns-in-AddLink : goal.returns-in-AddLink
returns-in-AddLink g c = record {
  made = rw c.in-AddLink.is (λ l suits clean is free. link_put_if l (state g.S.Store c.args.tx.now.conn.now) (state g.S.Store c.add_blob_link.new.tx.conn.now) c.in-AddLink.repo.now c.in-AddLink.digest.now c.in-AddLink.link.size c.in-AddLink.link.content.id c.add_blob_link.result (c.add_blob_link.ensures.added l clean is free));
  kept = λ l suits clean is asks. c.add_blob_link.ensures.kept l clean is;
  same_reference = c.add_blob_link.ensures.same_reference;
  survives = c.add_blob_link.ensures.survives;
}

pub returns-in-TakeBlob : goal.returns-in-TakeBlob
returns-in-TakeBlob g c = record {
  made = rw c.in-TakeBlob.is (λ l suits clean is asks. c.take_blob_link.ensures.taken l clean is);
  kept = λ l suits clean is asks. c.take_blob_link.ensures.kept l clean is;
  same_reference = c.take_blob_link.ensures.same_reference;
  survives = c.take_blob_link.ensures.survives;
}

pub returns-in-TakeBlobs : goal.returns-in-TakeBlobs
returns-in-TakeBlobs g c = record {
  made = rw c.in-TakeBlobs.is (λ l suits clean is asks. c.take_links_to.ensures.taken l clean is);
  kept = λ l suits clean is asks. c.take_links_to.ensures.kept l clean is;
  same_reference = c.take_links_to.ensures.same_reference;
  survives = c.take_links_to.ensures.survives;
}

pub returns-in-TakeManifest : goal.returns-in-TakeManifest
returns-in-TakeManifest g c = record {
  made = rw c.in-TakeManifest.is (λ l suits clean is asks. c.take_manifest.ensures.taken l clean is);
  kept = λ l suits clean is asks. c.take_manifest.ensures.kept l clean is;
  same_reference = c.take_manifest.ensures.same_reference;
  survives = c.take_manifest.ensures.survives;
}

pub returns-in-TakeTag : goal.returns-in-TakeTag
returns-in-TakeTag g c = record {
  made = rw c.in-TakeTag.is (λ l suits clean is asks. c.take_tag.ensures.taken l clean is);
  kept = λ l suits clean is asks. c.take_tag.ensures.kept l clean is;
  same_reference = c.take_tag.ensures.same_reference;
  survives = c.take_tag.ensures.survives;
}

pub returns-in-TakeLevel : goal.returns-in-TakeLevel
returns-in-TakeLevel g c = record {
  made = rw c.in-TakeLevel.is (λ l suits clean is asks. c.take_grant.ensures.taken l clean is);
  kept = λ l suits clean is asks. c.take_grant.ensures.kept l clean is;
  same_reference = c.take_grant.ensures.same_reference;
  survives = c.take_grant.ensures.survives;
}

pub returns-in-TakeLevels : goal.returns-in-TakeLevels
returns-in-TakeLevels g c = record {
  made = rw c.in-TakeLevels.is (λ l suits clean is asks. c.take_token_grants.ensures.taken l clean is);
  kept = λ l suits clean is asks. c.take_token_grants.ensures.kept l clean is;
  same_reference = c.take_token_grants.ensures.same_reference;
  survives = c.take_token_grants.ensures.survives;
}

pub returns-in-AddManifest : goal.returns-in-AddManifest
returns-in-AddManifest g c = record {
  made = rw c.in-AddManifest.is (λ l suits clean is asks. less c.add_tagged.result (λ it. (it.whole.ready, ((it.whole.agree, it.world), it.beside, it.grow, it.rows))) (c.add_tagged.ensures.made l suits.0 suits.1 clean (record { ready = is; agree = asks.0 }) asks.1 asks.2));
  kept = rw c.in-AddManifest.is (λ l suits clean is asks. c.add_tagged.ensures.kept l suits.0 suits.1 clean (record { ready = is; agree = asks.0 }) asks.1 asks.2);
  same_reference = c.add_tagged.ensures.same_reference;
  survives = c.add_tagged.ensures.survives;
}

pub returns-in-SetTag : goal.returns-in-SetTag
returns-in-SetTag g c = record {
  made = rw c.in-SetTag.is (λ l suits clean is asks. less c.put_tag_if.result (λ it. (it.whole.ready, ((it.whole.agree, it.world), it.beside, it.grow, it.rows))) (c.put_tag_if.ensures.made l clean (record { ready = is; agree = asks.0 }) asks.1));
  kept = rw c.in-SetTag.is (λ l suits clean is asks. c.put_tag_if.ensures.kept l clean (record { ready = is; agree = asks.0 }));
  same_reference = c.put_tag_if.ensures.same_reference;
  survives = c.put_tag_if.ensures.survives;
}

pub returns-in-SetLevel : goal.returns-in-SetLevel
returns-in-SetLevel g c = record {
  made = rw c.in-SetLevel.is (λ l suits clean is asks. c.put_level.ensures.put l clean is);
  kept = λ l suits clean is asks. c.put_level.ensures.kept l clean is;
  same_reference = c.put_level.ensures.same_reference;
  survives = c.put_level.ensures.survives;
}

pub returns-in-SetRepo : goal.returns-in-SetRepo
returns-in-SetRepo g c = record {
  made = rw c.in-SetRepo.is (λ l suits clean is asks. c.put_quota.ensures.put l clean is);
  kept = λ l suits clean is asks. c.put_quota.ensures.kept l clean is;
  same_reference = c.put_quota.ensures.same_reference;
  survives = c.put_quota.ensures.survives;
}

pub put_last-requires : goal.put_last-requires
put_last-requires g c = record { fits = rw c.in-SetLast.is at c.requires.fits }

pub returns-in-SetLast : goal.returns-in-SetLast
returns-in-SetLast g c = record {
  made = rw c.in-SetLast.is (λ l suits clean is asks. c.put_last.ensures.set l clean is);
  kept = λ l suits clean is asks. c.put_last.ensures.kept l clean is;
  same_reference = c.put_last.ensures.same_reference;
  survives = c.put_last.ensures.survives;
}

pub returns-in-DropRepo : goal.returns-in-DropRepo
returns-in-DropRepo g c = record {
  made = rw c.in-DropRepo.is (λ l suits. c.drop_rows.ensures.dropped l);
  kept = λ l suits clean is asks. c.drop_rows.ensures.kept l clean is;
  same_reference = c.drop_rows.ensures.same_reference;
  survives = c.drop_rows.ensures.survives;
}

pub returns-in-Clear : goal.returns-in-Clear
returns-in-Clear g c =
    let old = c.args.tx.now.conn.now in
    let new = c.clear_contents.new.tx.conn.now in
    record {
      made = rw c.in-Clear.is (only_in_tables (λ k. StepsFrom g.S.Store k old new c.clear_contents.result (λ t. ⊤) Cleared) (λ clean is asks. c.clear_contents.ensures.cleared clean is));
      kept = rw c.in-Clear.is (only_in_tables (λ k. HasCleanDisk (state g.S.Store new) → IsReady k (state g.S.Store old) → ⊤ → KeepsCommit (state g.S.Store old) (state g.S.Store new)) (λ clean is asks. c.clear_contents.ensures.kept clean is));
      same_reference = c.clear_contents.ensures.same_reference;
      survives = c.clear_contents.ensures.survives;
    }

pub returns-in-ClearPack : goal.returns-in-ClearPack
returns-in-ClearPack g c =
    let old = c.args.tx.now.conn.now in
    let new = c.clear_placed.new.tx.conn.now in
    record {
      made = rw c.in-ClearPack.is (only_in_pack (λ k. StepsFrom g.S.Store k old new c.clear_placed.result (λ t. ⊤) (λ t u. Cleared t u × FreesPlaces t u)) (λ file clean is asks. c.clear_placed.ensures.cleared file clean is));
      kept = rw c.in-ClearPack.is (only_in_pack (λ k. HasCleanDisk (state g.S.Store new) → IsReady k (state g.S.Store old) → ⊤ → KeepsCommit (state g.S.Store old) (state g.S.Store new)) (λ file clean is asks. c.clear_placed.ensures.kept file clean is));
      same_reference = c.clear_placed.ensures.same_reference;
      survives = c.clear_placed.ensures.survives;
    }

pub change_session-requires : goal.change_session-requires
change_session-requires g c = record { fits = rw c.in-Session.is at c.requires.fits }

pub returns-in-Session : goal.returns-in-Session
returns-in-Session g c = record {
  made = rw c.in-Session.is (c.change_session.ensures.made);
  kept = rw c.in-Session.is (λ l suits clean is asks. c.change_session.ensures.kept l suits clean is);
  same_reference = c.change_session.ensures.same_reference;
  survives = c.change_session.ensures.survives;
}
