use Rattle.std.proofs.Common.{◌∙◌, sym}
use Rattle.store_reads.proofs.SharedReads.{told_shared}
use Rattle.store_reads.proofs.blobs.blob.Goals as goal

pub returns : goal.returns
returns g c = record {
  found = λ readable clean is. told_shared c.blob_bytes-read.result c.shared.result _ c.shared.ensures.found (c.blob_bytes-read.ensures.found readable clean is);
  settled = λ clean is unfailed. c.blob_bytes-read.ensures.settled clean is (sym c.shared.ensures.storage ∙ unfailed);
  survives = c.blob_bytes-read.ensures.survives;
  same = c.blob_bytes-read.ensures.same;
}
