use Rattle.sqlite.specs.State.{HasCleanDisk, Opens, IsLive}
use Rattle.sqlite.specs.Files.{file_state}
use Rattle.sqlite.specs.Start.{FindsIn}
use Rattle.sqlite.specs.WalFiles.{image_at}
use Rattle.registry_store.proofs.FilesFound.{told_of, may_take_up, opens_on}
use Rattle.registry_store.proofs.store.Store+FileStore+FileFrom+F.open_from.Goals as goal

pub adopt_or_close-requires : goal.adopt_or_close-requires
adopt_or_close-requires g c = record {
  ours =
      may_take_up (image_at g.F.Start) (file_state c.in-Ok.conn) g.met.F.Written.were_ours
      (told_of (λ conn. HasCleanDisk (file_state conn) → Opens (file_state conn) × IsLive (file_state conn)) c.open_from.result c.in-Ok.conn c.in-Ok.ensures.same c.open_from.ensures.opened)
      (told_of (λ conn. HasCleanDisk (file_state conn) → FindsIn (image_at g.F.Start) (file_state conn)) c.open_from.result c.in-Ok.conn c.in-Ok.ensures.same c.open_from.ensures.found);
}

pub returns-in-Ok : goal.returns-in-Ok
returns-in-Ok g c = record {
  found =
      opens_on (λ s. file_state s.conn) (image_at g.F.Start) (file_state c.in-Ok.conn)
      (told_of (λ conn. HasCleanDisk (file_state conn) → Opens (file_state conn) × IsLive (file_state conn)) c.open_from.result c.in-Ok.conn c.in-Ok.ensures.same c.open_from.ensures.opened)
      (told_of (λ conn. HasCleanDisk (file_state conn) → FindsIn (image_at g.F.Start) (file_state conn)) c.open_from.result c.in-Ok.conn c.in-Ok.ensures.same c.open_from.ensures.found)
      c.adopt_or_close.result c.adopt_or_close.ensures.made c.adopt_or_close.ensures.found c.adopt_or_close.ensures.survives;
  unspent = c.adopt_or_close.ensures.unspent;
  another = c.adopt_or_close.ensures.another;
}

pub returns-in-Err : goal.returns-in-Err
returns-in-Err g c = record { found = tt; unspent = tt; another = c.in-Err.ensures.another }
