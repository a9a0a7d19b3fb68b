use Rattle.std.proofs.Common.{[]}
use Rattle.registry_pack.specs.Pack.{file_of}
use Rattle.store_contents.specs.Places.{place_rows, runs_of}
use Rattle.sqlite.specs.Held.{state}
use Rattle.store_pack.proofs.ContentsLemmas.{there_all}
use Rattle.store_pack.proofs.JointLemmas.{refused_kept}
use Rattle.store_pack.proofs.pack_contents.PackContentsContents.read.Goals as goal

pub returns-clause-found : goal.returns-clause-found
returns-clause-found g c honest all clean is =
    c.read_content.ensures.found clean honest is.holds.contents.rows (there_all c.args.self.now.pack (runs_of (place_rows (state g.S.Store c.args.conn.now).now)) all)

pub returns-clause-refuses : goal.returns-clause-refuses
returns-clause-refuses g c age it = refused_kept g.D.Disk (file_of c.args.self.now.pack) (file_of c.read_content.new.pack) c.read_content.ensures.pack (age, []) it
