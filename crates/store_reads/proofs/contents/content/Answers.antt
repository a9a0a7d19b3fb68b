use Rattle.sqlite.specs.Held.{state}
use Rattle.store_statements.specs.Held.{held}
use Rattle.store_reads.proofs.Passing.{present_told}
use Rattle.store_reads.proofs.contents.content.Goals as goal

pub returns : goal.returns
returns g c = record {
  found = λ readable clean is.
      present_told ((held (g.C.Contents.layout c.args.contents.now) (state g.S.Store c.args.conn.now)).contents c.args.id.id) c.read.result c.present.result c.present.ensures.value
      (c.read.ensures.found readable.clean readable.spared clean is);
  settled = λ clean is unspent. c.read.ensures.settled clean is (c.present.ensures.storage unspent);
  survives = c.read.ensures.survives;
  same = record {
    layout = c.read.ensures.layout;
    crash = c.read.ensures.crash;
    clean = c.read.ensures.clean;
    spares = c.read.ensures.spares;
    remembers = c.read.ensures.remembers;
    names = c.read.ensures.names;
    refuses = c.read.ensures.refuses;
  };
}
