use Rattle.sqlite.specs.Held.{state}
use Rattle.store_statements.proofs.Alone.{less}
use Rattle.store_contents.specs.Layouts.{InTables}
use Rattle.store_writes.proofs.ContentsFreed.{makes_cleared}
use Rattle.store_statements.proofs.Crashes.{crash_made}
use Rattle.std.proofs.Common.{refl}
use Rattle.store_writes.specs.Naming.{Cleared}
use Rattle.store_writes.proofs.content_clearing.clear.Goals as goal

pub returns : goal.returns
returns g c = record {
  made = λ clean is. less c.make.result (λ it. makes_cleared InTables (state g.S.Store c.args.conn.now) (state g.S.Store c.make.new.conn) is it) (c.make.ensures.made InTables tt (λ early. tt) clean is);
  freed = λ clean is. less c.make.result (λ it. it.1.contents) (c.make.ensures.made InTables tt (λ early. tt) clean is);
  memory = c.make.ensures.memory InTables tt (λ clean. tt);
  back = c.make.ensures.back InTables tt (λ clean. tt);
  crash = λ clean is. crash_made g.S.Store c.args.conn.now c.make.new.conn (λ w. w) c.args.conn.now (λ t u. Cleared t u) is (is, refl)
      (λ s it. makes_cleared InTables (state g.S.Store c.args.conn.now) s is it) c.make.result c.make.result (λ X x. x)
      (c.make.ensures.crash InTables tt (λ early. tt) clean is);
  survives = c.make.ensures.survives;
}

pub make-requires : goal.make-requires
make-requires g c = record { fits = tt }
