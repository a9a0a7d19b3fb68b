use Rattle.sqlite.specs.Held.{state}
use Rattle.store_statements.proofs.Alone.{less}
use Rattle.store_contents.specs.Layouts.{InPack}
use Rattle.store_writes.proofs.ContentsFreed.{makes_cleared}
use Rattle.store_statements.proofs.Crashes.{crash_made}
use Rattle.std.proofs.Common.{ap, refl}
use Rattle.store_statements.specs.Tables.{Tables}
use Rattle.store_writes.specs.Naming.{Cleared, FreesPlaces}
use Rattle.store_writes.proofs.pack_clearing.clear_pack.Goals as goal

pub returns : goal.returns
returns g c =
    let old = state g.S.Store c.args.conn.now in
    record {
      made = λ file clean is. less c.make.result (λ it. makes_cleared (InPack file) old (state g.S.Store c.make.new.conn) is (it.0, it.1.0)) (c.make.ensures.made (InPack file) tt (λ early. tt) clean is);
      freed = λ file clean is. less c.make.result (λ it. it.1.0.contents) (c.make.ensures.made (InPack file) tt (λ early. tt) clean is);
      places = λ file clean is. less c.make.result (λ it. it.1.1) (c.make.ensures.made (InPack file) tt (λ early. tt) clean is);
      beside = λ file clean is. less c.make.result (λ it. ap (λ (t : Tables). t.beside) it.1.0.others) (c.make.ensures.made (InPack file) tt (λ early. tt) clean is);
      memory = λ file. c.make.ensures.memory (InPack file) tt (λ clean. tt);
      back = λ file. c.make.ensures.back (InPack file) tt (λ clean. tt);
      crash = λ file clean is. crash_made g.S.Store c.args.conn.now c.make.new.conn (λ w. w) c.args.conn.now (λ t u. Cleared t u × FreesPlaces t u) is (is, refl)
          (λ s it. makes_cleared (InPack file) old s is (it.0, it.1.0)) c.make.result c.make.result (λ X x. x)
          (c.make.ensures.crash (InPack file) tt (λ early. tt) clean is);
      survives = c.make.ensures.survives;
    }

pub make-requires : goal.make-requires
make-requires g c = record { fits = tt }
