use Rattle.store_contents.specs.Places.{place_rows, runs_of}
use Rattle.sqlite.specs.Held.{state}
use Rattle.store_pack.proofs.ContentsLemmas.{spared_opened}
use Rattle.store_pack.proofs.pack_contents.PackContents.open.Goals as goal

pub returns-in-Ok-clause-spared : goal.returns-in-Ok-clause-spared
returns-in-Ok-clause-spared g c clean holds honest =
    let before = c.sync.ensures.kept.clean honest in
    spared_opened c.args.disk c.in_ok-pack.pack c.sync.new.self c.in_ok-pack.ensures.kept.seen c.in-Ok.ensures.lasting c.sync.ensures.kept.seen c.sync.ensures.space
    (runs_of (place_rows (state g.S.Store c.args.conn.now).now)) (c.in_ok-pack.ensures.there clean holds before) (c.in_ok-pack.ensures.spared clean holds before) (c.in_ok-pack.ensures.placed clean holds)
