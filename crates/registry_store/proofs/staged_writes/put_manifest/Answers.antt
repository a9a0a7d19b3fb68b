use Rattle.std.proofs.Common.{◌≡◌, true}
use Rattle.sqlite.specs.Held.{state}
use Rattle.store_statements.specs.Held.{held}
use Rattle.store_bytes.specs.Staging.{runs_staged}
use Rattle.registry_model.specs.Ask.{text_in}
use Rattle.registry_model.specs.Lookups.{put_manifest}
use Rattle.registry_model.specs.World.{has_repo}
use Rattle.registry_store.proofs.StagedCalls.{put_known, put_left, put_made, put_wanted, puts_all, unstaged_known, unstaged_left, unstaged_stayed}
use Rattle.registry_store.proofs.staged_writes.put_manifest.Goals as goal

pub returns-in_err-staged-clause-memory : goal.returns-in_err-staged-clause-memory
returns-in_err-staged-clause-memory g c asks clean is wanting = unstaged_stayed g.S.Store g.C.Contents g.C.Contents.remembers_spared c.args.conn.now c.args.contents.now c.stage.new.self (record { bytes = c.stage.ensures.bytes; spares = c.stage.ensures.spares; names = c.stage.ensures.names }) is

pub returns-in_err-staged-clause-crash : goal.returns-in_err-staged-clause-crash
returns-in_err-staged-clause-crash g c asks clean is =
    unstaged_left g.S.Store g.C.Contents g.C.Contents.remembers_spared c.args.conn.now c.args.contents.now c.stage.new.self (record { bytes = c.stage.ensures.bytes; spares = c.stage.ensures.spares; names = c.stage.ensures.names }) is g.C.Contents.lasts g.met.S.Store.settled (λ w. put_manifest w c.args.repo.now c.args.digest.now c.args.bytes.now (text_in c.args.tag)) c.from_residual.result c.from_residual.ensures.0

pub returns-in_err-staged-clause-known : goal.returns-in_err-staged-clause-known
returns-in_err-staged-clause-known g c asks knows clean is off =
    unstaged_known g.S.Store g.C.Contents g.C.Contents.remembers_spared c.args.conn.now c.args.contents.now c.stage.new.self (record { bytes = c.stage.ensures.bytes; spares = c.stage.ensures.spares; names = c.stage.ensures.names }) is c.args.known.now knows

pub returns-clause-made : goal.returns-clause-made
returns-clause-made g c asks clean is =
    put_made g.S.Store g.C.Contents c.args.conn.now c.make_counted-put.new.conn c.args.contents.now c.stage.new.self c.settle.new.contents c.in_ok-staged.staged c.args.bytes.now (record { bytes = c.stage.ensures.bytes; spares = c.stage.ensures.spares; names = c.stage.ensures.names }) c.in_ok-staged.ensures.spared
    c.in_ok-staged.ensures.clear c.settle.ensures.given (λ is. c.stage.ensures.clean (c.settle.ensures.clean is)) c.make_counted-put.ensures.survives c.in_ok-staged.ensures.staged c.in_ok-staged.ensures.lasting
    (λ w. has_repo w c.args.repo.now ≡ true) c.make_counted-put.result c.settle.result c.settle.ensures.answer asks clean is
    (λ w. put_manifest w c.args.repo.now c.args.digest.now c.args.bytes.now (text_in c.args.tag)) c.settle.ensures.came
    (λ m it has. c.make_counted-put.ensures.made m (c.source-source.ensures.suits m it) has)
    (λ m it has clean is. puts_all c.source-source.result (runs_staged c.in_ok-staged.staged) c.make_counted-put.result (held m (state g.S.Store c.args.conn.now)) (held m (state g.S.Store c.make_counted-put.new.conn)) c.source-source.ensures.runs (c.make_counted-put.ensures.places m (c.source-source.ensures.suits m it) has clean is))

pub returns-clause-memory : goal.returns-clause-memory
returns-clause-memory g c asks clean is wanting =
    put_wanted g.S.Store g.C.Contents c.args.conn.now c.make_counted-put.new.conn c.args.contents.now c.stage.new.self c.settle.new.contents c.in_ok-staged.staged c.args.bytes.now (record { bytes = c.stage.ensures.bytes; spares = c.stage.ensures.spares; names = c.stage.ensures.names }) c.in_ok-staged.ensures.spared
    c.in_ok-staged.ensures.clear c.settle.ensures.given (λ is. c.stage.ensures.clean (c.settle.ensures.clean is)) c.make_counted-put.ensures.survives c.in_ok-staged.ensures.staged c.in_ok-staged.ensures.lasting
    (λ w. has_repo w c.args.repo.now ≡ true) c.make_counted-put.result c.settle.result c.settle.ensures.answer asks clean is
    (λ m it has. c.make_counted-put.ensures.memory m (c.source-source.ensures.suits m it) has) wanting

pub returns-clause-crash : goal.returns-clause-crash
returns-clause-crash g c asks clean is =
    put_left g.S.Store g.C.Contents c.args.conn.now c.make_counted-put.new.conn c.args.contents.now c.stage.new.self c.settle.new.contents c.in_ok-staged.staged c.args.bytes.now (record { bytes = c.stage.ensures.bytes; spares = c.stage.ensures.spares; names = c.stage.ensures.names }) c.in_ok-staged.ensures.spared
    c.in_ok-staged.ensures.clear c.settle.ensures.given (λ is. c.stage.ensures.clean (c.settle.ensures.clean is)) c.make_counted-put.ensures.survives c.in_ok-staged.ensures.staged c.in_ok-staged.ensures.lasting
    (λ w. has_repo w c.args.repo.now ≡ true) c.make_counted-put.result c.settle.result c.settle.ensures.answer asks clean is (λ w. put_manifest w c.args.repo.now c.args.digest.now c.args.bytes.now (text_in c.args.tag))
    (λ m it has. c.make_counted-put.ensures.crash m (c.source-source.ensures.suits m it) has)

pub returns-clause-known : goal.returns-clause-known
returns-clause-known g c asks knows clean is off =
    put_known g.S.Store g.C.Contents c.args.conn.now c.make_counted-put.new.conn c.args.contents.now c.stage.new.self c.settle.new.contents c.in_ok-staged.staged c.args.bytes.now (record { bytes = c.stage.ensures.bytes; spares = c.stage.ensures.spares; names = c.stage.ensures.names }) c.in_ok-staged.ensures.spared
    c.in_ok-staged.ensures.clear c.settle.ensures.given (λ is. c.stage.ensures.clean (c.settle.ensures.clean is)) c.make_counted-put.ensures.survives c.in_ok-staged.ensures.staged c.in_ok-staged.ensures.lasting
    (λ w. has_repo w c.args.repo.now ≡ true) c.make_counted-put.result c.settle.result c.settle.ensures.answer asks clean is c.args.known.now c.make_counted-put.new.known
    (λ m it k has. c.make_counted-put.ensures.known m (c.source-source.ensures.suits m it) k has has) knows off
