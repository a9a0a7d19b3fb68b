use Rattle.std.proofs.Common.{◌≡◌, length, take, drop, ◌∙◌, subst, arith, rules, length-take}
use Rattle.sqlite_disk.specs.Disk.{Holds}
use Rattle.std.proofs.lemmas.List.{drop_at, places, take_at}
use Rattle.registry_pack.proofs.ContentLemmas.{piece_is}
use Rattle.registry_pack.proofs.content.read_piece.Goals as goal

pub returns-clause-read : goal.returns-clause-read
returns-clause-read g c =
    let es = c.args.extents.now in
    let n = c.min-n.result in
    let run = c.in-Some.ensures.run in
    let old = c.args.buf.now in
    let piece = c.read_at.new.buf in
    let room : length (take n old) ≡ n = omega (arith, length-take n old) in
    let size : length piece ≡ n = search (rules, places) in
    let file = g.D.Disk.seen c.args.disk.now in
    record {
      fits = omega arith;
      length = search (rules, places);
      some = λ _. omega (arith, run.some);
      within = λ _. omega (arith, run.within);
      none = λ ended. absurd (omega (arith, run.some, run.within));
      bytes = λ clean within.
          take_at piece (drop n old) n size
          ∙ piece_is file es c.args.from c.in-Some.run' piece n run (omega arith) size
          (subst (λ a. Holds file a piece) c.at.ensures.at (c.in_ok-read_at.ensures.read clean (omega (arith, room, run.some)))) within;
      rest = drop_at piece (drop n old) n size;
    }
