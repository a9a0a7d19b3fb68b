use Rattle.std.proofs.Common.{refl}
use Rattle.sqlite.specs.Files.{file_state}
use Rattle.layout_opening.specs.Opening.{layout_in}
use Rattle.registry_cli.specs.Databases.{is_beside}
use Rattle.registry_cli.proofs.databases.DatabasesOpenerFileRegistry.with_open.Goals as goal

pub returns-clause-worked : goal.returns-clause-worked
returns-clause-worked g c =
    let done = c.work-keeper in
    record {
      opening = record { path = c.args.path.now; first = c.in-Ok.store; last = done.result.keeper };
      just = λ l is. tt;
      is = (
        refl,
        λ honest.
            let before = done.ensures.honest honest in (
              (
                c.in-Ok.ensures.unspent,
                refl,
                is_beside c.args.layout,
                layout_in c.in-Ok.store.contents,
                (file_state c.in-Ok.store.conn).now,
                c.in-Ok.ensures.found before.0.0,
                refl,
              ),
              c.in-Ok.ensures.unspent,
              done.ensures.does honest,
            ),
      );
    }
