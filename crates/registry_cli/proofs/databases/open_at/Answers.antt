use Rattle.std.proofs.Common.{Bool, subst}
use Rattle.sqlite.specs.Files.{file_state}
use Rattle.sqlite_wal.specs.Files.{image_at}
use Rattle.store_statements.proofs.CleanBefore.{was_clean}
use Rattle.registry_store.proofs.FilesFound.{found_now, idle}
use Rattle.layout_opening.specs.Opening.{IsOpenedAs, layout_in}
use Rattle.registry_cli.proofs.databases.open_at.Goals as goal

pub open_layout-requires : goal.open_layout-requires
open_layout-requires g c = record {
  ours = λ clean.
      let s = file_state c.in-Ok.conn in
      let it = c.in-Ok.ensures.opened clean in (
        idle s it.0,
        g.met.F.WrittenBeside.were_ours s.now (it.1 it.0.is_open).0 (found_now (image_at g.F.Start) s it.0 (c.in-Ok.ensures.found clean)),
      );
}

pub returns-in-Ok-open_layout-clause-found : goal.returns-in-Ok-open_layout-clause-found
returns-in-Ok-open_layout-clause-found g c clean =
    let s = file_state c.in-Ok.conn in
    let early = was_clean c.in-Ok-open_layout.ensures.survives clean in
    let it = c.in-Ok.ensures.opened early in
    let store = c.in-Ok-open_layout.store in (
      s.now,
      (it.1 it.0.is_open).0,
      found_now (image_at g.F.Start) s it.0 (c.in-Ok.ensures.found early),
      subst (λ (beside : Bool). IsOpenedAs g.P.Start.db beside s.now (layout_in store.contents) (file_state store.conn).now) c.is_beside.ensures
          (c.in-Ok-open_layout.ensures.opened clean),
    )
