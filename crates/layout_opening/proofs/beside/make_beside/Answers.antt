use Rattle.std.proofs.Common.{◌≡◌, subst, sym}
use Rattle.sqlite.specs.State.{HasCleanDisk}
use Rattle.sqlite.specs.Held.{state}
use Rattle.registry_model.specs.World.{no_world}
use Rattle.registry_pack.specs.Pack.{file_of}
use Rattle.store_contents.specs.Places.{place_rows}
use Rattle.store_pack.specs.Contents.{IsSpared}
use Rattle.store_statements.proofs.CleanBefore.{was_clean}
use Rattle.store_statements.specs.Held.{world_in}
use Rattle.registry_store.proofs.NewPack.{new_names, none_named}
use Rattle.layout_opening.specs.Opening.{layout_in}
use Rattle.layout_opening.proofs.beside.make_beside.Goals as goal

pub over-requires : goal.over-requires
over-requires g c = record {
  ours = λ ours clean.
      let s = state g.S.Store c.create_tables.new.conn in
      let pack = c.in-Ok.contents.pack in
      let known = c.requires.ours (was_clean c.create_tables.ensures.survives clean.0) in
      let made = c.in-Ok-create_tables.ensures.made clean.0 known.1 in
      record {
        settled = (made.settles (g.D.Disk.seen (file_of pack))).0;
        spared = none_named (IsSpared pack) (place_rows s.now) made.places;
        named = new_names s.now pack c.args.mark made.says c.in-Ok.ensures.mark c.in-Ok.ensures.age;
      };
}

pub returns-in-Ok-create_tables-clause-made : goal.returns-in-Ok-create_tables-clause-made
returns-in-Ok-create_tables-clause-made g c =
    subst (λ h. HasCleanDisk (state g.S.Store h) → world_in (layout_in c.over.result.contents) (state g.S.Store h) ≡ no_world) (sym c.over.ensures.conn)
    (λ clean.
    let known = c.requires.ours (was_clean c.create_tables.ensures.survives clean) in
    let made = c.in-Ok-create_tables.ensures.made clean known.1 in
    subst (λ e. world_in (layout_in e) (state g.S.Store c.create_tables.new.conn) ≡ no_world) (sym c.over.ensures.contents)
    (made.settles (g.D.Disk.seen (file_of c.in-Ok.contents.pack))).1)
