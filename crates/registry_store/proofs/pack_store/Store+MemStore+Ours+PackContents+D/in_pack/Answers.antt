use Rattle.std.proofs.Common.{◌≡◌, sym, subst}
use Rattle.sqlite.proofs.Callers.{memory_is_clean}
use Rattle.sqlite.specs.Held.{state}
use Rattle.sqlite.specs.Steps.{over_memory}
use Rattle.registry_model.specs.World.{no_world}
use Rattle.registry_pack.specs.Pack.{file_of}
use Rattle.store_contents.specs.Layouts.{InPack}
use Rattle.store_contents.specs.Places.{place_rows}
use Rattle.store_pack.specs.Contents.{IsSpared}
use Rattle.store_statements.specs.Held.{world_in}
use Rattle.registry_store.proofs.NewPack.{new_names, none_named}
use Rattle.registry_store.proofs.pack_store.Store+MemStore+Ours+PackContents+D.in_pack.Goals as goal

pub over-requires : goal.over-requires
over-requires g c = record {
  ours = λ _ _.
      let s = state over_memory c.create_tables.new.conn in
      let pack = c.in-Ok-create.contents.pack in
      let made = c.in-Ok-create_tables.ensures.made (memory_is_clean c.create_tables.new.conn) (record { schema_is = c.in-Ok.ensures.empty.2; empty = tt }) in
      record {
        settled = (made.settles (g.D.Disk.seen (file_of pack))).0;
        spared = none_named (IsSpared pack) (place_rows s.now) made.places;
        named = new_names s.now pack c.args.mark made.says c.in-Ok-create.ensures.mark c.in-Ok-create.ensures.age;
      };
}

pub returns-in-Ok-create-clause-empty : goal.returns-in-Ok-create-clause-empty
returns-in-Ok-create-clause-empty g c =
    let made = c.in-Ok-create_tables.ensures.made (memory_is_clean c.create_tables.new.conn) (record { schema_is = c.in-Ok.ensures.empty.2; empty = tt }) in
    let file = g.D.Disk.seen (file_of c.over.result.contents.pack) in
    subst (λ h. world_in (InPack file) (state over_memory h) ≡ no_world) (sym c.over.ensures.conn) (made.settles file).1
