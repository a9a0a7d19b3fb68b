use Rattle.std.proofs.Common.{◌≡◌, ◌∙◌, ap, refl, subst, sym}
use Rattle.sqlite.specs.State.{HasCleanDisk}
use Rattle.sqlite.specs.Held.{state}
use Rattle.registry_model.specs.World.{no_world}
use Rattle.store_contents.specs.Layouts.{InTables}
use Rattle.store_schema.specs.Making.{IsEmptyWith}
use Rattle.store_schema.specs.Schema.{no_schema}
use Rattle.store_statements.specs.Held.{world_in}
use Rattle.layout_opening.proofs.tables.take_up_tables.Goals as goal

pub over-requires : goal.over-requires
over-requires g c = record {
  ours = λ ours clean.
      let it = c.into_parts-conn.ensures.ordered c.in-Ok.ensures.unspent refl clean in
      record { settled = it.settled; spared = tt; named = tt };
}

pub returns-in-Ok-clause-made : goal.returns-in-Ok-clause-made
returns-in-Ok-clause-made g c =
    subst (λ h. HasCleanDisk (state g.S.Store h) → IsEmptyWith no_schema (state g.S.Store c.args.conn).now → world_in InTables (state g.S.Store h) ≡ no_world)
    (sym (c.over.ensures.conn ∙ ap (λ p. p.0) c.into_parts-conn.ensures.same)) c.in-Ok.ensures.made
