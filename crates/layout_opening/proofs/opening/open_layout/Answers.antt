use Rattle.std.proofs.Common.{◌≡◌, ◌∙◌, None, Ok, false, refl, subst, sym}
use Rattle.std.specs.Prelude.{⊤}
use Rattle.sqlite.specs.State.{HasCleanDisk, Survives}
use Rattle.sqlite.specs.Held.{state}
use Rattle.registry_model.specs.World.{no_world}
use Rattle.registry_store.specs.Opening.{IsOurs}
use Rattle.store_contents.specs.Layouts.{InPack}
use Rattle.store_opening.specs.Opening.{HoldsRegistry, has_version_table}
use Rattle.store_schema.specs.Making.{IsEmptyWith}
use Rattle.store_schema.specs.Schema.{no_schema}
use Rattle.store_statements.proofs.CleanBefore.{was_clean}
use Rattle.store_statements.proofs.Transactions.{survives_all}
use Rattle.store_statements.specs.Held.{world_in}
use Rattle.pack_opening.specs.Making.{IsPackRegistry}
use Rattle.layout_opening.specs.Opening.{IsInPack, IsOpenedAs, layout_in}
use Rattle.layout_opening.proofs.OpeningLemmas.{begun_beside, idle_asked, if_ok, if_ok_three, is_bare, is_in_tables, is_none, is_pack, opened_beside, opened_tables}
use Rattle.layout_opening.proofs.opening.open_layout.Goals as goal

-- ---- what is handed on

pub open_beside-requires : goal.open_beside-requires
open_beside-requires g c = record {
  ours = λ clean.
      let old = state g.S.Store c.args.conn in
      let file = g.P.PackFile.bytes c.args.packs.now in
      let known = c.requires.ours (was_clean c.find_version.ensures.survives clean) in
      let asked = idle_asked g.S.Store c.args.conn c.find_version.new.conn known.0 (c.in-Ok.ensures.same clean) in
      let none : has_version_table old.now.schema ≡ false → c.in-Ok.version ≡ None = λ un. is_none (Ok c.in-Ok.version) (c.in-Ok.ensures.unmarked un).0 in (
        asked.0,
        subst (IsPackRegistry file) (sym asked.1)
            (is_pack file old.now c.in-Ok.version none (c.in-Ok.ensures.two clean) (c.in-Ok.ensures.three clean file) (c.in-Beside.ensures.beside refl) known.1),
      );
}

pub begin_beside-requires : goal.begin_beside-requires
begin_beside-requires g c = record {
  ours = λ clean.
      let old = state g.S.Store c.args.conn in
      let file = g.P.PackFile.bytes c.args.packs.now in
      let known = c.requires.ours (was_clean c.find_version.ensures.survives clean) in
      let asked = idle_asked g.S.Store c.args.conn c.find_version.new.conn known.0 (c.in-Ok.ensures.same clean) in
      let none : has_version_table old.now.schema ≡ false → c.in-Ok.version ≡ None = λ un. is_none (Ok c.in-Ok.version) (c.in-Ok.ensures.unmarked un).0 in (
        asked.0,
        subst (IsEmptyWith no_schema) (sym asked.1)
            (is_bare file old.now c.in-Ok.version none (c.in-Ok.ensures.two clean) (c.in-Ok.ensures.three clean file) (c.in-NewBeside.ensures.begun refl).0 known.1),
      );
}

pub take_up_tables-requires : goal.take_up_tables-requires
take_up_tables-requires g c = record {
  ours = λ clean.
      let old = state g.S.Store c.args.conn in
      let file = g.P.PackFile.bytes c.args.packs.now in
      let known = c.requires.ours (was_clean c.find_version.ensures.survives clean) in
      let asked = idle_asked g.S.Store c.args.conn c.find_version.new.conn known.0 (c.in-Ok.ensures.same clean) in
      let none : has_version_table old.now.schema ≡ false → c.in-Ok.version ≡ None = λ un. is_none (Ok c.in-Ok.version) (c.in-Ok.ensures.unmarked un).0 in (
        asked.0,
        subst IsOurs (sym asked.1)
            (is_in_tables file old.now c.in-Ok.version none (c.in-Ok.ensures.two clean) (c.in-Ok.ensures.three clean file) (c.in-Tables.ensures.tables refl).0 known.1),
      );
}

-- ---- what comes back

pub returns-in-Beside-clause-opened : goal.returns-in-Beside-clause-opened
returns-in-Beside-clause-opened g c =
    let old = state g.S.Store c.args.conn in
    let file = g.P.PackFile.bytes c.args.packs.now in
    if_ok_three (λ s. layout_in s.contents ≡ InPack file)
    (λ s. HasCleanDisk (state g.S.Store s.conn) → (state g.S.Store s.conn).now ≡ (state g.S.Store c.find_version.new.conn).now)
    (λ s. Survives (state g.S.Store c.find_version.new.conn) (state g.S.Store s.conn) (λ _. ⊤))
    (λ s. HasCleanDisk (state g.S.Store s.conn) → IsOpenedAs file c.args.is_new_beside old.now (layout_in s.contents) (state g.S.Store s.conn).now) c.open_beside.result
    (λ s layout found lasts clean.
    let early = was_clean lasts clean in
    let known = c.requires.ours (was_clean c.find_version.ensures.survives early) in
    let asked = idle_asked g.S.Store c.args.conn c.find_version.new.conn known.0 (c.in-Ok.ensures.same early) in
    let none : has_version_table old.now.schema ≡ false → c.in-Ok.version ≡ None = λ un. is_none (Ok c.in-Ok.version) (c.in-Ok.ensures.unmarked un).0 in
    opened_beside file old.now c.in-Ok.version none (c.in-Ok.ensures.two early) (c.in-Ok.ensures.three early file) c.args.is_new_beside (layout_in s.contents) (state g.S.Store s.conn).now
    (c.in-Beside.ensures.beside refl) layout (found clean ∙ asked.1))
    c.open_beside.ensures.layout c.open_beside.ensures.found c.open_beside.ensures.survives

pub returns-in-Beside-clause-survives : goal.returns-in-Beside-clause-survives
returns-in-Beside-clause-survives g c =
    let old = state g.S.Store c.args.conn in
    let mid = state g.S.Store c.find_version.new.conn in
    if_ok (λ s. Survives mid (state g.S.Store s.conn) (λ _. ⊤)) (λ s. Survives old (state g.S.Store s.conn) (λ _. ⊤)) c.open_beside.result
    (λ s lasts. survives_all old mid (state g.S.Store s.conn) (λ _. ⊥) (λ _. ⊤) c.find_version.ensures.survives lasts) c.open_beside.ensures.survives

pub returns-in-NewBeside-clause-opened : goal.returns-in-NewBeside-clause-opened
returns-in-NewBeside-clause-opened g c =
    let old = state g.S.Store c.args.conn in
    let file = g.P.PackFile.bytes c.args.packs.now in
    if_ok_three (λ s. IsInPack (layout_in s.contents))
    (λ s. HasCleanDisk (state g.S.Store s.conn) → world_in (layout_in s.contents) (state g.S.Store s.conn) ≡ no_world)
    (λ s. Survives (state g.S.Store c.find_version.new.conn) (state g.S.Store s.conn) (λ _. ⊤))
    (λ s. HasCleanDisk (state g.S.Store s.conn) → IsOpenedAs file c.args.is_new_beside old.now (layout_in s.contents) (state g.S.Store s.conn).now) c.begin_beside.result
    (λ s layout made lasts clean.
    let early = was_clean lasts clean in
    let none : has_version_table old.now.schema ≡ false → c.in-Ok.version ≡ None = λ un. is_none (Ok c.in-Ok.version) (c.in-Ok.ensures.unmarked un).0 in
    let begun = c.in-NewBeside.ensures.begun refl in
    begun_beside file old.now c.in-Ok.version none (c.in-Ok.ensures.two early) (c.in-Ok.ensures.three early file) c.args.is_new_beside (layout_in s.contents) (state g.S.Store s.conn).now
    begun.0 begun.1 layout (made clean))
    c.begin_beside.ensures.layout c.begin_beside.ensures.made c.begin_beside.ensures.survives

pub returns-in-NewBeside-clause-survives : goal.returns-in-NewBeside-clause-survives
returns-in-NewBeside-clause-survives g c =
    let old = state g.S.Store c.args.conn in
    let mid = state g.S.Store c.find_version.new.conn in
    if_ok (λ s. Survives mid (state g.S.Store s.conn) (λ _. ⊤)) (λ s. Survives old (state g.S.Store s.conn) (λ _. ⊤)) c.begin_beside.result
    (λ s lasts. survives_all old mid (state g.S.Store s.conn) (λ _. ⊥) (λ _. ⊤) c.find_version.ensures.survives lasts) c.begin_beside.ensures.survives

pub returns-in-Ok-take_up_tables-clause-opened : goal.returns-in-Ok-take_up_tables-clause-opened
returns-in-Ok-take_up_tables-clause-opened g c clean =
    let old = state g.S.Store c.args.conn in
    let file = g.P.PackFile.bytes c.args.packs.now in
    let s = c.in-Ok-take_up_tables.store in
    let is = c.in-Ok-take_up_tables.ensures in
    let early = was_clean is.survives clean in
    let known = c.requires.ours (was_clean c.find_version.ensures.survives early) in
    let asked = idle_asked g.S.Store c.args.conn c.find_version.new.conn known.0 (c.in-Ok.ensures.same early) in
    let none : has_version_table old.now.schema ≡ false → c.in-Ok.version ≡ None = λ un. is_none (Ok c.in-Ok.version) (c.in-Ok.ensures.unmarked un).0 in
    let choice = c.in-Tables.ensures.tables refl in
    opened_tables file old.now c.in-Ok.version none (c.in-Ok.ensures.two early) (c.in-Ok.ensures.three early file) c.args.is_new_beside (layout_in s.contents) (state g.S.Store s.conn).now choice.0
    choice.1 is.layout (λ bare. is.made clean (subst (IsEmptyWith no_schema) (sym asked.1) bare))
    (λ h. is.found clean asked.0 (subst HoldsRegistry (sym asked.1) h) ∙ asked.1)

pub returns-in-Ok-take_up_tables-clause-survives : goal.returns-in-Ok-take_up_tables-clause-survives
returns-in-Ok-take_up_tables-clause-survives g c =
    survives_all (state g.S.Store c.args.conn) (state g.S.Store c.find_version.new.conn) (state g.S.Store c.in-Ok-take_up_tables.store.conn) (λ _. ⊥) (λ _. ⊤) c.find_version.ensures.survives
    c.in-Ok-take_up_tables.ensures.survives
