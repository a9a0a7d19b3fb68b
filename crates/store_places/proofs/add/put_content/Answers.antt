use Rattle.std.proofs.Common.{◌≡◌, ◌∙◌, ap, arith, rules, pos, to_z, w64, SFits, sym, subst}
use Rattle.std.proofs.lemmas.Int.{ints, to_z-of_z}
use Rattle.sqlite.specs.Held.{state}
use Rattle.sqlite.specs.declared.types.Value.TheVariants.{Int}
use Rattle.store_places.specs.Places.{PutsContent}
use Rattle.store_places.proofs.AddLemmas.{content_put, content_holds}
use Rattle.store_places.proofs.add.put_content.Goals as goal

pub returns-in-Ok-clause-put : goal.returns-in-Ok-clause-put
returns-in-Ok-clause-put g c clean is =
    let whole : to_z w64 c.args.size ≡ pos c.args.size = omega (arith, ints, c.requires.fits) in
    let range : SFits w64 c.last_insert_rowid.result = search rules in
    let old = state g.S.Store c.args.tx.now.conn.now in
    let new = state g.S.Store c.execute.new.self.conn.now in
    let runs = c.in-Ok.ensures.runs clean is.inside in
    let ran = rw (c.params-to_sql.ensures, c.params-to_sql-2.ensures ∙ ap Int whole) at runs.0 in (
      subst (λ id. PutsContent old.now new.now id c.args.sha256.now c.args.size) (sym (c.new.ensures ∙ to_z-of_z w64 c.last_insert_rowid.result range ∙ c.last_insert_rowid.ensures))
          (content_put old new c.args.sha256.now c.args.size _ is.holds ran),
      record { inside = runs.1.mode; holds = content_holds old new c.args.sha256.now c.args.size _ is.holds ran },
    )
