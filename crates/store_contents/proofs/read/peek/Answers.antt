use Rattle.std.proofs.Common.{◌≡◌, ◌⊎◌, ◌∙◌, ◌∷◌, [], ap, arith, rules, w64, SFits, IfErr, OnOk, subst}
use Rattle.std.specs.Prelude.{⊤}
use Rattle.std.proofs.lemmas.Int.{to_z-of_z}
use Rattle.sqlite.specs.State.{HasCleanDisk, IsUnchanged, IsRolledBack, Survives}
use Rattle.sqlite.specs.Held.{state}
use Rattle.sqlite.specs.Given.{HasBegun}
use Rattle.sqlite.specs.declared.types.Value.TheVariants.{Int}
use Rattle.store_schema.proofs.Selects.{query_survives, refused_leaves, survives_both, if_err}
use Rattle.store_contents.specs.Texts.{read_text}
use Rattle.store_contents.proofs.ReadLemmas.{reads_first, reads_same, reads_failed}
use Rattle.store_contents.proofs.Lasting.{lasts_then, refused_lasts}
use Rattle.store_contents.proofs.read.peek.Goals as goal

pub returns-in_err-rows-clause-failed : goal.returns-in_err-rows-clause-failed
returns-in_err-rows-clause-failed g c clean is =
    if_err c.from_residual.result ((refused_leaves g.S.Store read_text _ c.args.conn.now c.query.follows.lender-at-none c.query.result _ (λ _. is.known.texts.read.plain) c.in_err-rows.was c.query.follows.holds-at-none).0 clean)

pub returns-in_err-rows-clause-survives : goal.returns-in_err-rows-clause-survives
returns-in_err-rows-clause-survives g c is =
    (refused_leaves g.S.Store read_text _ c.args.conn.now c.query.follows.lender-at-none c.query.result _ (λ early. (is early).known.texts.read.plain) c.in_err-rows.was c.query.follows.holds-at-none).1

pub returns-clause-found : goal.returns-clause-found
returns-clause-found g c clean is =
    let late : HasCleanDisk (state g.S.Store c.first_copied.new.rows.conn.now) = search rules in
    let mid : HasCleanDisk (state g.S.Store c.in_ok-rows.rows.conn.now) = omega (arith, c.first_copied.ensures.survives.clean) in
    let range : SFits w64 c.args.id = search rules in
    let begun : HasBegun g.S.Store read_text (Int c.args.id ∷ []) c.args.conn.now c.in_ok-rows.rows.conn.now = rw (c.params-to_sql.ensures ∙ ap Int (to_z-of_z w64 c.args.id range)) at (c.in_ok-rows.ensures.begun mid) in
    reads_first g.S.Store c.args.conn.now c.in_ok-rows.rows.conn.now c.first_copied.new.rows.conn.now c.args.id c.first_copied.result is begun (c.first_copied.ensures.same late) (c.first_copied.ensures.found late)

pub returns-clause-same : goal.returns-clause-same
returns-clause-same g c clean is =
    let late : HasCleanDisk (state g.S.Store c.first_copied.new.rows.conn.now) = search rules in
    let mid : HasCleanDisk (state g.S.Store c.in_ok-rows.rows.conn.now) = omega (arith, c.first_copied.ensures.survives.clean) in
    let range : SFits w64 c.args.id = search rules in
    let begun : HasBegun g.S.Store read_text (Int c.args.id ∷ []) c.args.conn.now c.in_ok-rows.rows.conn.now = rw (c.params-to_sql.ensures ∙ ap Int (to_z-of_z w64 c.args.id range)) at (c.in_ok-rows.ensures.begun mid) in
    let same : c.first_copied.new.rows.conn.now ≡ c.conn-2-1.given.0 = search rules in
    subst (λ h. OnOk c.first_copied.result (IsUnchanged (state g.S.Store c.args.conn.now) (state g.S.Store h))) same (reads_same g.S.Store c.args.conn.now c.in_ok-rows.rows.conn.now c.first_copied.new.rows.conn.now c.args.id c.first_copied.result is begun (c.first_copied.ensures.same late))

pub returns-clause-failed : goal.returns-clause-failed
returns-clause-failed g c clean is =
    let late : HasCleanDisk (state g.S.Store c.first_copied.new.rows.conn.now) = search rules in
    let mid : HasCleanDisk (state g.S.Store c.in_ok-rows.rows.conn.now) = omega (arith, c.first_copied.ensures.survives.clean) in
    let range : SFits w64 c.args.id = search rules in
    let begun : HasBegun g.S.Store read_text (Int c.args.id ∷ []) c.args.conn.now c.in_ok-rows.rows.conn.now = rw (c.params-to_sql.ensures ∙ ap Int (to_z-of_z w64 c.args.id range)) at (c.in_ok-rows.ensures.begun mid) in
    let same : c.first_copied.new.rows.conn.now ≡ c.conn-2-1.given.0 = search rules in
    subst (λ h. IfErr c.first_copied.result (λ _. IsUnchanged (state g.S.Store c.args.conn.now) (state g.S.Store h) ⊎ IsRolledBack (state g.S.Store c.args.conn.now) (state g.S.Store h))) same (reads_failed g.S.Store c.args.conn.now c.in_ok-rows.rows.conn.now c.first_copied.new.rows.conn.now c.args.id c.first_copied.result is begun (c.first_copied.ensures.failed late))

pub returns-clause-survives : goal.returns-clause-survives
returns-clause-survives g c is =
    let same : c.first_copied.new.rows.conn.now ≡ c.conn-2-1.given.0 = search rules in
    subst (λ h. Survives (state g.S.Store c.args.conn.now) (state g.S.Store h) (λ _. ⊥)) same
    (survives_both (state g.S.Store c.args.conn.now) (state g.S.Store c.in_ok-rows.rows.conn.now) (state g.S.Store c.first_copied.new.rows.conn.now)
    (query_survives read_text _ (state g.S.Store c.args.conn.now) (state g.S.Store c.in_ok-rows.rows.conn.now) (λ early. (is early).known.texts.read.plain) c.in_ok-rows.ensures.survives) c.first_copied.ensures.survives)

pub returns-in_err-rows-clause-lasts : goal.returns-in_err-rows-clause-lasts
returns-in_err-rows-clause-lasts g c = refused_lasts g.S.Store read_text _ c.args.conn.now c.query.follows.lender-at-none c.query.result _ c.in_err-rows.was c.query.follows.holds-at-none

pub returns-clause-lasts : goal.returns-clause-lasts
returns-clause-lasts g c =
    let same : c.first_copied.new.rows.conn.now ≡ c.conn-2-1.given.0 = search rules in
    subst (λ h. Survives (state g.S.Store c.args.conn.now) (state g.S.Store h) (λ _. ⊤)) same
    (lasts_then (state g.S.Store c.args.conn.now) (state g.S.Store c.in_ok-rows.rows.conn.now) (state g.S.Store c.first_copied.new.rows.conn.now) _ _ c.in_ok-rows.ensures.survives c.first_copied.ensures.survives)
