use Rattle.sqlite.specs.Held.{state}
use Rattle.sqlite.specs.Order.{column}
use Rattle.store_contents.specs.Layouts.{Layout, InTables}
use Rattle.store_statements.specs.Held.{held}
use Rattle.store_statements.proofs.ReadRows.{reads}
use Rattle.store_statements.proofs.Executed.{given}
use Rattle.std.proofs.Common.{◌≡◌, [], ◌∷◌, map, filter, refl}
use Rattle.store_statements.proofs.SelectedRows.{mapped}
use Rattle.store_statements.specs.Keys.{on_subject}
use Rattle.sqlite_keyed.specs.Lists.{sort_by}
use Rattle.store_statements.specs.ManifestShown.{by_second, referrer, referrer_shown}
use Rattle.store_statements.proofs.ManifestReads.{subject_shown}
use Rattle.store_statements.proofs.subjects.manifests_on_subject.Goals as goal

pub returns : goal.returns
returns g c =
    let old = state g.S.Store c.args.conn.now in
    let new = state g.S.Store c.query_all-shown.new.self in
    let it = λ (l : Layout).
    let xs = sort_by by_second (filter (on_subject c.args.repo.now c.args.digest.now) (held l old).manifests) in
    reads g.S.Store c.args.conn.now c.query_all-shown.new.self c.checked.new.conn _ _ c.query_all-shown.result c.query_all-shown.ensures.ok c.query_all-shown.ensures.err
    (λ rows found. found.items ≡ map referrer_shown rows) c.all-found.result c.checked.result c.all-found.ensures c.checked.ensures.told {l = l}
    _ c.query_all-shown.ensures.survives (λ is. is.holds.known.manifest_texts.subject.plain) _ (given c.params-to_sql.ensures (given c.params-to_sql-2.ensures refl))
    (λ v. v.items ≡ map referrer xs) (λ rows. rows.items ≡ map (λ r. column r 2 ∷ column r 6 ∷ []) xs)
    (λ holds ran. subject_shown old new c.args.repo.now c.args.digest.now c.query_all-shown.result holds c.requires.digest ran)
    (λ rows v q p. mapped referrer_shown (λ r. column r 2 ∷ column r 6 ∷ []) xs rows.items v.items q p) in
    record { found = λ l. (it l).0; settled = λ l. (it l).1; survives = (it InTables).2 }
