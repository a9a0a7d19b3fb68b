-- What a statement on one of the three old tables makes of the tables.
use Rattle.std.proofs.Common.{◌≡◌, ◌∙◌, ℕ, List, [], ◌∷◌, Bool, not, Ok, refl, sym, ap, subst}
use Rattle.sqlite_trees.proofs.ListLemmas.{filter_same, all_weaker}
use Rattle.sqlite.specs.Order.{Row}
use Rattle.sqlite.specs.Table.{Table}
use Rattle.sqlite.specs.Term.{Term}
use Rattle.sqlite.specs.Effect.{Database}
use Rattle.sqlite.specs.State.{State, Executes}
use Rattle.store_schema.specs.OldSchema.{old_blobs_table, old_manifests_table, old_sessions_table}
use Rattle.store_schema.specs.Layout.{rows_of, tree_of, placed, Stands, Means, IsUnreferred, KeepsOthers}
use Rattle.store_schema.specs.Commands as commands
use Rattle.store_schema.proofs.Writes.{passes, deletes, removes, Removes, keeps_others}
use Rattle.store_contents.specs.Layouts.{InTables}
use Rattle.store_statements.specs.Tables.{Tables, Beside, AreTables, AreRows}
use Rattle.store_statements.specs.Changes.{without}
use Rattle.store_statements.specs.Known.{KnowsRegistry, AreApart, trees_of}
use Rattle.store_statements.specs.Held.{tables_in, beside_in, HoldsTables}
use Rattle.store_statements.proofs.OtherTables.{only_further, contents_beside_further}
use Rattle.store_migration.specs.Olds.{KnowsOld, old_of, rows_at}

-- ---- where the old rows stand

module _ (db : Database) (k : KnowsOld db.schema) where
  three : (tables_in InTables db).beside.rows ≡ rows_of db old_blobs_table ∷ rows_of db old_manifests_table ∷ rows_of db old_sessions_table ∷ []
  three = k.beside db.trees

  pub blobs_are : (old_of (tables_in InTables db)).blobs ≡ rows_of db old_blobs_table
  blobs_are = ap (λ rows. rows_at rows 0) three

  pub manifests_are : (old_of (tables_in InTables db)).manifests ≡ rows_of db old_manifests_table
  manifests_are = ap (λ rows. rows_at rows 1) three

  pub sessions_are : (old_of (tables_in InTables db)).sessions ≡ rows_of db old_sessions_table
  sessions_are = ap (λ rows. rows_at rows 2) three

-- ---- a further table is written

same_tables : (t : Tables) (beside : Beside) → AreTables t → AreTables (record t { beside = beside })
same_tables t beside a = record { repos = a.repos; grants = a.grants; tags = a.tags; blobs = a.blobs; manifests = a.manifests; uploads = a.uploads; pieces = a.pieces }

module _ (table : Table) (old new : Database) (h : HoldsTables InTables old) (apart : AreApart (tree_of old.schema table ∷ trees_of old.schema)) (keeps : KeepsOthers table old new) where
  pub further : (tables_in InTables new ≡ record (tables_in InTables old) { beside = beside_in new }) × HoldsTables InTables new
  further =
      let now = only_further old new h.known table apart keeps in (
        now,
        record {
          known = subst (KnowsRegistry InTables) (sym keeps.schema) h.known;
          contents = contents_beside_further old new h.known table apart keeps h.contents;
          tables = subst AreTables (sym now) (same_tables (tables_in InTables old) (beside_in new) h.tables);
        },
      )

-- the rows of the three, once they are known
pub besides : (old new : Database) (k : KnowsOld old.schema) → new.schema ≡ old.schema → (blobs manifests sessions : List Row) → rows_of new old_blobs_table ≡ blobs → rows_of new old_manifests_table ≡ manifests → rows_of new old_sessions_table ≡ sessions
    → beside_in new ≡ record { schema = old.schema; rows = blobs ∷ manifests ∷ sessions ∷ [] }
besides old new k schema blobs manifests sessions b m s = λ i. record {
  schema = schema i;
  rows = (k_new.beside new.trees ∙ (λ j. b j ∷ m j ∷ s j ∷ [])) i;
}
  where
    k_new : KnowsOld new.schema
    k_new = subst KnowsOld (sym schema) k

-- ---- a DELETE

pub record Takes (table : Table) (p : Row → Bool) (old new : Database) : Type 0 where
  pub keeps : KeepsOthers table old new
  pub rows : rows_of new table ≡ without p (rows_of old table)

pub takes : (table : Table) (Is : Row → Type 0) (same : Row → Row → Bool) (text : List ℕ) (terms : List Term) (params : Row) (p : Row → Bool) (old new : State) (n : ℕ) → (at : Stands old.now.schema table) → IsUnreferred old.now.schema table
    → AreRows Is same (rows_of old.now table) → Means old.now.schema text (commands.deletes at.at old.now.schema table terms) → ((r : Row) → Is r → passes params terms r ≡ p r) → Executes text params old new (Ok n) → Takes table p old.now new.now
takes table Is same text terms params p old new n at alone rows means test ran =
    let schema = old.now.schema in
    let it : Removes schema (placed schema table) (passes params terms) old new = removes schema (placed schema table) terms params old new n rows.ids alone (deletes schema at.at (placed schema table) at.place at.stored text terms params old new refl n ran means) in
    record {
      keeps = keeps_others table old.now new.now (tree_of schema table) refl it.ran.schema_is it.tables;
      rows = ap (λ s. new.now.trees (tree_of s table)) it.ran.schema_is ∙ it.rows ∙ filter_same _ _ _ (all_weaker Is _ (λ r is. ap not (test r is)) (rows_of old.now table) rows.types);
    }
