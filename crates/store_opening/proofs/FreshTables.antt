-- The tables that were just made have no row, and stand for the empty world.
use Rattle.std.proofs.Common.{◌≡◌, ◌∙◌, ℤ, pos, List, [], ◌∷◌, ◌++◌, false, Ok, Err, Result, OnOk, sym, ap, subst, refl}
use Rattle.std.specs.Prelude.{find, option_map, IsTrue}
use Rattle.std.specs.List.{AllByRecursion}
use Rattle.sqlite.specs.declared.types.Value.TheVariants.{Int}
use Rattle.sqlite.specs.Order.{Row}
use Rattle.sqlite.specs.Tree.{Trees, has_rowid}
use Rattle.sqlite.specs.Schema.{Schema}
use Rattle.sqlite.specs.Table.{Table}
use Rattle.sqlite.specs.Effect.{Database}
use Rattle.store_schema.specs.Schema.{fresh_schema, version_table, repos_table, grants_table, tags_table, contents_table, blob_links_table, manifest_links_table, uploads_table, pieces_table}
use Rattle.store_schema.specs.Layout.{tree_of, rows_of}
use Rattle.store_schema.specs.Making.{IsEmptyWith}
use Rattle.store_schema.specs.Rows.{bytes_at, PutsRow}
use Rattle.store_schema.proofs.Fresh.{version_tree, repos_tree, grants_tree, tags_tree, contents_tree, blob_links_tree, manifest_links_tree, uploads_tree, pieces_tree}
use Rattle.store_contents.proofs.Fresh.{empty_holds}
use Rattle.store_contents.specs.Layouts.{InTables}
use Rattle.store_statements.specs.Tables.{Tables, AreTables, IsEmptyBeside, new_tables}
use Rattle.store_statements.specs.Registry.{IsOfSchemaTwo}
use Rattle.store_statements.proofs.NewTables.{are_new, agree_new}
use Rattle.sqlite_schema.specs.Names.{same_name}
use Rattle.store_statements.specs.Known.{KnowsRegistry, trees_of, rows_beside}
use Rattle.store_statements.specs.Held.{tables_in, beside_in, held, HoldsTables, IsReady, SettlesOn}
use Rattle.store_statements.specs.Steps.{VersionComes, IsNew}
use Rattle.store_statements.proofs.Transactions.{commits, makes}
use Rattle.registry_model.specs.World.{no_world}
use Rattle.sqlite.specs.State.{State, Shows}
use Rattle.store_opening.proofs.FreshKnown.{knows_registry}

-- no further table is in it
none_further : (trees : Trees) → rows_beside trees (trees_of fresh_schema) fresh_schema.tables ≡ []
unfolding same_name
none_further trees = refl

module _ (db : Database) (it : IsEmptyWith fresh_schema db) where
  none_in : (table : Table) (tree : Rattle.std.proofs.Common.ℕ) → tree_of fresh_schema table ≡ tree → db.trees tree ≡ [] → rows_of db table ≡ []
  none_in table tree is none = ap (λ s. db.trees (tree_of s table)) it.schema_is ∙ ap db.trees is ∙ none

  pub no_rows : tables_in InTables db ≡ new_tables [] (beside_in db)
  no_rows = λ i. record {
    number = 2;
    version = none_in version_table 0 version_tree it.empty.0 i;
    repos = none_in repos_table 1 repos_tree it.empty.1.0 i;
    grants = none_in grants_table 3 grants_tree it.empty.1.1.0 i;
    tags = none_in tags_table 5 tags_tree it.empty.1.1.1.0 i;
    contents = λ id. option_map (λ r. bytes_at r 4) (find (has_rowid id) (none_in contents_table 7 contents_tree it.empty.1.1.1.1.0 i));
    places = [];
    packs = [];
    blobs = none_in blob_links_table 8 blob_links_tree it.empty.1.1.1.1.1.0 i;
    manifests = none_in manifest_links_table 10 manifest_links_tree it.empty.1.1.1.1.1.1.0 i;
    uploads = none_in uploads_table 12 uploads_tree it.empty.1.1.1.1.1.1.1.0 i;
    pieces = none_in pieces_table 14 pieces_tree it.empty.1.1.1.1.1.1.1.1.0 i;
    beside = beside_in db;
  }

  pub empty_beside : IsEmptyBeside (beside_in db)
  empty_beside = subst (λ (ts : List (List Row)). AllByRecursion (λ (rows : List Row). rows ≡ []) ts) (sym (ap (λ (s : Schema). rows_beside db.trees (trees_of s) s.tables) it.schema_is ∙ none_further db.trees)) tt

  pub holds_none : HoldsTables InTables db
  holds_none = record { known = subst (KnowsRegistry InTables) (sym it.schema_is) knows_registry; contents = empty_holds db it; tables = subst AreTables (sym no_rows) (are_new [] (beside_in db)) }

-- the row that came is the only one
alone_said : (before after : List Row) (id : ℤ) → before ++ after ≡ [] → IsOfSchemaTwo (before ++ (Int id ∷ Int (pos 2) ∷ []) ∷ after)
alone_said [] [] id e = refl
alone_said [] (r ∷ rs) id e = absurd cc
alone_said (r ∷ rs) after id e = absurd cc

pub came_two : (olds news : List Row) (id : ℤ) → PutsRow olds news id (Int (pos 2) ∷ []) → olds ≡ [] → IsOfSchemaTwo news
came_two olds news id p none = subst IsOfSchemaTwo (sym p.news_are) (alone_said p.before p.after id (sym p.olds_are ∙ none))

-- with the version they are new
pub is_new : (old new : State) → IsTrue old.in_transaction → IsEmptyWith fresh_schema old.now → (IsReady InTables old → VersionComes InTables old new) → IsNew InTables new
is_new old new inside it comes =
    let c = comes (record { inside = inside; holds = holds_none old.now it }) in
    let none = no_rows old.now it in
    let same : (held InTables new).beside ≡ (held InTables old).beside = ap (λ (t : Tables). t.beside) c.others in
    record {
      ready = c.ready;
      version = came_two (held InTables old).version (held InTables new).version c.id c.puts (ap (λ (t : Tables). t.version) none);
      beside = subst IsEmptyBeside (sym same) (empty_beside old.now it);
      tables = c.others ∙ ap (λ (t : Tables). record t { version = (held InTables new).version }) none ∙ ap (new_tables (held InTables new).version) (sym same);
    }

-- and once committed they stand for the empty world
pub makes_none : (mid end : State) → IsNew InTables mid → Shows mid end mid.now mid.now false → SettlesOn InTables end no_world
makes_none mid end n shows =
    let none = new_tables (held InTables mid).version (held InTables mid).beside in
    makes end none no_world (commits mid end none (n.ready, n.tables) shows) (refl, record { tables = are_new _ _; agree = agree_new _ _ n.version n.beside })

-- the same of the calls' results
pub then_new : {A E : Type 0} (old new : State) (r : Result A E) → IsTrue old.in_transaction → IsEmptyWith fresh_schema old.now → (IsReady InTables old → OnOk r (VersionComes InTables old new)) → OnOk r (IsNew InTables new)
then_new old new (Ok x) inside it comes = is_new old new inside it comes
then_new old new (Err e) inside it comes = tt
