-- Once no row is left in the tables of schema 1 and the version is raised, the tables are a registry's.
use Rattle.std.proofs.Common.{◌≡◌, ◌∙◌, ◌⊎◌, inl, inr, ℕ, List, [], ◌∷◌, length, true, false, refl, sym, ap, subst}
use Rattle.std.specs.List.{AllByRecursion}
use Rattle.sqlite.specs.Order.{Row}
use Rattle.sqlite.specs.Effect.{Database}
use Rattle.sqlite_trees.specs.declared.store.Store.{Ghosts}
use Rattle.sqlite.specs.Tree.{Trees}
use Rattle.sqlite.specs.State.{State, HasCleanDisk, Shows, Survives}
use Rattle.sqlite.specs.Held.{Held, state}
use Rattle.registry_model.specs.World.{World}
use Rattle.store_schema.specs.OldSchema.{old_blobs_table, old_manifests_table, old_sessions_table}
use Rattle.store_schema.specs.Layout.{tree_of}
use Rattle.store_contents.specs.Layouts.{InTables}
use Rattle.store_statements.specs.Tables.{Tables, IsEmptyBeside}
use Rattle.store_statements.specs.Changes.{changed}
use Rattle.store_statements.specs.Known.{trees_of, rows_beside}
use Rattle.store_statements.specs.Registry.{Agree}
use Rattle.store_statements.specs.World.{world_of}
use Rattle.store_statements.specs.Held.{IsReady, Becomes, SettlesOn, HoldsTables, held, tables_in, beside_in, reopened}
use Rattle.store_statements.proofs.CleanBefore.{was_clean}
use Rattle.store_statements.proofs.Crashes.{CrashLaw, left_open, none_more}
use Rattle.store_opening.specs.Opening.{IsIdle}
use Rattle.store_migration.specs.Migrating.{MigratedTo}
use Rattle.store_statements.proofs.Transactions.{commits, makes}
use Rattle.store_migration.specs.OldTables.{OldTables, no_old_tables}
use Rattle.store_migration.specs.Both.{world_of_both, AreBoth}
use Rattle.store_migration.specs.Moves.{with_version_two}
use Rattle.store_migration.proofs.Ends.{ends, version_raised}
use Rattle.store_migration.specs.Olds.{KnowsOld, old_of, rows_at}
use Rattle.store_migration.specs.Moving.{Moves, without_blobs, without_manifests, without_sessions}
use Rattle.store_migration.specs.declared.rewrite.MovedRows.{MovedRows}
use Rattle.store_migration.specs.Rewriting.{StandsFor, Rewrites, counts}

-- the further tables are the three, and they are empty
none_beside : (db : Database) → KnowsOld db.schema → old_of (tables_in InTables db) ≡ no_old_tables → IsEmptyBeside (beside_in db)
none_beside db known none = subst (λ (rows : List (List Row)). AllByRecursion (λ (rs : List Row). rs ≡ []) rows) (sym rows) (blobs, (manifests, (sessions, tt)))
  where
    rows : rows_beside db.trees (trees_of db.schema) db.schema.tables ≡ db.trees (tree_of db.schema old_blobs_table) ∷ db.trees (tree_of db.schema old_manifests_table) ∷ db.trees (tree_of db.schema old_sessions_table) ∷ []
    rows = known.beside db.trees

    blobs : db.trees (tree_of db.schema old_blobs_table) ≡ []
    blobs = sym (ap (λ (rs : List (List Row)). rows_at rs 0) rows) ∙ ap (λ (o : OldTables). o.blobs) none

    manifests : db.trees (tree_of db.schema old_manifests_table) ≡ []
    manifests = sym (ap (λ (rs : List (List Row)). rows_at rs 1) rows) ∙ ap (λ (o : OldTables). o.manifests) none

    sessions : db.trees (tree_of db.schema old_sessions_table) ≡ []
    sessions = sym (ap (λ (rs : List (List Row)). rows_at rs 2) rows) ∙ ap (λ (o : OldTables). o.sessions) none

-- each row of the three tables is moved
abbrev pub without_rows : OldTables → OldTables
without_rows old = without_sessions (without_manifests (without_blobs old))

module _ (first last : State) (moved : Moves without_rows (held InTables first) (held InTables last)) where
  both : AreBoth no_old_tables (held InTables last)
  both = subst (λ (o : OldTables). AreBoth o (held InTables last)) moved.left moved.underway.both

  abbrev raised : List Row
  raised = changed (λ r. true) with_version_two (held InTables last).version

  stands : StandsFor (record (held InTables last) { version = raised }) (world_of_both (old_of (held InTables first)) (held InTables first))
  stands = record {
    world = ap (λ (o : OldTables). world_of_both o (held InTables last)) (sym moved.left) ∙ moved.world;
    registry = ends (held InTables last) raised (held InTables last).beside both (version_raised (held InTables last).version both.version) (none_beside last.now moved.underway.olds.known moved.left);
  }

  pub rewritten : (new : State) → Becomes InTables new (record (held InTables last) { version = changed (λ r. true) with_version_two (held InTables last).version }) → IsReady InTables new × Rewrites (held InTables first) (held InTables new)
  rewritten new h = (h.0, subst (λ (t : Tables). StandsFor t (world_of_both (old_of (held InTables first)) (held InTables first))) (sym h.1) stands)

pub all_counted : (first second third : Tables) (b m s : ℕ) → Moves without_blobs first second → Moves without_manifests second third → b ≡ length (old_of first).blobs → m ≡ length (old_of second).manifests → s ≡ length (old_of third).sessions
    → ◌≡◌ {A = MovedRows} (record { blobs = b; manifests = m; sessions = s }) (counts (old_of first))
all_counted first second third b m s blobs manifests p q r = λ i. record {
  blobs = p i;
  manifests = (q ∙ ap (λ (o : OldTables). length o.manifests) blobs.left) i;
  sessions = (r ∙ ap (λ (o : OldTables). length o.sessions) (manifests.left ∙ ap without_manifests blobs.left)) i;
}

-- and once it is committed it is settled
pub settles : (mid end : State) (w : World) → IsReady InTables mid × StandsFor (held InTables mid) w → Shows mid end mid.now mid.now false → SettlesOn InTables end w
settles mid end w it shows = makes end (held InTables mid) w (commits mid end (held InTables mid) (it.0, refl) shows) (it.1.world, it.1.registry)

-- ---- what a crash leaves

again : (db : Database) (w : World) → HoldsTables InTables db → Agree (tables_in InTables db) → world_of (tables_in InTables db) ≡ w → SettlesOn InTables (reopened db) w
again db w holds agree world = (record { is_open = refl; autocommit = refl; committed = refl; holds = holds; agree = agree }, world)

-- what was committed
pub left_done : {S : Type 0} (g : Ghosts S) → CrashLaw g → (end : Held S) (w : World) → SettlesOn InTables (state g end) w → (trees : Trees) → (state g end).may_leave trees → MigratedTo w trees
left_done g law end w it trees may = ((state g end).now, left_open g law end it.0.is_open it.0.committed trees may, again (state g end).now w it.0.holds it.0.agree it.1)

module _ {S : Type 0} (g : Ghosts S) (law : CrashLaw g) (old : Held S) (idle : IsIdle (state g old)) where
  -- nothing was committed
  pub left_unmade : (trees : Trees) → (state g old).may_leave trees → trees ≡ (state g old).now.trees
  left_unmade trees may = left_open g law old idle.is_open idle.committed trees may

  pub left_given_up : (new : State) → Survives (state g old) new (λ _. ⊥) → HasCleanDisk new → (trees : Trees) → new.may_leave trees → trees ≡ (state g old).now.trees
  left_given_up new it clean trees may = left_unmade trees (none_more (it.crash clean trees may))

  -- the commit failed, and may have been made
  pub left_tried : (mid new : State) (w : World) → Survives (state g old) mid (λ _. ⊥) → Survives mid new (λ db. db ≡ mid.now.trees) → HasCleanDisk new → IsReady InTables mid × StandsFor (held InTables mid) w
      → (trees : Trees) → new.may_leave trees → (trees ≡ (state g old).now.trees) ⊎ MigratedTo w trees
  left_tried mid new w worked tried clean it trees may = elim (tried.crash clean trees may) [
    | inl earlier ↦ inl (left_given_up mid worked (was_clean tried clean) trees earlier)
    | inr e ↦ inr (mid.now, e, again mid.now w it.0.holds it.1.registry.agree it.1.world)
  ]
