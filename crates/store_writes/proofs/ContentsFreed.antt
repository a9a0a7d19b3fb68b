-- Contents that nothing names go, and the world stays.
use Rattle.std.proofs.Common.{◌≡◌, ◌∙◌, ◌<◌, ◌+◌, ℕ, ℤ, List, [], ◌∷◌, length, take, get_or, Bool, true, false, not, cond, Option, Some, None, Ok, Err, Result, OnOk, refl, sym, ap, subst, inl, arith}
use Rattle.std.specs.Prelude.{◌||◌, ◌&&◌, find, filter, option_map, IfOk, IsTrue, Vec}
use Rattle.std.specs.declared.alloc.Global.{Global}
use Rattle.std.specs.List.{AllByRecursion}
use Rattle.std.specs.List.Sorted.{IsPermutation}
use Rattle.std.specs.Ordering.{int_eq}
use Rattle.std.specs.BTreeSet.{BTreeSet, keys}
use Rattle.std.proofs.lemmas.List.Sorted.{list_any-IsPermutation}
use Rattle.std.proofs.lemmas.List.Folds.{list_any_more}
use Rattle.std.proofs.lemmas.Map.Views.{any-filter_same}
use Rattle.sqlite.specs.Order.{Row}
use Rattle.sqlite.specs.Effect.{Database}
use Rattle.sqlite.specs.State.{State, HasCleanDisk, IsUnchanged, KeepsCommit, Survives}
use Rattle.sqlite.specs.Tree.{rowid, has_rowid}
use Rattle.sqlite_trees.specs.View.{is_int}
use Rattle.sqlite_rules.specs.Edit.{id_in}
use Rattle.sqlite_rules.proofs.ListLemmas.{all_from}
use Rattle.sqlite_rules.proofs.TableLemmas.{int_is}
use Rattle.oci_types.specs.Text.{Text}
use Rattle.store_schema.specs.Rows.{bytes_at, integer_at, integer}
use Rattle.store_schema.proofs.Ids.{rowid_test, int_eq_is, int_eq-sym}
use Rattle.store_schema.proofs.Selects.{commit_then, survives_both}
use Rattle.store_contents.specs.declared.content_id.ContentId.{ContentId}
use Rattle.store_contents.specs.Contents.{IsInside, Removes, bytes_in, content_rows}
use Rattle.store_contents.specs.Linked.{is_linked, ids_in, rows_in}
use Rattle.store_contents.specs.Layouts.{Layout, InTables, InPack, Holds, contents_in}
use Rattle.store_contents.specs.Places.{joined, places_of, place_rows}
use Rattle.store_contents.specs.Places as places
use Rattle.store_statements.specs.Tables.{Tables}
use Rattle.store_statements.specs.Registry.{IsRegistry}
use Rattle.store_statements.specs.World.{world_of}
use Rattle.store_statements.proofs.ContentWorlds.{Same, contents_kept}
use Rattle.store_statements.specs.Held.{HoldsTables, IsReady, IsSettled, Commits, SettlesOn, held, tables_in, world_in}
use Rattle.store_writes.specs.Naming.{AreUnnamed, is_among, is_in_column, is_named, ContentsGone, Cleared}
use Rattle.store_statements.proofs.OtherTables.{only_contents}
use Rattle.store_writes.proofs.ContentSteps.{holds_beside}
use Rattle.store_statements.proofs.Transactions.{registry, makes}
use Rattle.store_writes.proofs.ContentNaming.{or_none, or_turned, among_column, has_in_column, all_inserted}

-- ---- a statement that only read

pub still_ready : {l : Layout} → (old new : State) → IsReady l old → IsUnchanged old new → IsReady l new
still_ready {l} old new is u = record { inside = subst IsTrue (sym u.0.mode) is.inside; holds = subst (HoldsTables l) (sym u.0.now_is) is.holds }

pub still_held : (l : Layout) → (old new : State) → IsUnchanged old new → held l new ≡ held l old
still_held l old new u = ap (tables_in l) u.0.now_is

-- the ids were read from the three tables, one after the other
pub named_read : (l : Layout) → (old mid late : State) (none some more all : List ContentId) → IsUnchanged old mid → IsUnchanged mid late → none ≡ [] → ((i : ℤ) → is_among some i ≡ (is_among none i || is_in_column 4 (held l old).blobs i))
    → ((i : ℤ) → is_among more i ≡ (is_among some i || is_in_column 6 (held l mid).manifests i)) → ((i : ℤ) → is_among all i ≡ (is_among more i || is_in_column 5 (held l late).pieces i)) → (i : ℤ) → is_among all i ≡ is_named (held l old) i
named_read l old mid late none some more all u v empty blobs manifests pieces =
    all_inserted (held l old) none some more all empty blobs
    (λ i. manifests i ∙ ap (λ (t : Tables). is_among some i || is_in_column 6 t.manifests i) (still_held l old mid u))
    (λ i. pieces i ∙ ap (λ (t : Tables). is_among more i || is_in_column 5 t.pieces i) (still_held l mid late v ∙ still_held l old mid u))

-- ---- contents that are taken out

pub content_gone : (old new : State) (id : ContentId) → IsReady InTables old → Removes old.now new.now id.id → IsInside new → IsReady InTables new × ContentsGone (held InTables old) (held InTables new) (id ∷ [])
content_gone old new id is gone inside =
    let same = only_contents old.now new.now is.holds.known gone.others in (
      record { inside = inside.inside; holds = holds_beside old.now new.now is.holds gone.others.schema same inside.contents },
      record {
        contents = λ i. gone.contents i ∙ ap (λ b. cond b None (bytes_in old.now i)) (int_eq-sym id.id i ∙ sym (or_none (int_eq i id.id)));
        others = same;
      },
    )

-- the same of a call's result
pub content_gone_if : {A E : Type 0} (old new : State) (id : ContentId) (r : Result A E) → IsReady InTables old → OnOk r (Removes old.now new.now id.id) → OnOk r (IsInside new) → OnOk r (IsReady InTables new × ContentsGone (held InTables old) (held InTables new) (id ∷ []))
content_gone_if old new id (Ok x) is gone inside = content_gone old new id is gone inside
content_gone_if old new id (Err e) is gone inside = tt

pub none_gone : (t : Tables) → ContentsGone t t []
none_gone t = record { contents = λ i. refl; others = refl }

cond_both : {A : Type 0} (a b : Bool) (x y : A) → cond a x (cond b x y) ≡ cond (b || a) x y
cond_both true true x y = refl
cond_both true false x y = refl
cond_both false true x y = refl
cond_both false false x y = refl

pub gone_more : (old mid new : Tables) (ids : List ContentId) (at : ℕ) (d : ContentId) → at < length ids → ContentsGone old mid (take at ids) → ContentsGone mid new (get_or ids at d ∷ []) → ContentsGone old new (take (at + 1) ids)
gone_more old mid new ids at d low before now = record {
  contents = λ i.
      now.contents i ∙ ap (λ b. cond b None (mid.contents i)) (or_none (int_eq i (get_or ids at d).id)) ∙ ap (λ x. cond (int_eq i (get_or ids at d).id) None x) (before.contents i) ∙ cond_both (int_eq i (get_or ids at d).id) (is_among (take at ids) i) None (old.contents i)
      ∙ ap (λ b. cond b None (old.contents i)) (sym (list_any_more (λ (other : ContentId). int_eq i other.id) ids at d low));
  others = now.others ∙ ap (λ (t : Tables). record t { contents = new.contents; places = new.places }) before.others;
}

-- ---- contents that nothing names

-- an id that no row has
pub not_there : (rows : List Row) (i : ℤ) → AllByRecursion (λ r. IsTrue (is_int (rowid r))) rows → is_in_column 0 rows i ≡ false → find (has_rowid i) rows ≡ None
not_there [] i ints e = refl
not_there (r ∷ rs) i ints e = go (not_there rs i ints.1) (int_eq i (integer_at r 0)) refl e
  where
    is : rowid r ≡ Rattle.sqlite.specs.declared.types.Value.TheVariants.Int (id_in (rowid r))
    is = int_is (rowid r) ints.0

    test : has_rowid i r ≡ int_eq i (integer_at r 0)
    test = rowid_test i (id_in (rowid r)) (rowid r) is ∙ ap (λ n. int_eq n i) (ap integer (sym is)) ∙ int_eq-sym (integer_at r 0) i

    go : (is_in_column 0 rs i ≡ false → find (has_rowid i) rs ≡ None) → (b : Bool) → int_eq i (integer_at r 0) ≡ b → (b || is_in_column 0 rs i) ≡ false → find (has_rowid i) (r ∷ rs) ≡ None
    go more true same h = absurd (let wrong = h in cc)
    go more false same h = ap (λ b. cond b (Some r) (find (has_rowid i) rs)) (test ∙ same) ∙ more h

-- the ids that the set lacks are those that nothing names
lacking_is : (l : Layout) (db : Database) (t : Tables) (linked : BTreeSet ContentId) (ids : List ContentId) → ((i : ℤ) → is_among (keys linked) i ≡ is_named t i) → IsPermutation (filter (λ id. not (is_linked linked id)) (ids_in l db)) ids
    → (i : ℤ) → is_among ids i ≡ (not (is_named t i) && is_in_column 0 (rows_in l db) i)
lacking_is l db t linked ids named same i =
    sym (list_any-IsPermutation test _ ids same) ∙ any-filter_same test (λ id. not (is_linked linked id)) (not (is_named t i)) alike (ids_in l db) ∙ ap (λ b. not (is_named t i) && b) (among_column 0 (rows_in l db) i)
  where
    test : ContentId → Bool
    test other = int_eq i other.id

    alike : (k : ContentId) → test k ≡ true → not (is_linked linked k) ≡ not (is_named t i)
    alike k e = ap not (named k.id) ∙ ap (λ n. not (is_named t n)) (sym (int_eq_is i k.id e))

pub unnamed_if : {E : Type 0} (l : Layout) (old mid : State) (linked : BTreeSet ContentId) (r : Result (Vec ContentId Global) E) → IsUnchanged old mid → ((i : ℤ) → is_among (keys linked) i ≡ is_named (held l old) i)
    → IfOk r (λ ids. IsPermutation (filter (λ id. not (is_linked linked id)) (ids_in l mid.now)) ids.items) → IfOk r (λ ids. AreUnnamed l old ids.items)
unnamed_if l old mid linked (Ok ids) u named same = lacking_is l old.now (held l old) linked ids.items named (subst (λ (db : Database). IsPermutation (filter (λ id. not (is_linked linked id)) (ids_in l db)) ids.items) u.0.now_is same)
unnamed_if l old mid linked (Err e) u named same = tt

left : (named there : Bool) (o : Option Text) → (there ≡ false → o ≡ None) → cond (not named && there) None o ≡ cond named o None
left true there o h = refl
left false true o h = refl
left false false o h = h refl

-- an id of no row has no bytes
missing : (l : Layout) (db : Database) → Holds l db → (i : ℤ) → is_in_column 0 (rows_in l db) i ≡ false → contents_in l db i ≡ None
missing InTables db holds i e = ap (option_map (λ r. bytes_at r 4)) (not_there (content_rows db) i holds.ids.1 e)
missing (InPack file) db holds i e = ap (option_map (λ r. joined file (places_of (place_rows db) i))) (not_there (places.content_rows db) i holds.rows.content_ids.1 e)

pub cleared : (l : Layout) (s : State) (new : Tables) (ids : List ContentId) → IsReady l s → AreUnnamed l s ids → ContentsGone (held l s) new ids → Cleared (held l s) new
cleared l s new ids is unnamed gone = record {
  contents = λ i.
      let old = held l s in
      gone.contents i ∙ ap (λ b. cond b None (old.contents i)) (unnamed i) ∙ left (is_named old i) (is_in_column 0 (rows_in l s.now) i) (old.contents i) (missing l s.now is.holds.contents i);
  others = gone.others;
}

-- the steps of a transaction
pub cleared_if : {A E : Type 0} (old mid new : State) (ids : List ContentId) (r : Result A E) → IsReady InTables old → IsUnchanged old mid → AreUnnamed InTables old ids
    → OnOk r (IsReady InTables new × ContentsGone (held InTables mid) (held InTables new) ids) → OnOk r (IsReady InTables new × Cleared (held InTables old) (held InTables new))
cleared_if old mid new ids (Ok x) is u unnamed gone =
    (gone.0, cleared InTables old (held InTables new) ids is unnamed (subst (λ (t : Tables). ContentsGone t (held InTables new) ids) (still_held InTables old mid u) gone.1))
cleared_if old mid new ids (Err e) is u unnamed gone = tt

-- ---- the world stays

column_stays : (t new : Tables) (at : ℕ) (rows : List Row) → Cleared t new → ((i : ℤ) → is_in_column at rows i ≡ true → is_named t i ≡ true) → Same t.contents new.contents at rows
column_stays t new at rows it names = all_from _ rows (λ r has. it.contents (integer_at r at) ∙ ap (λ b. cond b (t.contents (integer_at r at)) None) (names (integer_at r at) (has_in_column at rows r has)))

pub world_stays : (t new : Tables) → IsRegistry t → Cleared t new → (world_of new ≡ world_of t) × IsRegistry new
world_stays t new is it =
    subst (λ (u : Tables). (world_of u ≡ world_of t) × IsRegistry u) (sym it.others) (contents_kept t new.contents new.places is
    (column_stays t new 4 t.blobs it (λ i e. ap (λ b. b || (is_in_column 6 t.manifests i || is_in_column 5 t.pieces i)) e))
    (column_stays t new 6 t.manifests it (λ i e. ap (λ b. is_in_column 4 t.blobs i || (b || is_in_column 5 t.pieces i)) e ∙ or_turned (is_in_column 4 t.blobs i) true))
    (column_stays t new 5 t.pieces it (λ i e. ap (λ b. is_in_column 4 t.blobs i || (is_in_column 6 t.manifests i || b)) e ∙ ap (λ b. is_in_column 4 t.blobs i || b) (or_turned (is_in_column 6 t.manifests i) true) ∙ or_turned (is_in_column 4 t.blobs i) true)))

pub makes_cleared : (l : Layout) (old new : State) → IsSettled l old → Commits l new (held l new) × Cleared (held l old) (held l new) → SettlesOn l new (world_in l old)
makes_cleared l old new settled it = makes new (held l new) (world_in l old) it.0 (world_stays (held l old) (held l new) (registry old settled) it.1)

-- ---- one content after another

-- `Gone` is what is so of the tables before and after, and of the ids of the contents that went
module _ (l : Layout) (Gone : Tables → Tables → List ContentId → Type 0) where
  pub record GoneSoFar (first now : State) (ids : List ContentId) : Type 0 where
    pub gone : HasCleanDisk now → IsReady l first → IsReady l now × Gone (held l first) (held l now) ids
    pub kept : HasCleanDisk now → IsReady l first → KeepsCommit first now
    pub survives : Survives first now (λ _. ⊥)

  pub so_far_none : ((t : Tables) → Gone t t []) → (s : State) → GoneSoFar s s []
  so_far_none none s = record {
    gone = λ clean is. (is, none (held l s));
    kept = λ clean is. record { was_open = λ open_now. open_now; committed = λ open_now. refl };
    survives = record { clean = omega arith; shield = λ x. x; counts = omega arith; limit = refl; closes = λ clean open_now. inl open_now; crash = λ clean db may. inl may };
  }

  pub so_far_more : ((old mid new : Tables) (ids : List ContentId) (at : ℕ) (d : ContentId) → at < length ids → Gone old mid (take at ids) → Gone mid new (get_or ids at d ∷ []) → Gone old new (take (at + 1) ids))
      → (first mid new : State) (ids : List ContentId) (at : ℕ) (d : ContentId) → at < length ids → GoneSoFar first mid (take at ids)
      → (HasCleanDisk new → IsReady l mid → IsReady l new × Gone (held l mid) (held l new) (get_or ids at d ∷ [])) → (HasCleanDisk new → IsReady l mid → KeepsCommit mid new) → Survives mid new (λ _. ⊥) → GoneSoFar first new (take (at + 1) ids)
  so_far_more more first mid new ids at d low before taken kept survives = record {
    gone = λ clean ready.
        let it = before.gone (early clean) ready in
        let now = taken clean it.0 in
        (now.0, more (held l first) (held l mid) (held l new) ids at d low it.1 now.1);
    kept = λ clean ready. commit_then first mid new (before.kept (early clean) ready) (kept clean (before.gone (early clean) ready).0);
    survives = survives_both first mid new before.survives survives;
  }
    where
      early : HasCleanDisk new → HasCleanDisk mid
      early clean = omega (arith, survives.clean)
