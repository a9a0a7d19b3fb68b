-- What is there before the tables are made stays.
use Rattle.std.proofs.Common.{◌≡◌, ℕ, zero, suc, Bool, true, false, List, [], ◌∷◌, ◌++◌, None, Some, Ok, inl, inr, refl, sym, ap, subst, ◌∙◌, append_assoc, append-nil, arith}
use Rattle.std.specs.Prelude.{◌≢◌, ◌<◌, ◌+◌, ◌||◌, Option, is_some, slice_get, cond}
use Rattle.std.specs.List.{AllByRecursion, position_from}
use Rattle.std.proofs.lemmas.Bool.{cases_Bool}
use Rattle.sqlite.specs.Schema.{Schema}
use Rattle.sqlite.specs.Table.{Table}
use Rattle.sqlite.specs.Tree.{Trees}
use Rattle.sqlite.specs.Change.{created, next_tree, KeepsRows}
use Rattle.sqlite.specs.Rows.{Part}
use Rattle.sqlite.specs.Command.TheVariants.{CreateTable, CreateIndex}
use Rattle.sqlite.specs.Does.{Tally, AtPlace, lacks_sequence}
use Rattle.sqlite.specs.Effect.{Database}
use Rattle.sqlite.specs.State.{State, Writes, Executes, ExecutesIn}
use Rattle.sqlite.specs.Given.{IsPlain}
use Rattle.sqlite.proofs.Callers.{command_of, statement_of, runs_as}
use Rattle.sqlite_catalog.specs.Calls.{CreatesTable, CreatesIndex}
use Rattle.sqlite_catalog.specs.Change.{is_used}
use Rattle.sqlite_schema.specs.Names.{same_name}
use Rattle.store_schema.specs.Beside.{IsFront, Keeps, AreFree, Comes, IsNewBeside, MakesNamed, MakesOne}
use Rattle.sqlite_catalog.proofs.StepLemmas.{table_below}
use Rattle.sqlite_rules.specs.Lists.{Has}
use Rattle.store_schema.proofs.Creations.{understood_creation, table_is_named, index_is_named, no_table_index}
use Rattle.store_schema.proofs.Writes.{went, same_value}

-- ---- one thing after the other

front_all : {A : Type 0} (xs : List A) → IsFront xs xs
front_all xs = ([], sym (append-nil xs))

front_then : {A : Type 0} (xs ys zs : List A) → IsFront xs ys → IsFront ys zs → IsFront xs zs
front_then xs ys zs a b = (a.0 ++ b.0, b.1 ∙ ap (λ l. l ++ b.0) a.1 ∙ append_assoc xs a.0 b.0)

rows_then : (tables more : List Table) (a b c : Trees) → KeepsRows tables a b → KeepsRows (tables ++ more) b c → KeepsRows tables a c
rows_then [] more a b c h k = tt
rows_then (t ∷ ts) more a b c h k = (k.0 ∙ h.0, rows_then ts more a b c h.1 k.1)

rows_same : (tables : List Table) (a : Trees) → KeepsRows tables a a
rows_same [] a = tt
rows_same (t ∷ ts) a = (refl, rows_same ts a)

pub keeps_all : (db : Database) → Keeps db db
keeps_all db = record { tables = front_all db.schema.tables; indexes = front_all db.schema.indexes; views = refl; rows = rows_same db.schema.tables db.trees }

pub keeps_then : (a b c : Database) → Keeps a b → Keeps b c → Keeps a c
keeps_then a b c h k = record {
  tables = front_then a.schema.tables b.schema.tables c.schema.tables h.tables k.tables;
  indexes = front_then a.schema.indexes b.schema.indexes c.schema.indexes h.indexes k.indexes;
  views = k.views ∙ h.views;
  rows = rows_then a.schema.tables h.tables.0 a.trees b.trees c.trees h.rows (subst (λ ts. KeepsRows ts b.trees c.trees) h.tables.1 k.rows);
}

-- ---- a name that is free was free before

position_before : {A : Type 0} (p : A → Bool) (n : ℕ) (xs more : List A) → is_some (position_from p n (xs ++ more)) ≡ false → is_some (position_from p n xs) ≡ false
position_before p n [] more none = refl
position_before p n (x ∷ xs) more none = go (p x) (position_before p (n + 1) xs more) none
  where
    go : (b : Bool) → (is_some (position_from p (n + 1) (xs ++ more)) ≡ false → is_some (position_from p (n + 1) xs) ≡ false)
        → is_some (cond b (Some n) (position_from p (n + 1) (xs ++ more))) ≡ false → is_some (cond b (Some n) (position_from p (n + 1) xs)) ≡ false
    go true rest e = absurd cc
    go false rest e = rest e

found_before : {A : Type 0} (p : A → Bool) (xs ys : List A) → IsFront xs ys → is_some (position_from p 0 ys) ≡ false → is_some (position_from p 0 xs) ≡ false
found_before p xs ys front none = position_before p 0 xs front.0 (subst (λ l. is_some (position_from p 0 l) ≡ false) front.1 none)

before_used : (a b c x y z : Bool) → (x ≡ false → a ≡ false) → (y ≡ false → b ≡ false) → (z ≡ false → c ≡ false) → (x || y || z) ≡ false → (a || b || c) ≡ false
before_used a b c false false false f g h e = rw (f refl, g refl, h refl) refl
before_used a b c true y z f g h e = absurd cc
before_used a b c false true z f g h e = absurd cc
before_used a b c false false true f g h e = absurd cc

pub free_before : (a b : Database) (name : List ℕ) → Keeps a b → is_used b.schema name ≡ false → is_used a.schema name ≡ false
free_before a b name kept free = before_used _ _ _ _ _ _
    (found_before (λ t. same_name t.name name) a.schema.tables b.schema.tables kept.tables)
    (found_before (λ i. same_name i.name name) a.schema.indexes b.schema.indexes kept.indexes)
    (found_before (λ v. same_name v.name name) a.schema.views b.schema.views ([], kept.views ∙ sym (append-nil a.schema.views)))
    free

all_before : (a b : Database) (names : List (List ℕ)) → Keeps a b → AreFree b.schema names → AreFree a.schema names
all_before a b [] kept free = tt
all_before a b (n ∷ ns) kept free = (free_before a b n kept free.0, all_before a b ns kept free.1)

all_free : (schema : Schema) (xs ys : List (List ℕ)) → AreFree schema xs → AreFree schema ys → AreFree schema (xs ++ ys)
all_free schema [] ys h k = k
all_free schema (x ∷ xs) ys h k = (h.0, all_free schema xs ys h.1 k)

-- ---- a table that is new stays so

position_front : {A : Type 0} (p : A → Bool) (n at : ℕ) (xs more : List A) → position_from p n xs ≡ Some at → position_from p n (xs ++ more) ≡ Some at
position_front p n at [] more found = absurd cc
position_front p n at (x ∷ xs) more found = go (p x) (position_front p (n + 1) at xs more) found
  where
    go : (b : Bool) → (position_from p (n + 1) xs ≡ Some at → position_from p (n + 1) (xs ++ more) ≡ Some at)
        → cond b (Some n) (position_from p (n + 1) xs) ≡ Some at → cond b (Some n) (position_from p (n + 1) (xs ++ more)) ≡ Some at
    go true rest e = e
    go false rest e = rest e

get_front : {A : Type 0} (xs more : List A) (at : ℕ) (x : A) → slice_get xs at ≡ Some x → slice_get (xs ++ more) at ≡ Some x
get_front [] more at x found = absurd cc
get_front (y ∷ ys) more zero x found = found
get_front (y ∷ ys) more (suc at) x found = get_front ys more at x found

kept_at : (tables : List Table) (a b : Trees) (at : ℕ) (t : Table) → KeepsRows tables a b → slice_get tables at ≡ Some t → b t.tree ≡ a t.tree
kept_at [] a b at t kept found = absurd cc
kept_at (x ∷ xs) a b zero t kept found = let same : x ≡ t = cc in subst (λ (y : Table). b y.tree ≡ a y.tree) same kept.0
kept_at (x ∷ xs) a b (suc at) t kept found = kept_at xs a b at t kept.1 found

new_stays : (before : List Table) (b c : Database) (t : Table) → Keeps b c → IsNewBeside before b t → IsNewBeside before c t
new_stays before b c t kept it = record {
  at = it.at;
  named = subst (λ ts. position_from (λ x. same_name x.name t.name) 0 ts ≡ Some it.at) (sym kept.tables.1) (position_front (λ x. same_name x.name t.name) 0 it.at b.schema.tables kept.tables.0 it.named);
  tree = it.tree;
  place = subst (λ ts. slice_get ts it.at ≡ Some (record t { tree = it.tree })) (sym kept.tables.1) (get_front b.schema.tables kept.tables.0 it.at (record t { tree = it.tree }) it.place);
  empty = kept_at b.schema.tables b.trees c.trees it.at (record t { tree = it.tree }) kept.rows it.place ∙ it.empty;
  apart = it.apart;
}

all_stay : (before : List Table) (b c : Database) (ts : List Table) → Keeps b c → AllByRecursion (IsNewBeside before b) ts → AllByRecursion (IsNewBeside before c) ts
all_stay before b c [] kept h = tt
all_stay before b c (t ∷ ts) kept h = (new_stays before b c t kept h.0, all_stay before b c ts kept h.1)

apart_front : (xs more : List Table) (tree : ℕ) → AllByRecursion (λ (t : Table). t.tree ≢ tree) (xs ++ more) → AllByRecursion (λ (t : Table). t.tree ≢ tree) xs
apart_front [] more tree h = tt
apart_front (x ∷ xs) more tree h = (h.0, apart_front xs more tree h.1)

all_earlier : (before after : List Table) (c : Database) (ts : List Table) → IsFront before after → AllByRecursion (IsNewBeside after c) ts → AllByRecursion (IsNewBeside before c) ts
all_earlier before after c [] front h = tt
all_earlier before after c (t ∷ ts) front h = (
  record {
    at = h.0.at;
    named = h.0.named;
    tree = h.0.tree;
    place = h.0.place;
    empty = h.0.empty;
    apart = apart_front before front.0 h.0.tree (subst (λ l. AllByRecursion (λ (x : Table). x.tree ≢ h.0.tree) l) front.1 h.0.apart);
  },
  all_earlier before after c ts front h.1,
)

all_both : (P : Table → Type 0) (ts us : List Table) → AllByRecursion P ts → AllByRecursion P us → AllByRecursion P (ts ++ us)
all_both P [] us h k = k
all_both P (t ∷ ts) us h k = (h.0, all_both P ts us h.1 k)

pub comes_then : (a b c : Database) (xs ys : List (List ℕ)) (ts us : List Table) → Comes xs ts a b → Comes ys us b c → Comes (xs ++ ys) (ts ++ us) a c
comes_then a b c xs ys ts us h k = record {
  free = all_free a.schema xs ys h.free (all_before a b ys h.kept k.free);
  kept = keeps_then a b c h.kept k.kept;
  made = all_both (IsNewBeside a.schema.tables c) ts us (all_stay a.schema.tables b c ts k.kept h.made) (all_earlier a.schema.tables b.schema.tables c us h.kept.tables k.made);
}

-- ---- a statement that makes a table or an index

table_kept : (db after : Database) (text : List ℕ) → CreatesTable db.schema text db.trees after.schema after.trees → Keeps db after
table_kept db after text it = record {
  tables = (_, ap (λ (s : Schema). s.tables) it.is);
  indexes = (_, ap (λ (s : Schema). s.indexes) it.is);
  views = ap (λ (s : Schema). s.views) it.is;
  rows = it.others;
}

index_kept : (db after : Database) (table : Table) (text : List ℕ) → CreatesIndex db.schema table text db.trees after.schema after.trees → Keeps db after
index_kept db after table text it = record {
  tables = ([], ap (λ (s : Schema). s.tables) it.is ∙ sym (append-nil db.schema.tables));
  indexes = (_, ap (λ (s : Schema). s.indexes) it.is);
  views = ap (λ (s : Schema). s.views) it.is;
  rows = it.rows;
}

-- the table that comes last, behind none of its name
position_last : (p : Table → Bool) (n : ℕ) (xs : List Table) (y : Table) → is_some (position_from p n xs) ≡ false → p y ≡ true
    → (k : ℕ) × (position_from p n (xs ++ y ∷ []) ≡ Some (n + k)) × (slice_get (xs ++ y ∷ []) k ≡ Some y)
position_last p n [] y none is = (0, rw is (ap Some (omega arith)), refl)
position_last p n (x ∷ xs) y none is = go (p x) (position_last p (n + 1) xs y) none
  where
    go : (b : Bool) → (is_some (position_from p (n + 1) xs) ≡ false → p y ≡ true → (k : ℕ) × (position_from p (n + 1) (xs ++ y ∷ []) ≡ Some (n + 1 + k)) × (slice_get (xs ++ y ∷ []) k ≡ Some y))
        → is_some (cond b (Some n) (position_from p (n + 1) xs)) ≡ false
        → (k : ℕ) × (cond b (Some n) (position_from p (n + 1) (xs ++ y ∷ [])) ≡ Some (n + k)) × (slice_get ((x ∷ xs) ++ y ∷ []) k ≡ Some y)
    go true rest e = absurd cc
    go false rest e = let it = rest e is in (suc it.0, it.1 ∙ ap Some (omega arith), it.2)

first_none : (a b c : Bool) → (a || b || c) ≡ false → a ≡ false
first_none false b c e = refl
first_none true b c e = absurd cc

below_all : (ts : List Table) (n : ℕ) → ((t : Table) → Has ts t → t.tree < n) → AllByRecursion (λ (t : Table). t.tree ≢ n) ts
below_all [] n below = tt
below_all (t ∷ ts) n below = ((λ same. let low = below t (inl refl) in absurd (omega (arith, same, low))), below_all ts n (λ x has. below x (inr has)))

table_new : (db after : Database) (text : List ℕ) (table : Table) (it : CreatesTable db.schema text db.trees after.schema after.trees) → it.table ≡ table → same_name table.name table.name ≡ true
    → IsNewBeside db.schema.tables after table
table_new db after text table it same itself =
    let new : Table = record table { tree = next_tree db.schema } in
    let free = subst (λ (t : Table). is_used db.schema t.name ≡ false) same it.free in
    let last = position_last (λ x. same_name x.name table.name) 0 db.schema.tables new (first_none _ _ _ free) itself in
    let tables : after.schema.tables ≡ db.schema.tables ++ new ∷ [] = ap (λ (s : Schema). s.tables) (it.is ∙ ap (created db.schema) same) in
    record {
      at = last.0;
      named = subst (λ ts. position_from (λ x. same_name x.name table.name) 0 ts ≡ Some last.0) (sym tables) (last.1 ∙ ap Some (omega arith));
      tree = next_tree db.schema;
      place = subst (λ ts. slice_get ts last.0 ≡ Some new) (sym tables) last.2;
      empty = it.empty;
      apart = below_all db.schema.tables (next_tree db.schema) (table_below db.schema);
    }

at_some : {X A : Type 0} (P : X → Part A) (o : Option X) (a : A) → AtPlace P o (Ok a) → (x : X) × P x (Ok a)
at_some P None a h = absurd (let e = h in cc)
at_some P (Some x) a h = (x, h)

-- a table that is known to be made
abbrev pub Made : List ℕ → Database → Database → Type 0
Made text old new = (table : Table) → MakesOne text table → IsNewBeside old.schema.tables new table

module _ (text name : List ℕ) (old new : State) (count : ℕ) (named : MakesNamed text name) where
  table_comes : Writes old new None CreateTable text [] count → Comes (name ∷ []) [] old.now new.now × Made text old.now new.now
  table_comes w =
      let all = went w.changed in
      let first = went all.1 in
      let made = first.1 in
      let now : new.now ≡ all.0 = ap (λ (p : Tally × Database). p.1) (same_value all.2) in
      let counted : Keeps first.0 all.0 = elim (cases_Bool (lacks_sequence first.0.schema)) [
        | inl lacks ↦ table_kept first.0 all.0 _ (rw lacks at first.2)
        | inr none ↦ subst (Keeps first.0) (sym (same_value (rw none at first.2))) (keeps_all first.0)
      ] in
      let kept = keeps_then old.now first.0 all.0 (table_kept old.now first.0 text made) counted in (
        record {
          free = (subst (λ n. is_used old.now.schema n ≡ false) (table_is_named text name made.table named made.defined) made.free, tt);
          kept = subst (Keeps old.now) (sym now) kept;
          made = tt;
        },
        (λ table one. subst (λ (d : Database). IsNewBeside old.now.schema.tables d table) (sym now)
            (new_stays old.now.schema.tables first.0 all.0 table counted (table_new old.now first.0 text table made (same_value (sym made.defined ∙ one.defined)) one.itself))),
      )

  index_comes : (at : ℕ) → Writes old new None (CreateIndex at) text [] count → Comes (name ∷ []) [] old.now new.now × Made text old.now new.now
  index_comes at w =
      let here = at_some _ (slice_get old.now.schema.tables at) (w.tally, new.now) w.changed in
      let all = went here.1 in
      let made = all.1 in
      let now : new.now ≡ all.0 = ap (λ (p : Tally × Database). p.1) (same_value all.2) in (
        record {
          free = (subst (λ n. is_used old.now.schema n ≡ false) (index_is_named text name here.0 made.index named made.defined) made.free, tt);
          kept = subst (Keeps old.now) (sym now) (index_kept old.now all.0 here.0 text made);
          made = tt;
        },
        (λ table one. absurd (no_table_index text name here.0 table made.index named one.defined made.defined)),
      )

  pub comes : Executes text [] old new (Ok count) → Comes (name ∷ []) [] old.now new.now × Made text old.now new.now
  unfolding ExecutesIn
  comes h =
      let it = understood_creation old.now.schema text name h.0 named h.1.is in
      let plain = subst IsPlain (sym h.1.is) (it.returning, it.formats) in
      let words = ap (statement_of text) h.1.is ∙ it.whole in
      elim it.makes [
        | inl is ↦ table_comes (subst (λ t. Writes old new None CreateTable t [] count) words
            (runs_as text [] old new old.now.schema refl CreateTable (ap command_of h.1.is ∙ is) plain count h))
        | inr place ↦ index_comes place.0 (subst (λ t. Writes old new None (CreateIndex place.0) t [] count) words
            (runs_as text [] old new old.now.schema refl (CreateIndex place.0) (ap command_of h.1.is ∙ place.1) plain count h))
      ]
