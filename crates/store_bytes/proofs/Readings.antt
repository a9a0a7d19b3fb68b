-- Reads that follow one another: what is said of where bytes were at the beginning, and of where they are at a later read.
use Rattle.std.proofs.Common.{◌≡◌, ◌∙◌, Result, refl, sym, subst}
use Rattle.sqlite_trees.specs.declared.store.Store as store
use Rattle.sqlite_trees.proofs.ListLemmas.{all_weaker}
use Rattle.sqlite.specs.Effect.{Database}
use Rattle.sqlite.specs.State.{State}
use Rattle.sqlite.specs.Held.{Held, state}
use Rattle.oci_types.specs.declared.fault.Fault.{Fault}
use Rattle.store_contents.specs.Layouts.{Layout, places_in}
use Rattle.store_contents.specs.Places.{runs_of}
use Rattle.store_statements.specs.Tables.{Tables}
use Rattle.store_statements.specs.Between.{Finds, Stays}
use Rattle.store_bytes.specs.declared.contents.Contents.{Ghosts}
use Rattle.store_bytes.specs.Keeping.{AllPlaces}
use Rattle.store_bytes.specs.Reading.{IsReadable, IsAsWas}

module _ {C : Type 0} (g : Ghosts C) where
  -- nothing was read yet
  pub as_was_here : (c : C) → IsAsWas g c c
  as_was_here c = record {
    layout = refl;
    crash = λ l is. is;
    clean = λ is. is;
    spares = λ run is. is;
    remembers = λ run is. is;
    names = λ rows is. is;
    refuses = λ age is. is;
  }

  -- a read behind another one
  pub as_was_then : (a b c : C) → IsAsWas g a b → IsAsWas g b c → IsAsWas g a c
  as_was_then a b c first next = record {
    layout = next.layout ∙ first.layout;
    crash = λ l is. first.crash l (next.crash l is);
    clean = λ is. first.clean (next.clean is);
    spares = λ run is. next.spares run (first.spares run is);
    remembers = λ run is. next.remembers run (first.remembers run is);
    names = λ rows is. next.names rows (first.names rows is);
    refuses = λ age is. next.refuses age (first.refuses age is);
  }

  -- what is readable up to the last is so up to the one before
  pub readable_before : (a b c : C) (s : State) → IsAsWas g b c → IsReadable g a c s → IsReadable g a b s
  readable_before a b c s next is = record { clean = next.clean is.clean; spared = is.spared }

  -- and of a database that stays
  pub readable_still : (a c : C) (s t : State) → t.now ≡ s.now → IsReadable g a c s → IsReadable g a c t
  readable_still a c s t same is = record {
    clean = is.clean;
    spared = subst (λ (db : Database). AllPlaces (g.remembers a) (g.layout a) db) (sym same) is.spared;
  }

  -- and from a later read on
  pub readable_from : (a b c : C) (s : State) → IsAsWas g a b → IsReadable g a c s → IsReadable g b c s
  readable_from a b c s first is = record {
    clean = is.clean;
    spared =
        subst (λ (l : Layout). AllPlaces (g.remembers b) l s.now) (sym first.layout)
        (all_weaker (g.remembers a) (g.remembers b) first.remembers (runs_of (places_in (g.layout a) s.now)) is.spared);
  }

  -- ---- what a later read says, said of the layout of the beginning

  module _ {S : Type 0} (h : store.Ghosts S) (a b c : C) (first : IsAsWas g a b) (mid new : Held S) {A : Type 0} (r : Result A Fault) where
    pub finds_from : (P : Tables → A → Type 0) → (IsReadable g b c (state h mid) → Finds h (g.layout b) mid new r P) → (s : State)
        → (state h mid).now ≡ s.now → IsReadable g a c s → Finds h (g.layout a) mid new r P
    finds_from P finds s same is = subst (λ (l : Layout). Finds h l mid new r P) first.layout (finds (readable_from a b c (state h mid) first (readable_still a c s (state h mid) same is)))

    pub stays_from : Stays h (g.layout b) mid new r → Stays h (g.layout a) mid new r
    stays_from stays = subst (λ (l : Layout). Stays h l mid new r) first.layout stays
