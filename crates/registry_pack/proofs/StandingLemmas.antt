-- What stands, lasts and is kept, through calls and crashes.
use Rattle.std.proofs.Common.{◌≡◌, ℕ, ◌+◌, ◌<◌, ◌≤◌, List, [], ◌∷◌, ◌++◌, ◌-◌, length, slice_index, sym, ◌∙◌, ap, subst, inl, inr, arith, IsTrue}
use Rattle.std.specs.List.{AllByRecursion}
use Rattle.sqlite_disk.specs.declared.Disk.{Ghosts}
use Rattle.sqlite_disk.specs.Disk.{Holds, Torn, Cut, Follows, Only}
use Rattle.registry_pack.specs.declared.extent.Extent.{Extent}
use Rattle.registry_pack.specs.Extents.{AreApart, AreElsewhere, AreWithin, bytes_of, bytes_at}
use Rattle.registry_pack.proofs.ExtentLemmas.{bytes_at-none, bytes_at-more}
use Rattle.registry_pack.specs.Standing.{Lasts, KeepsAll, KeepsElsewhere, KeepsBelow, IsKept, AreKept}
use Rattle.registry_pack.proofs.RangeLemmas.{slice_index-range, length-range, Holds-range, range_is, range-same}

-- what stands outside of a torn range stays
pub Holds-torn : (at n a : ℕ) (old new bytes : List ℕ) → Torn at n old new → AreApart at n a (length bytes) → Holds old a bytes → Holds new a bytes
Holds-torn at n a old new bytes torn apart was =
    record {
      within = omega (arith, torn.no_shorter, was.within);
      each = λ i low. elim apart [
        | inl before ↦ torn.above (a + i) (omega (arith, was.within)) (omega arith) ∙ was.each i low
        | inr behind ↦ torn.below (a + i) (omega (arith, was.within)) (omega arith) ∙ was.each i low
      ];
    }

-- what stands below a cut stays
pub Holds-cut : (len a : ℕ) (old new bytes : List ℕ) → Cut len old new → a + length bytes ≤ len → Holds old a bytes → Holds new a bytes
Holds-cut len a old new bytes step below was =
    record {
      within = omega (arith, step.no_shorter, was.within);
      each = λ i low. step.below (a + i) (omega (arith, was.within)) (omega arith) ∙ was.each i low;
    }

module _ {D : Type 0} (g : Ghosts D) (old new : D) where
  pub KeepsElsewhere-torn : (at n : ℕ) → Torn at n (g.seen old) (g.seen new) → Follows (Torn at n) (g.may_leave old) (g.may_leave new)
      → (IsTrue (g.is_clean new) → IsTrue (g.is_clean old)) → KeepsElsewhere g at n old new
  KeepsElsewhere-torn at n torn crash clean =
      record {
        stands = λ a bytes apart. Holds-torn at n a _ _ bytes torn apart;
        lasts = λ a bytes apart was.
            record {
              now = Holds-torn at n a _ _ bytes torn apart was.now;
              after = λ c may.
                  let (d, before, step) = crash c may in
                  Holds-torn at n a d c bytes step apart (was.after d before);
            };
        no_shorter = torn.no_shorter;
        clean = clean;
      }

  pub KeepsBelow-cut : (len : ℕ) → Cut len (g.seen old) (g.seen new) → Follows (Cut len) (g.may_leave old) (g.may_leave new)
      → (IsTrue (g.is_clean new) → IsTrue (g.is_clean old)) → KeepsBelow g len old new
  KeepsBelow-cut len cut crash clean =
      record {
        stands = λ a bytes below. Holds-cut len a _ _ bytes cut below;
        lasts = λ a bytes below was.
            record {
              now = Holds-cut len a _ _ bytes cut below was.now;
              after = λ c may.
                  let (d, before, step) = crash c may in
                  Holds-cut len a d c bytes step below (was.after d before);
            };
        clean = clean;
      }

  -- after a sync
  pub Lasts-only : (a : ℕ) (bytes : List ℕ) → g.seen new ≡ g.seen old → Only (g.seen old) (g.may_leave new) → Holds (g.seen old) a bytes → Lasts g new a bytes
  Lasts-only a bytes seen only was = record { now = rw seen was; after = λ c may. rw (only c may) was }

-- the bytes at an extent that is kept last
pub Lasts-kept : {D : Type 0} (g : Ghosts D) (file : D) (e : Extent) → IsKept g file e → Lasts g file e.at (bytes_of (g.seen file) e)
Lasts-kept g file e kept =
    let size = length-range (g.seen file) e.at e.size kept.within in
    record {
      now = Holds-range (g.seen file) e.at e.size kept.within;
      after = λ c may.
          let (fits, same) = kept.lasts c may in
          record {
            within = omega (arith, size);
            each = λ i low.
                let early : i < e.size = omega (arith, size) in
                same (e.at + i) (omega arith, omega arith) ∙ sym (slice_index-range (g.seen file) e.at e.size i early);
          };
    }

-- an extent whose bytes last is kept
pub IsKept-lasting : {D : Type 0} (g : Ghosts D) (file : D) (e : Extent) (bytes : List ℕ) → length bytes ≡ e.size → Lasts g file e.at bytes → IsKept g file e
IsKept-lasting g file e bytes size lasting =
    record {
      within = omega (arith, lasting.now.within);
      lasts = λ c may.
          let there = lasting.after c may in (
            omega (arith, there.within),
            λ i (low, high).
                let here : e.at + (i - e.at) ≡ i = omega arith in
                let early : i - e.at < length bytes = omega arith in
                ap (slice_index c) (sym here) ∙ there.each (i - e.at) early ∙ sym (lasting.now.each (i - e.at) early) ∙ ap (slice_index (g.seen file)) here,
          );
    }

module _ {D : Type 0} (g : Ghosts D) (old new : D) where
  pub IsKept-all : (e : Extent) → KeepsAll g old new → IsKept g old e → IsKept g new e
  IsKept-all e all kept =
      record {
        within = rw all.seen kept.within;
        lasts = λ c may.
            let (fits, same) = kept.lasts c (all.crash c may) in
            (fits, λ i covered. same i covered ∙ ap (λ (l : List ℕ). slice_index l i) (sym all.seen));
      }

  pub IsKept-elsewhere : (at n : ℕ) (e : Extent) → KeepsElsewhere g at n old new → AreApart at n e.at e.size → IsKept g old e → IsKept g new e
  IsKept-elsewhere at n e others apart kept =
      let size = length-range (g.seen old) e.at e.size kept.within in
      IsKept-lasting g new e (bytes_of (g.seen old) e) size
      (others.lasts e.at (bytes_of (g.seen old) e) (subst (AreApart at n e.at) (sym size) apart) (Lasts-kept g old e kept))

  pub IsKept-below : (len : ℕ) (e : Extent) → KeepsBelow g len old new → e.at + e.size ≤ len → IsKept g old e → IsKept g new e
  IsKept-below len e low below kept =
      let size = length-range (g.seen old) e.at e.size kept.within in
      IsKept-lasting g new e (bytes_of (g.seen old) e) size
      (low.lasts e.at (bytes_of (g.seen old) e) (omega (arith, size)) (Lasts-kept g old e kept))

  -- after a sync that succeeded
  pub IsKept-synced : (e : Extent) → ((a : ℕ) (bytes : List ℕ) → Holds (g.seen old) a bytes → Lasts g new a bytes)
      → e.at + e.size ≤ length (g.seen old) → IsKept g new e
  IsKept-synced e lasting within =
      IsKept-lasting g new e (bytes_of (g.seen old) e) (length-range (g.seen old) e.at e.size within)
      (lasting e.at (bytes_of (g.seen old) e) (Holds-range (g.seen old) e.at e.size within))

  -- what stands elsewhere is as it was
  pub bytes_of-elsewhere : (at n : ℕ) (e : Extent) → KeepsElsewhere g at n old new → AreApart at n e.at e.size → e.at + e.size ≤ length (g.seen old)
      → bytes_of (g.seen new) e ≡ bytes_of (g.seen old) e
  bytes_of-elsewhere at n e others apart within =
      let size = length-range (g.seen old) e.at e.size within in
      range_is (g.seen new) (bytes_of (g.seen old) e) e.at e.size size
      (others.stands e.at (bytes_of (g.seen old) e) (subst (AreApart at n e.at) (sym size) apart) (Holds-range (g.seen old) e.at e.size within))

  pub bytes_of-below : (len : ℕ) (e : Extent) → KeepsBelow g len old new → e.at + e.size ≤ len → e.at + e.size ≤ length (g.seen old)
      → bytes_of (g.seen new) e ≡ bytes_of (g.seen old) e
  bytes_of-below len e low below within =
      let size = length-range (g.seen old) e.at e.size within in
      range_is (g.seen new) (bytes_of (g.seen old) e) e.at e.size size
      (low.stands e.at (bytes_of (g.seen old) e) (omega (arith, size)) (Holds-range (g.seen old) e.at e.size within))

  pub AreKept-all : (es : List Extent) → KeepsAll g old new → AreKept g old es → AreKept g new es
  AreKept-all [] all kept = tt
  AreKept-all (e ∷ es) all (kept, more) = (IsKept-all e all kept, AreKept-all es all more)

  pub AreKept-elsewhere : (at n : ℕ) (es : List Extent) → KeepsElsewhere g at n old new → AreElsewhere at n es → AreKept g old es → AreKept g new es
  AreKept-elsewhere at n [] others apart kept = tt
  AreKept-elsewhere at n (e ∷ es) others (apart, more_apart) (kept, more) =
      (IsKept-elsewhere at n e others apart kept, AreKept-elsewhere at n es others more_apart more)

  pub AreKept-below : (len : ℕ) (es : List Extent) → KeepsBelow g len old new → AllByRecursion (λ e. e.at + e.size ≤ len) es
      → AreKept g old es → AreKept g new es
  AreKept-below len [] low below kept = tt
  AreKept-below len (e ∷ es) low (below, more_below) (kept, more) =
      (IsKept-below len e low below kept, AreKept-below len es low more_below more)

  -- after a sync that succeeded
  pub AreKept-synced : (es : List Extent) → ((a : ℕ) (bytes : List ℕ) → Holds (g.seen old) a bytes → Lasts g new a bytes)
      → AreWithin (g.seen old) es → AreKept g new es
  AreKept-synced [] lasting within = tt
  AreKept-synced (e ∷ es) lasting (within, more) = (IsKept-synced e lasting within, AreKept-synced es lasting more)

  -- what stands elsewhere is as it was
  pub bytes_at-elsewhere : (at n : ℕ) (es : List Extent) → KeepsElsewhere g at n old new → AreElsewhere at n es → AreWithin (g.seen old) es
      → bytes_at (g.seen new) es ≡ bytes_at (g.seen old) es
  bytes_at-elsewhere at n [] others apart within = bytes_at-none (g.seen new) ∙ sym (bytes_at-none (g.seen old))
  bytes_at-elsewhere at n (e ∷ es) others (apart, more_apart) (within, more) =
      bytes_at-more (g.seen new) e es
      ∙ ap (λ (l : List ℕ). l ++ bytes_at (g.seen new) es) (bytes_of-elsewhere at n e others apart within)
      ∙ ap (λ (l : List ℕ). bytes_of (g.seen old) e ++ l) (bytes_at-elsewhere at n es others more_apart more)
      ∙ sym (bytes_at-more (g.seen old) e es)

  pub bytes_at-below : (len : ℕ) (es : List Extent) → KeepsBelow g len old new → AllByRecursion (λ e. e.at + e.size ≤ len) es → AreWithin (g.seen old) es
      → bytes_at (g.seen new) es ≡ bytes_at (g.seen old) es
  bytes_at-below len [] low below within = bytes_at-none (g.seen new) ∙ sym (bytes_at-none (g.seen old))
  bytes_at-below len (e ∷ es) low (below, more_below) (within, more) =
      bytes_at-more (g.seen new) e es
      ∙ ap (λ (l : List ℕ). l ++ bytes_at (g.seen new) es) (bytes_of-below len e low below within)
      ∙ ap (λ (l : List ℕ). bytes_of (g.seen old) e ++ l) (bytes_at-below len es low more_below more)
      ∙ sym (bytes_at-more (g.seen old) e es)

module _ {D : Type 0} (g : Ghosts D) (file : D) where
  -- whatever a crash leaves, the bytes of an extent that is kept stand there
  pub bytes_of-left : (e : Extent) → IsKept g file e → (c : List ℕ) → g.may_leave file c → bytes_of c e ≡ bytes_of (g.seen file) e
  bytes_of-left e kept c may =
      let (fits, same) = kept.lasts c may in
      range-same c (g.seen file) e.at e.size fits kept.within λ i low high. same i (low, high)

  pub bytes_at-left : (es : List Extent) → AreKept g file es → (c : List ℕ) → g.may_leave file c → bytes_at c es ≡ bytes_at (g.seen file) es
  bytes_at-left [] kept c may = bytes_at-none c ∙ sym (bytes_at-none (g.seen file))
  bytes_at-left (e ∷ es) (kept, more) c may =
      bytes_at-more c e es
      ∙ ap (λ (l : List ℕ). l ++ bytes_at c es) (bytes_of-left e kept c may)
      ∙ ap (λ (l : List ℕ). bytes_of (g.seen file) e ++ l) (bytes_at-left es more c may)
      ∙ sym (bytes_at-more (g.seen file) e es)

  pub AreWithin-left : (es : List Extent) → AreKept g file es → (c : List ℕ) → g.may_leave file c → AreWithin c es
  AreWithin-left [] kept c may = tt
  AreWithin-left (e ∷ es) (kept, more) c may = ((kept.lasts c may).0, AreWithin-left es more c may)

  pub AreWithin-kept : (es : List Extent) → AreKept g file es → AreWithin (g.seen file) es
  AreWithin-kept [] kept = tt
  AreWithin-kept (e ∷ es) (kept, more) = (kept.within, AreWithin-kept es more)

-- ---- several calls, one after the other

pub KeepsElsewhere-wider : {D : Type 0} (g : Ghosts D) (old new : D) (at n low m : ℕ) → low ≤ at → at + n ≤ low + m
    → KeepsElsewhere g at n old new → KeepsElsewhere g low m old new
KeepsElsewhere-wider g old new at n low m le fits kept =
    let narrow : (a k : ℕ) → AreApart low m a k → AreApart at n a k = λ a k apart. elim apart [ inl x ↦ inl (omega arith) | inr x ↦ inr (omega arith) ] in
    record {
      stands = λ a bytes apart. kept.stands a bytes (narrow a (length bytes) apart);
      lasts = λ a bytes apart. kept.lasts a bytes (narrow a (length bytes) apart);
      no_shorter = kept.no_shorter;
      clean = kept.clean;
    }

pub KeepsElsewhere-then : {D : Type 0} (g : Ghosts D) (old mid new : D) (at n : ℕ) → KeepsElsewhere g at n old mid → KeepsElsewhere g at n mid new
    → KeepsElsewhere g at n old new
KeepsElsewhere-then g old mid new at n first then =
    record {
      stands = λ a bytes apart was. then.stands a bytes apart (first.stands a bytes apart was);
      lasts = λ a bytes apart was. then.lasts a bytes apart (first.lasts a bytes apart was);
      no_shorter = omega (arith, first.no_shorter, then.no_shorter);
      clean = λ is. first.clean (then.clean is);
    }

pub Lasts-all : {D : Type 0} (g : Ghosts D) (old new : D) (a : ℕ) (bytes : List ℕ) → KeepsAll g old new → Lasts g old a bytes → Lasts g new a bytes
Lasts-all g old new a bytes all was = record { now = rw all.seen was.now; after = λ c may. was.after c (all.crash c may) }

pub KeepsElsewhere-all : {D : Type 0} (g : Ghosts D) (old new : D) (at n : ℕ) → KeepsAll g old new → KeepsElsewhere g at n old new
KeepsElsewhere-all g old new at n all =
    record {
      stands = λ a bytes apart was. rw all.seen was;
      lasts = λ a bytes apart was. Lasts-all g old new a bytes all was;
      no_shorter = rw all.seen (omega arith);
      clean = all.clean;
    }

pub KeepsAll-then : {D : Type 0} (g : Ghosts D) (old mid new : D) → KeepsAll g old mid → KeepsAll g mid new → KeepsAll g old new
KeepsAll-then g old mid new first then =
    record {
      seen = then.seen ∙ first.seen;
      crash = λ c may. first.crash c (then.crash c may);
      clean = λ is. first.clean (then.clean is);
    }
