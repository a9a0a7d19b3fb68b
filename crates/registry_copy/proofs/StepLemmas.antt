-- Steps of a copy: what keepers' calls are as steps, and steps one behind the other.
use Rattle.std.proofs.Common.{◌≡◌, ◌∙◌, inl, inr, ℕ, suc, ◌+◌, ◌<◌, List, [], ◌∷◌, true, false, Result, Ok, Err, refl, sym, ap, subst, drop, length, get_or, add-one}
use Rattle.std.specs.Prelude.{⊤, IsErr, IsErrAnd, IfOk, OnOk}
use Rattle.std.proofs.Math.Seq.{drop-cons, drop-length}
use Rattle.oci_types.specs.Text.{Text}
use Rattle.oci_types.specs.declared.fault.Fault.{Fault}
use Rattle.oci_types.specs.declared.fault.Fault.TheVariants as fault
use Rattle.registry_model.specs.World.{World, has_repo}
use Rattle.registry_model.specs.Keeping.{Kept, Writes, Spends}
use Rattle.registry_copy.specs.declared.fault.CopyFault.{CopyFault}
use Rattle.registry_copy.specs.declared.fault.CopyFault.TheVariants.{Memory, Source, Target, Damaged, Occupied}
use Rattle.registry_copy.specs.Faults.{of_source, of_target, IsDamaged, IsOccupied}
use Rattle.registry_copy.specs.Steps.{Side, StaysUnlessSource, SpendsBoth, KeepsRepos, Makes, IsStep, IsPut, Chain, Meets}

-- ---- answers

pub source_ok : {A : Type 0} (r : Result A Fault) (v : A) → Ok v ≡ of_source r → r ≡ Ok v
source_ok (Ok x) v e = cc
source_ok (Err fault.Memory) v e = absurd (cc)
source_ok (Err fault.Storage) v e = absurd (cc)

-- what was said of a read, where it was answered
pub read_as : {V : Type 0} (P : Result V Fault → Type 0) (r : Result V Fault) (v : V) → Ok v ≡ of_source r → P r → P (Ok v)
read_as P r v e h = subst P (source_ok r v e) h

pub target_ok : {A : Type 0} (r : Result A Fault) (v : A) → Ok v ≡ of_target r → r ≡ Ok v
target_ok (Ok x) v e = cc
target_ok (Err fault.Memory) v e = absurd (cc)
target_ok (Err fault.Storage) v e = absurd (cc)

pub read_there : {V : Type 0} (P : Result V Fault → Type 0) (r : Result V Fault) (v : V) → Ok v ≡ of_target r → P r → P (Ok v)
read_there P r v e h = subst P (target_ok r v e) h

pub same_err : {A E : Type 0} (r : Result A E) (e : E) → IsErr r × IsErrAnd r (λ f. f ≡ e) → r ≡ Err e
same_err (Ok v) e is = absurd is.1
same_err (Err f) e is = ap Err is.1

-- the fault of a part is that of the whole
damaged_too : (A : Type 0) (e : CopyFault) → IsDamaged {A = A} (Err e) → IsDamaged {A = ⊤} (Err e)
damaged_too A Memory d = absurd d
damaged_too A Source d = absurd d
damaged_too A Target d = absurd d
damaged_too A Damaged d = tt
damaged_too A Occupied d = absurd d

occupied_too : (A : Type 0) (e : CopyFault) → IsOccupied {A = A} (Err e) → IsOccupied {A = ⊤} (Err e)
occupied_too A Memory d = absurd d
occupied_too A Source d = absurd d
occupied_too A Target d = absurd d
occupied_too A Damaged d = absurd d
occupied_too A Occupied d = tt

pub damaged_part : {A : Type 0} (r : Result A CopyFault) (e : CopyFault) → IsErr r × IsErrAnd r (λ f. f ≡ e) → IsDamaged r → IsDamaged {A = ⊤} (Err e)
damaged_part {A} r e is d = damaged_too A e (subst (λ x. IsDamaged {A = A} x) (same_err r e is) d)

pub occupied_part : {A : Type 0} (r : Result A CopyFault) (e : CopyFault) → IsErr r × IsErrAnd r (λ f. f ≡ e) → IsOccupied r → IsOccupied {A = ⊤} (Err e)
occupied_part {A} r e is d = occupied_too A e (subst (λ x. IsOccupied {A = A} x) (same_err r e is) d)

-- ---- one side that does nothing

abbrev pub resting : Type 0 → Kept → Side
resting h k = record { before = h; after = h; old = k; new = k }

-- a step from one keeper to another, by their parts
abbrev pub from_to : Type 0 → Type 0 → Kept → Kept → Side
from_to h h' k k' = record { before = h; after = h'; old = k; new = k' }

pub if_ok : {A E : Type 0} (r : Result A E) (P Q : A → Type 0) → ((v : A) → P v → Q v) → IfOk r P → IfOk r Q
if_ok (Ok v) P Q f h = f v h
if_ok (Err e) P Q f h = tt

-- nothing was done, since something is not fit
pub refused : (h : Type 0) (k : Kept) (g : Type 0) (j : Kept) {A : Type 0} (M : World → A → World → World → Type 0) (F : World → Type 0) (X : World → World → Type 0)
    → (h → F k.world → ⊥) → IsStep (resting h k) (resting g j) (Err Damaged) M F X
refused h k g j M F X unfit = record {
  source = λ _. refl;
  made = λ _ _. tt;
  there = λ _. tt;
  damaged = λ hf _ fit. unfit hf fit;
  occupied = λ _ _ o. absurd o;
  spends = (refl, refl);
  honest = λ x. x;
  trusted = λ x. x;
}

-- nor for want of memory
pub wanting : (h : Type 0) (k : Kept) (g : Type 0) (j : Kept) {A : Type 0} (M : World → A → World → World → Type 0) (F : World → Type 0) (X : World → World → Type 0)
    → IsStep (resting h k) (resting g j) (Err Memory) M F X
wanting h k g j M F X = record {
  source = λ _. refl;
  made = λ _ _. tt;
  there = λ _. tt;
  damaged = λ _ d. absurd d;
  occupied = λ _ _ o. absurd o;
  spends = (refl, refl);
  honest = λ x. x;
  trusted = λ x. x;
}

-- ---- calls of the keeper of the copy

module _ (g g' : Type 0) (j j' : Kept) {A : Type 0} where
  pub wrote : (r0 : Result A Fault) (r : Result A CopyFault) (next : World → World) (M : World → World → Type 0) (F : Type 0) (X : World → Type 0)
      → r ≡ of_target r0 → (g' → Writes r0 (next j.world) j j') → Spends r0 j j' → (g' → g) → ((w : World) → KeepsRepos w (next w)) → (g' → (w' : World) → w' ≡ next j.world → M j.world w')
      → IsPut (from_to g g' j j') r M F X
  wrote (Ok v) r next M F X e made spends honest keeps become =
      subst (λ x. IsPut (from_to g g' j j') x M F X) (sym e) (record {
        source = λ _. refl;
        made = λ _ ht. (ap (λ x. x.held) (made ht), become ht j'.world (ap (λ x. x.world) (made ht)));
        there = λ ht name is. subst (λ x. has_repo x name ≡ true) (sym (ap (λ x. x.world) (made ht))) (keeps j.world name is);
        damaged = λ _ d. absurd d;
        occupied = λ _ _ o. absurd o;
        spends = (refl, spends.1 ∙ sym spends.0);
        honest = λ x. x;
        trusted = honest;
      })
  wrote (Err fault.Memory) r next M F X e made spends honest keeps become =
      subst (λ x. IsPut (from_to g g' j j') x M F X) (sym e) (record {
        source = λ _. refl;
        made = λ _ _. tt;
        there = λ _. tt;
        damaged = λ _ d. absurd d;
        occupied = λ _ _ o. absurd o;
        spends = (refl, spends.1 ∙ sym spends.0);
        honest = λ x. x;
        trusted = honest;
      })
  wrote (Err fault.Storage) r next M F X e made spends honest keeps become =
      subst (λ x. IsPut (from_to g g' j j') x M F X) (sym e) (record {
        source = λ _. refl;
        made = λ _ _. tt;
        there = λ _. tt;
        damaged = λ _ d. absurd d;
        occupied = λ _ _ o. absurd o;
        spends = (refl, spends);
        honest = λ x. x;
        trusted = honest;
      })

  -- a read that gave up
  pub untold : {V : Type 0} (r0 : Result V Fault) (e : CopyFault) (M : World → World → Type 0) (F : Type 0) (X : World → Type 0)
      → Err e ≡ of_target r0 → Spends r0 j j' → (g' → g) → IsPut (from_to g g' j j') {A = A} (Err e) M F X
  untold (Ok v) e M F X is spends honest = absurd (cc)
  untold (Err fault.Memory) e M F X is spends honest =
      let same : e ≡ Memory = cc in
      subst (λ x. IsPut (from_to g g' j j') {A = A} (Err x) M F X) (sym same) (record {
        source = λ _. refl;
        made = λ _ _. tt;
        there = λ _. tt;
        damaged = λ _ d. absurd d;
        occupied = λ _ _ o. absurd o;
        spends = (refl, spends.1 ∙ sym spends.0);
        honest = λ x. x;
        trusted = honest;
      })
  untold (Err fault.Storage) e M F X is spends honest =
      let same : e ≡ Target = cc in
      subst (λ x. IsPut (from_to g g' j j') {A = A} (Err x) M F X) (sym same) (record {
        source = λ _. refl;
        made = λ _ _. tt;
        there = λ _. tt;
        damaged = λ _ d. absurd d;
        occupied = λ _ _ o. absurd o;
        spends = (refl, spends);
        honest = λ x. x;
        trusted = honest;
      })

  -- the name was found there
  pub found_there : {V : Type 0} (v : V) (M : World → World → Type 0) (F : Type 0) (X : World → Type 0)
      → (g' → X j.world) → Spends (Ok v) j j' → (g' → g) → IsPut (from_to g g' j j') {A = A} (Err Occupied) M F X
  found_there v M F X taken spends honest = record {
    source = λ _. refl;
    made = λ _ _. tt;
    there = λ _. tt;
    damaged = λ _ d. absurd d;
    occupied = λ _ ht _. taken ht;
    spends = (refl, spends.1 ∙ sym spends.0);
    honest = λ x. x;
    trusted = honest;
  }

  -- a step behind a read
  pub read_first : (g1 : Type 0) (j1 : Kept) {V : Type 0} (v : V) (r : Result A CopyFault) (M : World → World → Type 0) (F : Type 0) (X : World → Type 0)
      → (g1 → j1 ≡ j) → Spends (Ok v) j j1 → (g1 → g) → IsPut (from_to g1 g' j1 j') r M F X → IsPut (from_to g g' j j') r M F X
  read_first g1 j1 v r M F X same spends honest p = record {
    source = p.source;
    made = λ u ht. subst (λ x. IfOk r (λ _. Makes M x j')) (same (p.trusted ht)) (p.made u ht);
    there = λ ht. subst (λ x. OnOk r (KeepsRepos x.world j'.world)) (same (p.trusted ht)) (p.there ht);
    damaged = p.damaged;
    occupied = λ u ht o. subst (λ x. X x.world) (same (p.trusted ht)) (p.occupied u ht o);
    spends = subst (λ b. SpendsBoth r false false b j'.spent) (spends.1 ∙ sym spends.0) p.spends;
    honest = λ x. x;
    trusted = λ ht. honest (p.trusted ht);
  }

-- ---- reads of the keeper that is copied

module _ (h h' : Type 0) (k k' : Kept) where
  -- one that gave up
  pub unread : {V A : Type 0} (P : Result V Fault → Type 0) (g : Type 0) (j : Kept) (r0 : Result V Fault) (e : CopyFault) (M : World → A → World → World → Type 0) (F : World → Type 0) (X : World → World → Type 0)
      → Err e ≡ of_source r0 → (h' → P r0) → (P (Err fault.Memory) → k' ≡ k) → Spends r0 k k' → (h' → h)
      → IsStep (from_to h h' k k') (resting g j) {A = A} (Err e) M F X
  unread {A = A} P g j (Ok v) e M F X is found same spends honest = absurd (cc)
  unread {A = A} P g j (Err fault.Memory) e M F X is found same spends honest =
      let at : e ≡ Memory = cc in
      subst (λ x. IsStep (from_to h h' k k') (resting g j) {A = A} (Err x) M F X) (sym at) (record {
        source = λ hf. same (found hf);
        made = λ _ _. tt;
        there = λ _. tt;
        damaged = λ _ d. absurd d;
        occupied = λ _ _ o. absurd o;
        spends = (spends.1 ∙ sym spends.0, refl);
        honest = honest;
        trusted = λ x. x;
      })
  unread {A = A} P g j (Err fault.Storage) e M F X is found same spends honest =
      let at : e ≡ Source = cc in
      subst (λ x. IsStep (from_to h h' k k') (resting g j) {A = A} (Err x) M F X) (sym at) (record {
        source = λ hf. tt;
        made = λ _ _. tt;
        there = λ _. tt;
        damaged = λ _ d. absurd d;
        occupied = λ _ _ o. absurd o;
        spends = (spends, refl);
        honest = honest;
        trusted = λ x. x;
      })

  -- nothing was found
  pub unfound : {V A : Type 0} (v : V) (g : Type 0) (j : Kept) (M : World → A → World → World → Type 0) (F : World → Type 0) (X : World → World → Type 0)
      → (h' → k' ≡ k) → Spends (Ok v) k k' → (h' → h) → (h' → F k.world → ⊥) → IsStep (from_to h h' k k') (resting g j) {A = A} (Err Damaged) M F X
  unfound v g j M F X same spends honest unfit = record {
    source = same;
    made = λ _ _. tt;
    there = λ _. tt;
    damaged = λ hf _ fit. unfit hf fit;
    occupied = λ _ _ o. absurd o;
    spends = (spends.1 ∙ sym spends.0, refl);
    honest = honest;
    trusted = λ x. x;
  }

  -- a put behind one
  pub behind : {V A : Type 0} (v : V) (t : Side) (r : Result A CopyFault) (M : World → World → Type 0) (F : Type 0) (X : World → Type 0)
      (M' : World → A → World → World → Type 0) (F' : World → Type 0) (X' : World → World → Type 0)
      → (h' → k' ≡ k) → Spends (Ok v) k k' → (h' → h) → IsPut t r M F X
      → (h' → (x : A) (w w' : World) → M w w' → M' k.world x w w') → (h' → F' k.world → F) → (h' → (w : World) → X w → X' k.world w)
      → IsStep (from_to h h' k k') t r M' F' X'
  behind v t (Ok x) M F X M' F' X' same spends honest p make fit taken = record {
    source = same;
    made = λ hf ht. ((p.made tt ht).0, make hf x t.old.world t.new.world (p.made tt ht).1);
    there = p.there;
    damaged = λ _ d. absurd d;
    occupied = λ _ _ o. absurd o;
    spends = (spends.1 ∙ sym spends.0, p.spends.1);
    honest = honest;
    trusted = p.trusted;
  }
  behind v t (Err Memory) M F X M' F' X' same spends honest p make fit taken = record {
    source = same;
    made = λ _ _. tt;
    there = p.there;
    damaged = λ _ d. absurd d;
    occupied = λ _ _ o. absurd o;
    spends = (spends.1 ∙ sym spends.0, p.spends.1);
    honest = honest;
    trusted = p.trusted;
  }
  behind v t (Err Source) M F X M' F' X' same spends honest p make fit taken = absurd (let bad : false ≡ true = p.spends.0 in cc)
  behind v t (Err Target) M F X M' F' X' same spends honest p make fit taken = record {
    source = same;
    made = λ _ _. tt;
    there = p.there;
    damaged = λ _ d. absurd d;
    occupied = λ _ _ o. absurd o;
    spends = (spends.1 ∙ sym spends.0, p.spends.1);
    honest = honest;
    trusted = p.trusted;
  }
  behind v t (Err Damaged) M F X M' F' X' same spends honest p make fit taken = record {
    source = same;
    made = λ _ _. tt;
    there = p.there;
    damaged = λ hf _ is. p.damaged tt tt (fit hf is);
    occupied = λ _ _ o. absurd o;
    spends = (spends.1 ∙ sym spends.0, p.spends.1);
    honest = honest;
    trusted = p.trusted;
  }
  behind v t (Err Occupied) M F X M' F' X' same spends honest p make fit taken = record {
    source = same;
    made = λ _ _. tt;
    there = p.there;
    damaged = λ _ d. absurd d;
    occupied = λ hf ht _. taken hf t.old.world (p.occupied tt ht tt);
    spends = (spends.1 ∙ sym spends.0, p.spends.1);
    honest = honest;
    trusted = p.trusted;
  }

-- a step behind one
module _ (h h1 h' : Type 0) (k k1 k' : Kept) where
  pub behind_read : {V A : Type 0} (v : V) (t : Side) (r : Result A CopyFault) (M M' : World → A → World → World → Type 0) (F F' : World → Type 0) (X X' : World → World → Type 0)
      → (h1 → k1 ≡ k) → Spends (Ok v) k k1 → (h1 → h) → IsStep (from_to h1 h' k1 k') t r M F X
      → (h1 → (x : A) (w w' : World) → M k.world x w w' → M' k.world x w w') → (h1 → F' k.world → F k.world) → (h1 → (w : World) → X k.world w → X' k.world w)
      → IsStep (from_to h h' k k') t r M' F' X'
  behind_read v t r M M' F F' X X' same spends honest s make fit taken = record {
    source = λ hf. subst (λ x. StaysUnlessSource r x k') (same (s.honest hf)) (s.source hf);
    made = λ hf ht.
        if_ok r (λ x. Makes (M k1.world x) t.old t.new) (λ x. Makes (M' k.world x) t.old t.new)
        (λ x m. (m.0, make (s.honest hf) x t.old.world t.new.world (subst (λ (y : Kept). M y.world x t.old.world t.new.world) (same (s.honest hf)) m.1)))
        (s.made hf ht);
    there = s.there;
    damaged = λ hf d is. s.damaged hf d (subst (λ (y : Kept). F y.world) (sym (same (s.honest hf))) (fit (s.honest hf) is));
    occupied = λ hf ht o. taken (s.honest hf) t.old.world (subst (λ (y : Kept). X y.world t.old.world) (same (s.honest hf)) (s.occupied hf ht o));
    spends = subst (λ b. SpendsBoth r b k'.spent t.old.spent t.new.spent) (spends.1 ∙ sym spends.0) s.spends;
    honest = λ hf. honest (s.honest hf);
    trusted = s.trusted;
  }

-- ---- one behind the other

-- a step that asks nothing of the keeper that is copied, beside it
pub lifted : (h : Type 0) (k : Kept) (t : Side) {A : Type 0} (v : A) (M : World → World → Type 0) (F : Type 0) (X : World → Type 0) → IsPut t (Ok v) M F X
    → IsStep (resting h k) t (Ok v) (λ _ _. M) (λ _. Unit {0}) (λ _ _. ⊥)
lifted h k t v M F X p = record {
  source = λ _. refl;
  made = λ _ ht. p.made tt ht;
  there = p.there;
  damaged = λ _ d. absurd d;
  occupied = λ _ _ o. absurd o;
  spends = (refl, p.spends.1);
  honest = λ x. x;
  trusted = p.trusted;
}

-- a repository that was there is there behind a step
pub still_there : (f t : Side) {A : Type 0} (v : A) (M : World → A → World → World → Type 0) (F : World → Type 0) (X : World → World → Type 0) (name : Text)
    → IsStep f t (Ok v) M F X → (t.before → t.old.spent ≡ false → has_repo t.old.world name ≡ true) → t.after → t.new.spent ≡ false → has_repo t.new.world name ≡ true
still_there f t v M F X name s there ht unspent = s.there ht name (there (s.trusted ht) (sym s.spends.1 ∙ unspent))

module _ (h h1 h' : Type 0) (k k1 k' : Kept) (g g1 g' : Type 0) (j j1 j' : Kept) {A B : Type 0} where
  pub then_step : (v : A) (r : Result B CopyFault) (M1 : World → A → World → World → Type 0) (F1 : World → Type 0) (X1 : World → World → Type 0)
      (M2 M : World → B → World → World → Type 0) (F2 F : World → Type 0) (X2 X : World → World → Type 0)
      → IsStep (from_to h h1 k k1) (from_to g g1 j j1) (Ok v) M1 F1 X1 → IsStep (from_to h1 h' k1 k') (from_to g1 g' j1 j') r M2 F2 X2
      → ((a : World) (x : B) (w m w' : World) → M1 a v w m → M2 a x m w' → M a x w w') → ((a : World) → F a → F2 a) → ((a w m : World) → M1 a v w m → X2 a m → X a w)
      → IsStep (from_to h h' k k') (from_to g g' j j') r M F X
  then_step v r M1 F1 X1 M2 M F2 F X2 X one two make part taken = record {
    source = λ hf. subst (λ x. StaysUnlessSource r x k') (one.source (two.honest hf)) (two.source hf);
    made = λ hf ht.
        let first = one.made (two.honest hf) (two.trusted ht) in
        if_ok r (λ x. Makes (M2 k1.world x) j1 j') (λ x. Makes (M k.world x) j j')
        (λ x m. (m.0 ∙ first.0, make k.world x j.world j1.world j'.world first.1 (subst (λ (y : Kept). M2 y.world x j1.world j'.world) (one.source (two.honest hf)) m.1)))
        (two.made hf ht);
    there = λ ht. if_ok r (λ _. KeepsRepos j1.world j'.world) (λ _. KeepsRepos j.world j'.world) (λ _ more name is. more name (one.there (two.trusted ht) name is)) (two.there ht);
    damaged = λ hf d fit. two.damaged hf d (subst (λ (y : Kept). F2 y.world) (sym (one.source (two.honest hf))) (part k.world fit));
    occupied = λ hf ht o.
        taken k.world j.world j1.world (one.made (two.honest hf) (two.trusted ht)).1
        (subst (λ (y : Kept). X2 y.world j1.world) (one.source (two.honest hf)) (two.occupied hf ht o));
    spends = subst (λ b. SpendsBoth r k.spent k'.spent b j'.spent) one.spends.1 (subst (λ b. SpendsBoth r b k'.spent j1.spent j'.spent) one.spends.0 two.spends);
    honest = λ hf. one.honest (two.honest hf);
    trusted = λ ht. one.trusted (two.trusted ht);
  }

-- a part of a step that ended it
pub recast : (f t : Side) {A B : Type 0} (e : CopyFault) (M : World → A → World → World → Type 0) (M' : World → B → World → World → Type 0) (F F' : World → Type 0) (X X' : World → World → Type 0)
    → IsStep f t (Err e) M F X → ((a : World) → F' a → F a) → ((a w : World) → X a w → X' a w) → IsStep f t (Err e) M' F' X'
recast f t Memory M M' F F' X X' s fit taken = record { source = s.source; made = λ _ _. tt; there = s.there; damaged = λ _ d. absurd d; occupied = λ _ _ o. absurd o; spends = s.spends; honest = s.honest; trusted = s.trusted }
recast f t Source M M' F F' X X' s fit taken = record { source = s.source; made = λ _ _. tt; there = s.there; damaged = λ _ d. absurd d; occupied = λ _ _ o. absurd o; spends = s.spends; honest = s.honest; trusted = s.trusted }
recast f t Target M M' F F' X X' s fit taken = record { source = s.source; made = λ _ _. tt; there = s.there; damaged = λ _ d. absurd d; occupied = λ _ _ o. absurd o; spends = s.spends; honest = s.honest; trusted = s.trusted }
recast f t Damaged M M' F F' X X' s fit taken = record { source = s.source; made = λ _ _. tt; there = s.there; damaged = λ hf d is. s.damaged hf d (fit f.old.world is); occupied = λ _ _ o. absurd o; spends = s.spends; honest = s.honest; trusted = s.trusted }
recast f t Occupied M M' F F' X X' s fit taken = record { source = s.source; made = λ _ _. tt; there = s.there; damaged = λ _ d. absurd d; occupied = λ hf ht o. taken f.old.world t.old.world (s.occupied hf ht o); spends = s.spends; honest = s.honest; trusted = s.trusted }

-- ---- loops

-- the steps of the first i of a list led from w to w': what the others lead to from there, all do from w
pub record IsRest {E : Type 0} (Step : E → World → World → Type 0) (At : E → World → Type 0) (es : List E) (i : ℕ) (w w' : World) : Type 0 where
  pub chain : (u : World) → Chain Step (drop i es) w' u → Chain Step es w u
  pub meets : Meets Step At (drop i es) w' → Meets Step At es w

module _ {E : Type 0} (Step : World → E → World → World → Type 0) (At : E → World → Type 0) (es : List E) where
  -- a loop that goes on has done a step that is made
  abbrev pub IsGoing : Side → Side → ℕ → Type 0
  IsGoing f t i = IsStep f t {A = ⊤} (Ok tt) (λ a _. IsRest (Step a) At es i) (λ _. ⊤) (λ _ _. ⊥)

  pub begins : (h : Type 0) (k : Kept) (g : Type 0) (j : Kept) → IsGoing (resting h k) (resting g j) 0
  begins h k g j = record {
    source = λ _. refl;
    made = λ _ _. (refl, record { chain = λ u c. c; meets = λ m. m });
    there = λ _ name is. is;
    damaged = λ _ d. absurd d;
    occupied = λ _ _ o. absurd o;
    spends = (refl, refl);
    honest = λ x. x;
    trusted = λ x. x;
  }

  split : (i : ℕ) (e : E) → i < length es → e ≡ get_or es i e → drop i es ≡ e ∷ drop (i + 1) es
  split i e lt is = drop-cons es i e lt ∙ ap (λ x. x ∷ drop (suc i) es) (sym is) ∙ ap (λ n. e ∷ drop n es) (sym (add-one i))

  one_more : (a : World) (i : ℕ) (e : E) (w m w' : World) → i < length es → e ≡ get_or es i e → IsRest (Step a) At es i w m → Step a e m w' → IsRest (Step a) At es (i + 1) w w'
  one_more a i e w m w' lt is rest step = record {
    chain = λ u c. rest.chain u (subst (λ l. Chain (Step a) l m u) (sym (split i e lt is)) (w', step, c));
    meets = λ c. rest.meets (subst (λ l. Meets (Step a) At l m) (sym (split i e lt is)) (inr (w', step, c)));
  }

  module _ (h h1 h' : Type 0) (k k1 k' : Kept) (g g1 g' : Type 0) (j j1 j' : Kept) where
    pub goes_on_with : (i : ℕ) (e : E) (F : World → Type 0) (X : World → World → Type 0) → i < length es → e ≡ get_or es i e
        → IsGoing (from_to h h1 k k1) (from_to g g1 j j1) i → (v : ⊤) → IsStep (from_to h1 h' k1 k') (from_to g1 g' j1 j') (Ok v) (λ a _. Step a e) F X
        → IsGoing (from_to h h' k k') (from_to g g' j j') (i + 1)
    goes_on_with i e F X lt is one v two =
        let nothing : ⊤ = tt in
        let s = then_step h h1 h' k k1 k' g g1 g' j j1 j' nothing (Ok v) (λ a _. IsRest (Step a) At es i) (λ _. ⊤) (λ _ _. ⊥)
        (λ a _. Step a e) (λ a _. IsRest (Step a) At es (i + 1)) F F X (λ a w. (m : World) × X a m) one two
        (λ a x w m w'. one_more a i e w m w' lt is) (λ a fit. fit) (λ a w m rest x. (m, x)) in
        record {
          source = s.source;
          made = s.made;
          there = s.there;
          damaged = λ _ d. absurd d;
          occupied = λ _ _ o. absurd o;
          spends = s.spends;
          honest = s.honest;
          trusted = s.trusted;
        }

    pub ends_with : (i : ℕ) (e : E) (r : Result ⊤ CopyFault) (fault : CopyFault) (F1 F : World → Type 0) (X1 X : World → World → Type 0) → i < length es → e ≡ get_or es i e
        → IsErr r × IsErrAnd r (λ f. f ≡ fault)
        → IsGoing (from_to h h1 k k1) (from_to g g1 j j1) i → IsStep (from_to h1 h' k1 k') (from_to g1 g' j1 j') {A = ⊤} (Err fault) (λ a _. Step a e) F1 X1
        → ((a : World) → F a → F1 a) → ((a w m : World) → IsRest (Step a) At es i w m → X1 a m → X a w)
        → IsStep (from_to h h' k k') (from_to g g' j j') r (λ a _. Chain (Step a) es) F X
    ends_with i e r fault F1 F X1 X lt is err one two fit taken =
        let nothing : ⊤ = tt in
        let ended : Result ⊤ CopyFault = Err fault in
        let s = then_step h h1 h' k k1 k' g g1 g' j j1 j' nothing ended (λ a _. IsRest (Step a) At es i) (λ _. ⊤) (λ _ _. ⊥)
        (λ a _. Step a e) (λ a _ w w'. (m : World) × Step a e m w') F1 F X1 X one two
        (λ a x w m w' rest step. (m, step)) fit taken in
        subst (λ x. IsStep (from_to h h' k k') (from_to g g' j j') x (λ a _. Chain (Step a) es) F X) (sym (same_err r fault err))
        (recast (from_to h h' k k') (from_to g g' j j') fault (λ a _ w w'. (m : World) × Step a e m w') (λ a _. Chain (Step a) es) F F X X s (λ a f. f) (λ a w x. x))

  pub meets_at : (a : World) (i : ℕ) (e : E) (w m : World) → i < length es → e ≡ get_or es i e → IsRest (Step a) At es i w m → At e m → Meets (Step a) At es w
  meets_at a i e w m lt is rest at = rest.meets (subst (λ l. Meets (Step a) At l m) (sym (split i e lt is)) (inl at))

  pub ends : (f t : Side) (i : ℕ) (F : World → Type 0) (X : World → World → Type 0) → i ≡ length es → IsGoing f t i
      → IsStep f t {A = ⊤} (Ok tt) (λ a _. Chain (Step a) es) F X
  ends f t i F X all s =
      let none : drop i es ≡ [] = ap (λ n. drop n es) all ∙ drop-length es in
      record {
        source = s.source;
        made = λ hf ht. let m = s.made hf ht in (m.0, m.1.chain t.new.world (subst (λ l. Chain (Step f.old.world) l t.new.world t.new.world) (sym none) refl));
        there = s.there;
        damaged = λ _ d. absurd d;
        occupied = λ _ _ o. absurd o;
        spends = s.spends;
        honest = s.honest;
        trusted = s.trusted;
      }
