-- What is wrong, item by item, in a world that stays.
use Rattle.std.proofs.Common.{◌≡◌, ◌∙◌, ℕ, ◌+◌, ◌<◌, false, List, [], ◌∷◌, ◌++◌, length, take, get_or, Option, None, Some, sym, ap, subst, append_assoc}
use Rattle.std.specs.Prelude.{Result, Ok, Err, MatchResult}
use Rattle.std.specs.Result.{IsErr, IsErrAnd}
use Rattle.std.specs.List.{filter_map, flat_map, cons_option}
use Rattle.std.specs.Io.KnownBytes.{Appends}
use Rattle.std.proofs.lemmas.List.{take_more, flat_map_more}
use Rattle.std.proofs.lemmas.List.Elements.{filter_map-append}
use Rattle.oci_types.specs.Text.{Text}
use Rattle.oci_types.specs.declared.fault.Fault.{Fault}
use Rattle.oci_types.specs.declared.fault.Fault.TheVariants.{Memory, Storage}
use Rattle.registry_model.specs.World.{World}
use Rattle.registry_model.specs.Keeping as keeping
use Rattle.registry_model.specs.Keeping.{Reads, Spends}
use Rattle.registry_checking.specs.declared.wrong.Wrong.{Wrong}
use Rattle.registry_checking.specs.Wrongs.{Notes, IsNoted}

-- what is said where something is noted, and what is wrong is `found`
abbrev pub Noting : Result (Unit {0}) Fault → List Wrong → List Wrong → List Wrong → keeping.Kept → keeping.Kept → Type 0 → Type 0 → Type 0
Noting r found old new s s' before after =
    record { found : after → Notes r found old new s s'; spends : Spends r s s'; honest : after → before }

-- what a read says
abbrev pub Reading : {A : Type 0} → Result A Fault → A → keeping.Kept → keeping.Kept → Type 0 → Type 0 → Type 0
Reading {A} r v s s' before after =
    record { found : after → Reads {A = A} r v s s'; spends : Spends {A = A} r s s'; honest : after → before }

-- a read's fault is passed on, whatever is wrong
pub unread : {A : Type 0} (v : A) (r : Result (Unit {0}) Fault) (e : Fault) (found old : List Wrong) (s s' : keeping.Kept) (before after : Type 0)
    → IsErr r × IsErrAnd r (λ f. f ≡ e) → Reading (Err e) v s s' before after → Noting r found old old s s' before after
unread v (Ok x) e found old s s' before after is h = absurd is.1
unread {A} v (Err f) e found old s s' before after is h = by_fault f (subst (λ x. Reading {A = A} (Err x) v s s' before after) (sym is.1) h)
  where
    by_fault : (f : Fault) → Reading {A = A} (Err f) v s s' before after → Noting (Err f) found old old s s' before after
    by_fault Memory h = record { found = h.found; spends = h.spends; honest = h.honest }
    by_fault Storage h = record { found = λ honest. tt; spends = h.spends; honest = h.honest }

-- so is that of the first of several reads, and that of a later one
pub read_failed : {A B : Type 0} (v : A) (value : B) (r : Result B Fault) (e : Fault) (s s' : keeping.Kept) (before after : Type 0)
    → IsErr r × IsErrAnd r (λ f. f ≡ e) → Reading (Err e) v s s' before after → Reading r value s s' before after
read_failed v value (Ok x) e s s' before after is h = absurd is.1
read_failed {A} {B} v value (Err f) e s s' before after is h = by_fault f (subst (λ x. Reading {A = A} (Err x) v s s' before after) (sym is.1) h)
  where
    by_fault : (f : Fault) → Reading {A = A} (Err f) v s s' before after → Reading {A = B} (Err f) value s s' before after
    by_fault Memory h = record { found = h.found; spends = h.spends; honest = h.honest }
    by_fault Storage h = record { found = λ honest. tt; spends = h.spends; honest = h.honest }

pub later_failed : {A B : Type 0} (v : A) (value : B) (r : Result B Fault) (e : Fault) (s mid s' : keeping.Kept) (before between after : Type 0)
    → IsErr r × IsErrAnd r (λ f. f ≡ e) → Reading (Err e) v mid s' between after → (between → mid ≡ s) → s.spent ≡ false → (between → before)
    → Reading r value s s' before after
later_failed v value (Ok x) e s mid s' before between after is h same unspent early = absurd is.1
later_failed {A} {B} v value (Err f) e s mid s' before between after is h same unspent early =
    by_fault f (subst (λ x. Reading {A = A} (Err x) v mid s' between after) (sym is.1) h)
  where
    by_fault : (f : Fault) → Reading {A = A} (Err f) v mid s' between after → Reading {A = B} (Err f) value s s' before after
    by_fault Memory h = record { found = λ honest. h.found honest ∙ same (h.honest honest); spends = (unspent, h.spends.1); honest = λ honest. early (h.honest honest) }
    by_fault Storage h = record { found = λ honest. tt; spends = h.spends; honest = λ honest. early (h.honest honest) }

-- what is made of what reads told
pub judged : {A : Type 0} (r : Result A Fault) (made value : A) (s s' : keeping.Kept) (before after : Type 0)
    → MatchResult r (λ found. found ≡ made) (λ fault. fault ≡ Memory) → (after → (made ≡ value) × (s' ≡ s)) → s.spent ≡ false → s'.spent ≡ false → (after → before)
    → Reading r value s s' before after
judged (Ok x) made value s s' before after told read unspent late early =
    record { found = λ honest. (told ∙ (read honest).0, (read honest).1); spends = (unspent, late); honest = early }
judged (Err Memory) made value s s' before after told read unspent late early =
    record { found = λ honest. (read honest).1; spends = (unspent, late); honest = early }
judged (Err Storage) made value s s' before after told read unspent late early = absurd (let bad : Storage ≡ Memory = told in cc)

-- and so is the fault of a part
pub passed_on : (r : Result (Unit {0}) Fault) (e : Fault) (found others old new : List Wrong) (s s' : keeping.Kept) (before after : Type 0)
    → IsErr r × IsErrAnd r (λ f. f ≡ e) → Noting (Err e) others old new s s' before after → Noting r found old new s s' before after
passed_on (Ok x) e found others old new s s' before after is h = absurd is.1
passed_on (Err f) e found others old new s s' before after is h = by_fault f (subst (λ x. Noting (Err x) others old new s s' before after) (sym is.1) h)
  where
    by_fault : (f : Fault) → Noting (Err f) others old new s s' before after → Noting (Err f) found old new s s' before after
    by_fault Memory h = record { found = h.found; spends = h.spends; honest = h.honest }
    by_fault Storage h = record { found = λ honest. tt; spends = h.spends; honest = h.honest }

-- one part behind another
pub joined : (r : Result (Unit {0}) Fault) (v : Unit {0}) (first : List Wrong) (second : World → List Wrong) (old mid new : List Wrong) (s s1 s' : keeping.Kept) (before between after : Type 0)
    → Noting (Ok v) first old mid s s1 before between → Noting r (second s1.world) mid new s1 s' between after → Noting r (first ++ second s.world) old new s s' before after
joined (Ok x) v first second old mid new s s1 s' before between after h k = record {
  found = λ honest.
      let early = h.found (k.honest honest) in
      let late = k.found honest in (
        late.0 ∙ ap (λ (x : keeping.Kept). mid ++ second x.world) early.1 ∙ ap (λ xs. xs ++ second s.world) early.0 ∙ append_assoc old first (second s.world),
        late.1 ∙ early.1,
      );
  spends = (h.spends.0, k.spends.1);
  honest = λ honest. h.honest (k.honest honest);
}
joined (Err Memory) v first second old mid new s s1 s' before between after h k = record {
  found = λ honest. k.found honest ∙ (h.found (k.honest honest)).1;
  spends = (h.spends.0, k.spends.1);
  honest = λ honest. h.honest (k.honest honest);
}
joined (Err Storage) v first second old mid new s s1 s' before between after h k =
    record { found = λ honest. tt; spends = k.spends; honest = λ honest. h.honest (k.honest honest) }

-- what is wrong with all that a read told, in one after the other
pub of_all_read : {A : Type 0} (r : Result (Unit {0}) Fault) (made : World → List A → List Wrong) (given told all : List A) (old new : List Wrong) (s s1 s' : keeping.Kept) (before between after : Type 0)
    → given ≡ told → (between → (told ≡ all) × (s1 ≡ s)) → s.spent ≡ false → (between → before) → Noting r (made s1.world given) old new s1 s' between after
    → Noting r (made s.world all) old new s s' before after
of_all_read (Ok x) made given told all old new s s1 s' before between after is read unspent early k = record {
  found = λ honest.
      let first = read (k.honest honest) in
      let late = k.found honest in (
        late.0 ∙ ap (λ (x : keeping.Kept). old ++ made x.world given) first.1 ∙ ap (λ xs. old ++ made s.world xs) (is ∙ first.0),
        late.1 ∙ first.1,
      );
  spends = (unspent, k.spends.1);
  honest = λ honest. early (k.honest honest);
}
of_all_read (Err Memory) made given told all old new s s1 s' before between after is read unspent early k = record {
  found = λ honest. k.found honest ∙ (read (k.honest honest)).1;
  spends = (unspent, k.spends.1);
  honest = λ honest. early (k.honest honest);
}
of_all_read (Err Storage) made given told all old new s s1 s' before between after is read unspent early k =
    record { found = λ honest. tt; spends = k.spends; honest = λ honest. early (k.honest honest) }

-- a read, noted
pub noted : (found : Result (Option Wrong) Fault) (r : Result (Unit {0}) Fault) (o : Option Wrong) (old new : List Wrong) (s s' : keeping.Kept) (before after : Type 0)
    → IsNoted found r old new → Reading found o s s' before after → Noting r (cons_option o []) old new s s' before after
noted (Ok v) (Ok x) o old new s s' before after is h = record {
  found = λ honest. let told = h.found honest in (is ∙ ap (λ o. old ++ cons_option o []) told.0, told.1);
  spends = h.spends;
  honest = h.honest;
}
noted (Ok v) (Err e) o old new s s' before after is h =
    subst (λ f. Noting (Err f) (cons_option o []) old new s s' before after) (sym is)
    (let it : Noting (Err Memory) (cons_option o []) old new s s' before after = record { found = λ honest. (h.found honest).1; spends = h.spends; honest = h.honest } in it)
noted (Err e) (Ok x) o old new s s' before after is h = absurd is
noted (Err e) (Err f) o old new s s' before after is h = subst (λ f. Noting (Err f) (cons_option o []) old new s s' before after) (sym is) (by_fault e h)
  where
    by_fault : (e : Fault) → Reading {A = Option Wrong} (Err e) o s s' before after → Noting (Err e) (cons_option o []) old new s s' before after
    by_fault Memory h = record { found = h.found; spends = h.spends; honest = h.honest }
    by_fault Storage h = record { found = λ honest. tt; spends = h.spends; honest = h.honest }

-- ---- one after the other

-- so far what is wrong with these stands behind what stood there before, and nothing changed
abbrev pub SoFar : List Wrong → List Wrong → List Wrong → keeping.Kept → keeping.Kept → Type 0 → Type 0 → Type 0
SoFar found old now s s' before after =
    record { unspent : s'.spent ≡ false; honest : after → before; same : after → s' ≡ s; found : after → now ≡ old ++ found }

module _ (v : Unit {0}) (found old now new : List Wrong) (one : World → List Wrong) (s s1 s' : keeping.Kept) (before between after : Type 0) (so_far : SoFar found old now s s1 before between) where
  pub one_more : (next : List Wrong) → Noting (Ok v) (one s1.world) now new s1 s' between after → found ++ one s.world ≡ next → SoFar next old new s s' before after
  one_more next k e = record {
    unspent = k.spends.1;
    honest = λ honest. so_far.honest (k.honest honest);
    same = λ honest. (k.found honest).1 ∙ so_far.same (k.honest honest);
    found = λ honest.
        let early = k.honest honest in
        (k.found honest).0 ∙ ap (λ (x : keeping.Kept). now ++ one x.world) (so_far.same early) ∙ ap (λ xs. xs ++ one s.world) (so_far.found early)
        ∙ append_assoc old found (one s.world) ∙ ap (λ xs. old ++ xs) e;
  }

-- it ends where one cannot be looked at
pub stopped : (r : Result (Unit {0}) Fault) (e : Fault) (found all others old now new : List Wrong) (s s1 s' : keeping.Kept) (before between after : Type 0) → SoFar found old now s s1 before between
    → s.spent ≡ false → IsErr r × IsErrAnd r (λ f. f ≡ e) → Noting (Err e) others now new s1 s' between after → Noting r all old new s s' before after
stopped (Ok x) e found all others old now new s s1 s' before between after so_far unspent is k = absurd is.1
stopped (Err f) e found all others old now new s s1 s' before between after so_far unspent is k =
    by_fault f (subst (λ x. Noting (Err x) others now new s1 s' between after) (sym is.1) k)
  where
    by_fault : (f : Fault) → Noting (Err f) others now new s1 s' between after → Noting (Err f) all old new s s' before after
    by_fault Memory k = record {
      found = λ honest. k.found honest ∙ so_far.same (k.honest honest);
      spends = (unspent, k.spends.1);
      honest = λ honest. so_far.honest (k.honest honest);
    }
    by_fault Storage k = record { found = λ honest. tt; spends = k.spends; honest = λ honest. so_far.honest (k.honest honest) }

-- and else behind the last
pub done : (found all old now : List Wrong) (s s' : keeping.Kept) (before after : Type 0) → SoFar found old now s s' before after → s.spent ≡ false → found ≡ all
    → Noting (Ok tt) all old now s s' before after
done found all old now s s' before after so_far unspent e = record {
  found = λ honest. (so_far.found honest ∙ ap (λ xs. old ++ xs) e, so_far.same honest);
  spends = (unspent, so_far.unspent);
  honest = so_far.honest;
}

-- ---- one more of those that a loop goes over

taken : {X : Type 0} (xs : List X) (i : ℕ) (x : X) → i < length xs → x ≡ get_or xs i x → take (i + 1) xs ≡ take i xs ++ x ∷ []
taken xs i x low is = take_more xs i x low ∙ ap (λ y. take i xs ++ y ∷ []) (sym is)

pub kept_more : {A B : Type 0} (h : A → Option B) (xs : List A) (i : ℕ) (x : A) → i < length xs → x ≡ get_or xs i x
    → filter_map h (take i xs) ++ cons_option (h x) [] ≡ filter_map h (take (i + 1) xs)
kept_more h xs i x low is = sym (filter_map-append h (take i xs) (x ∷ [])) ∙ ap (filter_map h) (sym (taken xs i x low is))

pub flat_more : {A B : Type 0} (h : A → List B) (xs : List A) (i : ℕ) (x : A) → i < length xs → x ≡ get_or xs i x
    → flat_map h (take i xs) ++ h x ≡ flat_map h (take (i + 1) xs)
flat_more h xs i x low is = flat_map_more h [] (take i xs) x ∙ ap (flat_map h) (sym (taken xs i x low is))

pub appends_more : (a b c : Option Text) (x y : Text) → Appends a b x → Appends b c y → Appends a c (x ++ y)
appends_more None b c x y first second = tt
appends_more (Some s) None c x y first second = absurd first
appends_more (Some s) (Some t) None x y first second = absurd second
appends_more (Some s) (Some t) (Some u) x y first second = second ∙ ap (λ v. v ++ y) first ∙ append_assoc s x y
