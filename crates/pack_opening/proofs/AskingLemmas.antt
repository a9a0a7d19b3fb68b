-- What is found of the schema over a pack, by the one row that names it and by the table of the pack.
use Rattle.std.proofs.Common.{◌≡◌, ◌≢◌, ◌⊎◌, ◌∙◌, ℕ, ℤ, pos, Bool, true, false, List, [], ◌∷◌, Ok, Err, Result, IfOk, IfErr, OnOk, inl, inr, refl, sym, ap, subst}
use Rattle.std.specs.Prelude.{codes, ⊤}
use Rattle.sqlite.specs.declared.types.Value.TheVariants.{Int}
use Rattle.sqlite.specs.Order.{Row}
use Rattle.sqlite.specs.Effect.{Database}
use Rattle.sqlite.specs.State.{State}
use Rattle.sqlite_schema.specs.Names.{same_name}
use Rattle.store_schema.specs.Layout.{placed}
use Rattle.store_schema.specs.PlaceTables.{pack_table}
use Rattle.store_contents.specs.Layouts.{InPack}
use Rattle.store_statements.specs.Held.{IsSettled}
use Rattle.store_opening.specs.Opening.{IsIdle, KnowsVersion, versions_in, has_version_table}
use Rattle.store_opening.specs.Asking.{IsOfSchema, IsUnnumbered, IsWanting, IsWantingOr, ShowsAlone}
use Rattle.store_opening.specs.declared.opening.OpenFault.{OpenFault}
use Rattle.store_opening.specs.declared.opening.OpenFault.TheVariants.{Memory, Storage, NotARegistry, Schema as Numbered}
use Rattle.store_opening.proofs.OpeningLemmas.{has_position, same_alone, is_marked}
use Rattle.pack_opening.specs.Making.{IsPackRegistry}
use Rattle.pack_opening.specs.Asking.{has_pack_table, IsToldOther, NamesNotThree}

pub knows_version : (file : List ℕ) (db : Database) → IsPackRegistry file db → KnowsVersion db.schema
knows_version file db it = record { stands = it.holds.known.version; find = it.holds.known.version_texts.find }

pub shows_three : (file : List ℕ) (db : Database) → IsPackRegistry file db → ShowsAlone (versions_in db) (pos 3)
shows_three file db it = (Int (pos 3) ∷ [], it.agree.version, refl)

pub is_packed : (file : List ℕ) (db : Database) → IsPackRegistry file db → has_pack_table db.schema ≡ true
unfolding same_name
is_packed file db it =
    let pack = it.holds.known.contents.pack in
    has_position (λ t. same_name t.name (codes "registry_pack")) 0 pack.at db.schema.tables (placed db.schema pack_table) pack.place refl

pub has_versions : (file : List ℕ) (db : Database) → IsPackRegistry file db → has_version_table db.schema ≡ true
has_versions file db it = is_marked db.schema it.holds.known.version

pub settled : (file : List ℕ) (s : State) → IsIdle s → IsPackRegistry file s.now → IsSettled (InPack file) s
settled file s idle it = record { is_open = idle.is_open; autocommit = idle.autocommit; committed = idle.committed; holds = it.holds; agree = it.agree }

-- ---- what is answered to the number that is found

module _ (found : Result ℤ OpenFault) (packed : Bool) where
  abbrev pub Serves : Result ⊤ OpenFault → Type 0
  Serves r = OnOk r ((found ≡ Ok (pos 3)) × (packed ≡ true))

  abbrev pub Refuses : Result ⊤ OpenFault → Type 0
  Refuses r =
      IfErr r (λ e. IfOk found (λ n. ((n ≢ pos 3) × (e ≡ Numbered n)) ⊎ ((n ≡ pos 3) × (packed ≡ false) × (e ≡ NotARegistry))) × IfErr found (λ f. e ≡ f))

  pub on_three : (r : Result ⊤ OpenFault) (P Q : Type 0) → Serves r → OnOk found P → (P → Q) → OnOk r Q
  on_three (Ok x) P Q is h then = then (subst (λ f. OnOk f P) is.0 h)
  on_three (Err e) P Q is h then = tt

  pub three_asked : (s : State) (r : Result ⊤ OpenFault) → Serves r → IfOk found (IsOfSchema s) → OnOk r (IsOfSchema s (pos 3))
  three_asked s (Ok x) is of = subst (λ f. IfOk f (IsOfSchema s)) is.0 of
  three_asked s (Err e) is of = tt

  pub three_packed : (r : Result ⊤ OpenFault) (has : Bool) → Serves r → packed ≡ has → OnOk r (has ≡ true)
  three_packed (Ok x) has is same = sym same ∙ is.1
  three_packed (Err e) has is same = tt

-- where the one number is 3 and there is the table, only want of memory or a failure refuses
pub wanting_three : (rows : List Row) (found : Result ℤ OpenFault) (packed : Bool) (r : Result ⊤ OpenFault) → IfOk found (ShowsAlone rows) → packed ≡ true
    → Refuses found packed r → ShowsAlone rows (pos 3) → IfErr found IsWanting → IfErr r IsWanting
wanting_three rows found packed (Ok x) alone there refuses says wanting = tt
wanting_three rows (Ok n) packed (Err e) alone there refuses says wanting = elim refuses.0 [
  | inl other ↦ absurd (other.0 (same_alone rows n (pos 3) alone says))
  | inr unpacked ↦ absurd (let x = sym there ∙ unpacked.1 in cc)
]
wanting_three rows (Err k) packed (Err e) alone there refuses says wanting = subst IsWanting (sym refuses.1) wanting

-- another number is named
pub other_told : (rows : List Row) (found : Result ℤ OpenFault) (packed : Bool) (r : Result ⊤ OpenFault) → IfOk found (ShowsAlone rows)
    → Refuses found packed r → (n : ℤ) → ShowsAlone rows n → n ≢ pos 3 → IfErr found IsWanting → IfErr r (IsWantingOr (Numbered n))
other_told rows found packed (Ok x) alone refuses n says not_three wanting = tt
other_told rows (Ok m) packed (Err e) alone refuses n says not_three wanting = elim refuses.0 [
  | inl other ↦ inr (other.1 ∙ ap Numbered (same_alone rows m n alone says))
  | inr unpacked ↦ absurd (not_three (same_alone rows n m says alone ∙ unpacked.0))
]
other_told rows (Err k) packed (Err e) alone refuses n says not_three wanting = inl (subst IsWanting (sym refuses.1) wanting)

told_none : (s : State) (k : OpenFault) → IsUnnumbered k → IsToldOther s k
told_none s Memory none = tt
told_none s Storage none = tt
told_none s NotARegistry none = tt
told_none s (Numbered n) none = absurd none

names_none : (k : OpenFault) → IsUnnumbered k → NamesNotThree k
names_none Memory none = tt
names_none Storage none = tt
names_none NotARegistry none = tt
names_none (Numbered n) none = absurd none

pub told_other : (s : State) (found : Result ℤ OpenFault) (packed : Bool) (r : Result ⊤ OpenFault) → Refuses found packed r → IfOk found (IsOfSchema s)
    → IfErr found IsUnnumbered → IfErr r (IsToldOther s)
told_other s found packed (Ok x) refuses of none = tt
told_other s (Ok n) packed (Err e) refuses of none = elim refuses.0 [
  | inl other ↦ subst (IsToldOther s) (sym other.1) (other.0, of)
  | inr unpacked ↦ subst (IsToldOther s) (sym unpacked.2) tt
]
told_other s (Err k) packed (Err e) refuses of none = subst (IsToldOther s) (sym refuses.1) (told_none s k none)

pub never_three : (found : Result ℤ OpenFault) (packed : Bool) (r : Result ⊤ OpenFault) → Refuses found packed r → IfErr found IsUnnumbered
    → IfErr r NamesNotThree
never_three found packed (Ok x) refuses none = tt
never_three (Ok n) packed (Err e) refuses none = elim refuses.0 [
  | inl other ↦ subst NamesNotThree (sym other.1) other.0
  | inr unpacked ↦ subst NamesNotThree (sym unpacked.2) tt
]
never_three (Err k) packed (Err e) refuses none = subst NamesNotThree (sym refuses.1) (names_none k none)

pub unanswered : (s : State) (found : Result ℤ OpenFault) (packed : Bool) (r : Result ⊤ OpenFault) → Refuses found packed r → IfOk found (IsOfSchema s)
    → IfErr found (IsWantingOr NotARegistry) → ((n : ℤ) → IsOfSchema s n → ⊥) → IfErr r (IsWantingOr NotARegistry)
unanswered s found packed (Ok x) refuses of wants none = tt
unanswered s (Ok n) packed (Err e) refuses of wants none = absurd (none n of)
unanswered s (Err k) packed (Err e) refuses of wants none = subst (IsWantingOr NotARegistry) (sym refuses.1) wants
