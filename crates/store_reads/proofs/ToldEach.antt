-- What is read behind each of several values, of a database that stays.
use Rattle.std.proofs.Common.{◌≡◌, ◌++◌, List, [], ◌∷◌, map, Ok, Err, Result, IfOk, IsOkAnd, refl, sym, subst}
use Rattle.sqlite.specs.Effect.{Database}
use Rattle.oci_types.specs.declared.fault.Fault.{Fault}
use Rattle.store_contents.specs.Layouts.{Layout}
use Rattle.store_statements.specs.Tables.{Tables}
use Rattle.store_statements.specs.Held.{tables_in}
use Rattle.store_reads.specs.Each.{AreTold}

module _ {A B : Type 0} where
  joined : (Told : A → B → Type 0) (given : List A) (values : List B) (x : A) (v : B) → AreTold Told given values → Told x v → AreTold Told (given ++ x ∷ []) (values ++ v ∷ [])
  joined Told [] [] x v all one = (one, tt)
  joined Told [] (w ∷ values) x v all one = absurd all
  joined Told (y ∷ given) [] x v all one = absurd all
  joined Told (y ∷ given) (w ∷ values) x v all one = (all.0, joined Told given values x v all.1 one)

  -- one more
  pub one_told : (l : Layout) → (Told : Tables → A → B → Type 0) (old mid : Database) (given : List A) (x : A) (found : Result B Fault) (values news : List B) → mid ≡ old
      → AreTold (Told (tables_in l old)) given values → IfOk found (Told (tables_in l mid) x) → IsOkAnd found (λ v. news ≡ values ++ v ∷ []) → AreTold (Told (tables_in l old)) (given ++ x ∷ []) news
  one_told l Told old mid given x (Ok v) values news same all one is =
      subst (AreTold (Told (tables_in l old)) (given ++ x ∷ [])) (sym is)
      (joined (Told (tables_in l old)) given values x v all (subst (λ (d : Database). Told (tables_in l d) x v) same one))
  one_told l Told old mid given x (Err e) values news same all one is = absurd is

  -- where what is told is a function of what was given
  pub mapped : {X : Type 0} (Told : A → B → Type 0) (f : A → X) (h : B → X) → ((x : A) (v : B) → Told x v → h v ≡ f x) → (given : List A) (values : List B) → AreTold Told given values → map h values ≡ map f given
  mapped Told f h each [] [] all = refl
  mapped Told f h each [] (v ∷ values) all = absurd all
  mapped Told f h each (x ∷ given) [] all = absurd all
  mapped Told f h each (x ∷ given) (v ∷ values) all = λ i. each x v all.0 i ∷ mapped Told f h each given values all.1 i
