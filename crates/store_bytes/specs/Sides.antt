-- One of two places where bytes are: what each of them keeps true, it keeps true.
use Rattle.std.specs.Prelude.{ℕ}
use Rattle.either.specs.declared.Either.{Either}
use Rattle.either.specs.declared.Either.TheVariants.{Left, Right}
use Rattle.either.specs.Either.{either, MatchEither}
use Rattle.sqlite.specs.Effect.{Database}
use Rattle.store_contents.specs.Layouts.{Layout}
use Rattle.store_bytes.specs.declared.contents.Contents.{Ghosts}
use Rattle.store_bytes.specs.Keeping.{AllPlaces, KeepsBytes}

module _ {A B : Type 0} (a : Ghosts A) (b : Ghosts B) where
  pub side_remembers : (e : Either A B) (run : ℕ × ℕ)
      → MatchEither e (λ x. a.spares x run) (λ y. b.spares y run)
      → MatchEither e (λ x. a.remembers x run) (λ y. b.remembers y run)
  side_remembers (Left x) run spared = a.remembers_spared x run spared
  side_remembers (Right y) run spared = b.remembers_spared y run spared

  pub side_lasts : (e : Either A B) (l : Layout)
      → MatchEither e (λ x. a.may_leave x l) (λ y. b.may_leave y l) → (db : Database)
      → AllPlaces (λ run. MatchEither e (λ x. a.remembers x run) (λ y. b.remembers y run))
      (either a.layout b.layout e) db
      → KeepsBytes (either a.layout b.layout e) l db
  side_lasts (Left x) l may db all = a.lasts x l may db all
  side_lasts (Right y) l may db all = b.lasts y l may db all
