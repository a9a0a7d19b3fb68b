-- What a clause says of one of two places where bytes are, it says of the two.
use Rattle.std.proofs.Common.{Result}
use Rattle.std.specs.Prelude.{⊤}
use Rattle.std.proofs.lemmas.Result.{on_ok_weaker}
use Rattle.either.specs.declared.Either.{Either}
use Rattle.either.specs.declared.Either.TheVariants.{Left, Right}
use Rattle.either.specs.Either.{either, MatchEither}
use Rattle.sqlite_trees.specs.declared.store.Store.{Ghosts}
use Rattle.sqlite.specs.Held.{Held}
use Rattle.oci_types.specs.declared.fault.Fault.{Fault}
use Rattle.registry_model.specs.World.{World}
use Rattle.store_bytes.specs.declared.contents.Contents as contents
use Rattle.store_bytes.specs.Sides.{side_lasts, side_remembers}
use Rattle.registry_store.specs.Calls.{CrashLeaves, Frees, Makes, StaysOnMemory}
use Rattle.registry_store.specs.Kept.{IsInOrder}

abbrev pub sides : {A B : Type 0} → contents.Ghosts A → contents.Ghosts B → contents.Ghosts (Either A B)
sides a b = record {
  layout = λ e. either a.layout b.layout e;
  may_leave = λ e l. MatchEither e (λ x. a.may_leave x l) (λ y. b.may_leave y l);
  is_clean = λ e. either a.is_clean b.is_clean e;
  remembers = λ e run. MatchEither e (λ x. a.remembers x run) (λ y. b.remembers y run);
  spares = λ e run. MatchEither e (λ x. a.spares x run) (λ y. b.spares y run);
  owns = λ e staged. MatchEither e (λ x. a.owns x staged) (λ y. b.owns y staged);
  names = λ e rows. MatchEither e (λ x. a.names x rows) (λ y. b.names y rows);
  refuses = λ e age. MatchEither e (λ x. a.refuses x age) (λ y. b.refuses y age);
  remembers_spared = λ e run spared. side_remembers a b e run spared;
  lasts = λ e l may db all. side_lasts a b e l may db all;
}

module _ {S A B : Type 0} (g : Ghosts S) (a : contents.Ghosts A) (b : contents.Ghosts B) where
  -- ---- the first

  left_order : (conn : Held S) (x : A) → IsInOrder g a (conn, x) → IsInOrder g (sides a b) (conn, Left x)
  left_order conn x is = record { settled = is.settled; spared = is.spared; named = is.named }

  order_left : (conn : Held S) (x : A) → IsInOrder g (sides a b) (conn, Left x) → IsInOrder g a (conn, x)
  order_left conn x is = record { settled = is.settled; spared = is.spared; named = is.named }

  module _ (old new : Held S) (x y : A) (r : Result ⊤ Fault) where
    pub left_made : (f : World → World) → Makes g a (old, x) (new, y) r f → Makes g (sides a b) (old, Left x) (new, Left y) r f
    left_made f it clean is = on_ok_weaker r (λ p. (left_order new y p.0, p.1)) (it clean (order_left old x is))

    pub left_freed : Frees g a (old, x) (new, y) r → Frees g (sides a b) (old, Left x) (new, Left y) r
    left_freed it clean is = it clean (order_left old x is)

    pub left_stayed : StaysOnMemory g a (old, x) (new, y) r → StaysOnMemory g (sides a b) (old, Left x) (new, Left y) r
    left_stayed it clean is wanting = let p = it clean (order_left old x is) wanting in (left_order new y p.0, p.1)

    pub left_leaves : (f : World → World) → CrashLeaves g a (old, x) (new, y) r f → CrashLeaves g (sides a b) (old, Left x) (new, Left y) r f
    left_leaves f it clean is = it clean (order_left old x is)

  -- ---- the other

  right_order : (conn : Held S) (x : B) → IsInOrder g b (conn, x) → IsInOrder g (sides a b) (conn, Right x)
  right_order conn x is = record { settled = is.settled; spared = is.spared; named = is.named }

  order_right : (conn : Held S) (x : B) → IsInOrder g (sides a b) (conn, Right x) → IsInOrder g b (conn, x)
  order_right conn x is = record { settled = is.settled; spared = is.spared; named = is.named }

  module _ (old new : Held S) (x y : B) (r : Result ⊤ Fault) where
    pub right_made : (f : World → World) → Makes g b (old, x) (new, y) r f → Makes g (sides a b) (old, Right x) (new, Right y) r f
    right_made f it clean is = on_ok_weaker r (λ p. (right_order new y p.0, p.1)) (it clean (order_right old x is))

    pub right_freed : Frees g b (old, x) (new, y) r → Frees g (sides a b) (old, Right x) (new, Right y) r
    right_freed it clean is = it clean (order_right old x is)

    pub right_stayed : StaysOnMemory g b (old, x) (new, y) r → StaysOnMemory g (sides a b) (old, Right x) (new, Right y) r
    right_stayed it clean is wanting = let p = it clean (order_right old x is) wanting in (right_order new y p.0, p.1)

    pub right_leaves : (f : World → World) → CrashLeaves g b (old, x) (new, y) r f → CrashLeaves g (sides a b) (old, Right x) (new, Right y) r f
    right_leaves f it clean is = it clean (order_right old x is)
