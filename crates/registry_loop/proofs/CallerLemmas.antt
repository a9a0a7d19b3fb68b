-- Those who give orders, beside connections.
use Rattle.std.proofs.Common.{◌≡◌, inl, inr, Bool, true, false, List, [], ◌∷◌, refl, sym, subst}
use Rattle.oci_types.specs.Text.{Text}
use Rattle.registry_model.specs.Keeping.{Kept}
use Rattle.order_carrying.specs.Answering.{IsOneStep}
use Rattle.order_sockets.specs.Calling.{Called, CarriesOutLine, Obeys, Attends, AttendsAll, AttendsRound}
use Rattle.registry_loop.specs.Together.{PassesBeside}
use Rattle.registry_loop.proofs.TogetherLemmas.{beside_none, beside_then, beside_step}

obeyed : (line : Text) (new : Called) (s s' : Kept) → Obeys line new s s' → IsOneStep s s'
obeyed line new s s' (inl x) = inl x.1.same
obeyed line new s s' (inr x) = carried x.2
  where
    carried : CarriesOutLine line new s s' → IsOneStep s s'
    carried (inl y) = y.0
    carried (inr y) = inl y.0

one_attended : (old new : Called) (s s' : Kept) → Attends old new s s' → IsOneStep s s'
one_attended old new s s' x = by_old old.answered refl
  where
    by_new : old.answered ≡ false → (f : Bool) → new.answered ≡ f → IsOneStep s s'
    by_new e true f = let y = x.now e f in obeyed y.0 new s s' y.2
    by_new e false f = inl (x.not_yet f).0

    by_old : (f : Bool) → old.answered ≡ f → IsOneStep s s'
    by_old true e = inl (x.before e).3
    by_old false e = by_new e new.answered refl

-- all that is done for them leaves all connections as they are
all_beside : (old new : List Called) (s s' : Kept) → AttendsAll old new s s' → PassesBeside s s'
all_beside [] [] s s' x = subst (λ (k : Kept). PassesBeside s k) (sym x) (beside_none s)
all_beside [] (d ∷ new) s s' x = absurd x
all_beside (c ∷ old) [] s s' x = absurd x
all_beside (c ∷ old) (d ∷ new) s s' x =
    beside_then s x.0 s' (beside_step s x.0 (one_attended c d s x.0 x.1)) (all_beside old new x.0 s' x.2)

pub round_beside : (old new : List Called) (s s' : Kept) → AttendsRound old new s s' → PassesBeside s s'
round_beside old new s s' x = all_beside x.there x.attended s s' x.attends
