-- What is staged of connections that are gone.
use Rattle.std.proofs.Common.{◌≡◌, ℕ, ◌==◌, Bool, true, false, List, [], ◌∷◌, ◌++◌, Option, None, Some, refl, ap, ◌∙◌, append-nil, append_assoc}
use Rattle.std.specs.Prelude.{if◌then◌else◌, option_to_list, All}
use Rattle.std.proofs.lemmas.List.Elements.{All-cons, All-weaker}
use Rattle.oci_types.specs.Text.{Text}
use Rattle.registry_model.specs.Keeping.{Kept}
use Rattle.registry_holding.specs.Holding.{with_stage}
use Rattle.registry_server.specs.Open.{Slot}
use Rattle.registry_server.specs.Events.{IsUnstaged}

none_there : (b : Bool) (o : Option Text) → o ≡ None → (if b then None else o) ≡ None
none_there true o e = refl
none_there false o e = e

pub still_unstaged : (key : ℕ) (k k' : Kept) → k' ≡ with_stage k key None → (n : ℕ) → k.held.stages n ≡ None → k'.held.stages n ≡ None
still_unstaged key k k' e n is = ap (λ (x : Kept). x.held.stages n) e ∙ none_there (key == n) (k.held.stages n) is

pub unstaged_more : (slots : List Slot) (k k' : Kept) (n : ℕ) (done : List ℕ) → ((m : ℕ) → k.held.stages m ≡ None → k'.held.stages m ≡ None)
    → IsUnstaged slots k' n → All (IsUnstaged slots k) done → All (IsUnstaged slots k') (n ∷ done)
unstaged_more slots k k' n done others one all =
    All-cons (IsUnstaged slots k') n done one
    (All-weaker (IsUnstaged slots k) (IsUnstaged slots k') (λ m is none. others m (is none)) done all)

-- one of them was the last
pub popped : (all before now : List ℕ) (r : Option ℕ) (n : ℕ) (done : List ℕ) → all ≡ before ++ done → before ≡ now ++ option_to_list r → r ≡ Some n
    → all ≡ now ++ n ∷ done
popped all before now r n done a b is =
    a ∙ ap (λ (l : List ℕ). l ++ done) (b ∙ ap (λ (o : Option ℕ). now ++ option_to_list o) is) ∙ append_assoc now (n ∷ []) done

-- and there are no more
pub all_popped : (all before now : List ℕ) (r : Option ℕ) (done : List ℕ) → all ≡ before ++ done → before ≡ now ++ option_to_list r → r ≡ None
    → now ≡ [] → all ≡ done
all_popped all before now r done a b is none =
    a ∙ ap (λ (l : List ℕ). l ++ done) (b ∙ ap (λ (o : Option ℕ). now ++ option_to_list o) is ∙ append-nil now ∙ none)
