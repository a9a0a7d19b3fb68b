-- Openings of one registry, one after the other.
use Rattle.std.proofs.Common.{◌≡◌, ◌∙◌, ℕ, true, List, [], ◌∷◌, ◌++◌, map, Option, Some, None, ap, sym, subst}
use Rattle.std.proofs.lemmas.List.{append-nil, append_assoc, map-append}
use Rattle.std.proofs.lemmas.List.Elements.{All-push, All-nil}
use Rattle.std.specs.List.{All, cons_option}
use Rattle.registry_model.specs.Keeping.{Kept}
use Rattle.registry_opening.specs.Openings.{Opening, Deed, opened, Between, between, Never, Just, Once, Spans, IsOver, EndsSpent}

-- these so far, and each ended spent
pub record SoFar {K : Type 0} (b : Between K) (path : List ℕ) (Says : Kept → Kept → Type 0) : Type 0 where
  pub spent : List (Opening K)
  pub just : Just b (map opened spent)
  pub all_spent : All (EndsSpent b) spent
  pub all_over : All (IsOver b path Says) spent

pub none_so_far : {K : Type 0} (h : K → Type 0) (t : K → Kept) (opens : List ℕ → Kept → Type 0) (path : List ℕ)
    (had : List (Deed K) → Type 0) (Says : Kept → Kept → Type 0) → SoFar (between h t opens had had) path Says
none_so_far {K} h t opens path had Says = record {
  spent = [];
  just = λ l is. subst had (sym (append-nil l)) is;
  all_spent = All-nil (EndsSpent (between h t opens had had));
  all_over = All-nil (IsOver (between h t opens had had) path Says);
}

-- what is said of an opening may be said more weakly
pub is_over : {K : Type 0} (h : K → Type 0) (t : K → Kept) (opens : List ℕ → Kept → Type 0) (path : List ℕ)
    (had had' : List (Deed K) → Type 0) (Q Says : Kept → Kept → Type 0) → ((s s' : Kept) → Q s s' → Says s s')
    → (o : Opening K) → IsOver (between h t opens had had') path Q o → IsOver (between h t opens had had') path Says o
is_over {K} h t opens path had had' Q Says weaker o is =
    (is.0, λ honest. ((is.1 honest).0, (is.1 honest).1, weaker (t o.first) (t o.last) (is.1 honest).2))

-- one more behind these
pub both_just : {K : Type 0} (had mid had' : List (Deed K) → Type 0) (first : List (Opening K)) (o : Opening K)
    → ((l : List (Deed K)) → had l → mid (l ++ map opened first)) → ((l : List (Deed K)) → mid l → had' (l ++ opened o ∷ []))
    → (l : List (Deed K)) → had l → had' (l ++ map opened (first ++ o ∷ []))
both_just {K} had mid had' first o x y l is =
    let e = append_assoc l (map opened first) (opened o ∷ []) ∙ ap (λ (m : List (Deed K)). l ++ m) (sym (map-append opened first (o ∷ []))) in
    subst had' e (y (l ++ map opened first) (x l is))

pub one_more : {K : Type 0} (h : K → Type 0) (t : K → Kept) (opens : List ℕ → Kept → Type 0) (path : List ℕ)
    (had mid had' : List (Deed K) → Type 0) (Q Says : Kept → Kept → Type 0)
    → ((s s' : Kept) → Q s s' → Says s s') → ((s s' : Kept) → Q s s' → s'.spent ≡ true)
    → SoFar (between h t opens had mid) path Says → Once (between h t opens mid had') path Q → SoFar (between h t opens had had') path Says
one_more {K} h t opens path had mid had' Q Says weaker ends so once =
    let o = once.opening in
    record {
      spent = so.spent ++ o ∷ [];
      just = both_just had mid had' so.spent o so.just once.just;
      all_spent = All-push (EndsSpent (between h t opens had had')) so.spent o so.all_spent
          (λ honest. ends (t o.first) (t o.last) (once.is.1 honest).2);
      all_over = All-push (IsOver (between h t opens had had') path Says) so.spent o so.all_over
          (is_over h t opens path had had' Q Says weaker o once.is);
    }

unfoldable pub ends_with : {K : Type 0} (h : K → Type 0) (t : K → Kept) (opens : List ℕ → Kept → Type 0) (path : List ℕ)
    (had mid had' : List (Deed K) → Type 0) (Q Says Ends : Kept → Kept → Type 0)
    → ((s s' : Kept) → Q s s' → Ends s s')
    → SoFar (between h t opens had mid) path Says → Once (between h t opens mid had') path Q
    → Spans (between h t opens had had') path Says Ends
ends_with {K} h t opens path had mid had' Q Says Ends weaker so once = record {
  spent = so.spent;
  last = Some once.opening;
  just = both_just had mid had' so.spent once.opening so.just once.just;
  all_spent = so.all_spent;
  all_over = so.all_over;
  last_over = is_over h t opens path had had' Q Ends weaker once.opening once.is;
}

pub ends_without : {K : Type 0} (h : K → Type 0) (t : K → Kept) (opens : List ℕ → Kept → Type 0) (path : List ℕ)
    (had mid had' : List (Deed K) → Type 0) (Says Ends : Kept → Kept → Type 0)
    → SoFar (between h t opens had mid) path Says → Never (between h t opens mid had')
    → Spans (between h t opens had had') path Says Ends
ends_without {K} h t opens path had mid had' Says Ends so never = record {
  spent = so.spent;
  last = None;
  just = λ l is. subst (λ (m : List (Opening K)). had' (l ++ map opened m)) (sym (append-nil so.spent)) (never (l ++ map opened so.spent) (so.just l is));
  all_spent = so.all_spent;
  all_over = so.all_over;
  last_over = tt;
}
