-- Those who give orders, one after the other.
use Rattle.std.proofs.Common.{◌≡◌, ◌≢◌, ◌⊎◌, ℕ, zero, suc, inl, inr, Bool, true, false, ◌||◌, ◌≤◌, ◌==◌, min, nat_le, arith, Option, option_map, position, List, [], ◌∷◌, ◌++◌, set, take, drop, ◌+◌, ◌<◌, length, get_or, Some, Result, Ok, Err, refl, sym, ap, ◌∙◌, subst, append-nil, append_assoc}
use Rattle.std.specs.List.{remove, list_any}
use Rattle.std.proofs.lemmas.List.{map-append, map-set, set-get_or, take_more, take_more_set, take_all, take-map, drop-map, drop_more, drop-set-lt}
use Rattle.std.specs.Prelude.{MatchOption, OnErr}
use Rattle.std.proofs.lemmas.Bool.Decides.{nat_tests}
use Rattle.std.proofs.lemmas.List.Elements.{All-nil, All-cons, All-append}
use Rattle.oci_types.specs.Text.{Text}
use Rattle.registry_model.specs.Keeping.{Kept}
use Rattle.order_carrying.specs.Answering.{AnswersLine}
use Rattle.order_texts.specs.Stopping.{stop_line, stop_answer}
use Rattle.order_sockets.specs.Calling.{Called, fresh, line_in, CarriesOutLine, Obeys, Attends, AttendsAll, Come, Stay}
use Rattle.order_sockets.specs.declared.caller.Caller.{Caller}
use Rattle.order_sockets.specs.Calls.{called, all_called}

pub anyway_on_err : {T E : Type 0} (P : Type 0) (r : Result T E) → P → OnErr r P
anyway_on_err P (Ok x) p = tt
anyway_on_err P (Err e) p = p

take_min : (k : ℕ) (xs : Text) → take (min k (length xs)) xs ≡ take k xs
take_min k xs = by_test (nat_le k (length xs)) refl
  where
    by_test : (t : Bool) → nat_le k (length xs) ≡ t → take (min k (length xs)) xs ≡ take k xs
    by_test true e =
        let le : k ≤ length xs = grind (arith, nat_tests) in
        let same : min k (length xs) ≡ k = omega (arith, le) in
        ap (λ (n : ℕ). take n xs) same
    by_test false e =
        let lt : length xs < k = grind (arith, nat_tests) in
        let same : min k (length xs) ≡ length xs = omega (arith, lt) in
        ap (λ (n : ℕ). take n xs) same ∙ take_all (length xs) xs (omega arith) ∙ sym (take_all k xs (omega (arith, lt)))

pub found_line : (heard : Text) (end k : ℕ) → Some end ≡ position (λ byte. byte == 10) heard → k ≡ min end (length heard)
    → line_in heard ≡ Some (take k heard)
found_line heard end k e is =
    ap (option_map (λ n. take n heard)) (sym e) ∙ ap Some (sym (take_min end heard) ∙ ap (λ (n : ℕ). take n heard) (sym is))

pub obeyed_line : (P : Type 0) (heard line : Text) (new : Called) (s s' : Kept) → line_in heard ≡ Some line → new.answered ≡ true → Obeys line new s s'
    → MatchOption (line_in heard) P (λ l. (new.answered ≡ true) × Obeys l new s s')
obeyed_line P heard line new s s' e a o =
    subst (λ (x : Option Text). MatchOption x P (λ l. (new.answered ≡ true) × Obeys l new s s')) (sym e) (a, o)

-- what is done of a line, where it asks the server to stop exactly if it says so
pub obeyed_by : (line : Text) (stops : Bool) (new : Called) (s s' : Kept) → (stops ≡ true → line ≡ stop_line) → (line ≡ stop_line → stops ≡ true) → new.stops ≡ stops
    → (line ≡ stop_line → s' ≡ s) → (line ≡ stop_line → (new.answer ≡ stop_answer) ⊎ (new.over ≡ true))
    → (line ≢ stop_line → CarriesOutLine line new s s') → Obeys line new s s'
obeyed_by line true new s s' is back e same answered carried =
    inl (is refl, record { same = same (is refl); stops = e; answered = answered (is refl) })
obeyed_by line false new s s' is back e same answered carried =
    let other : line ≢ stop_line = λ h. let x = back h in cc in
    inr (other, e, carried other)

-- what was carried out is told, as far as it goes
pub told : (old mid new : Called) (s s' : Kept) → new.heard ≡ mid.heard → new.answered ≡ mid.answered → new.answer ≡ mid.answer
    → (mid.over ≡ true → new.over ≡ true) → (mid.answered ≡ false → new.over ≡ mid.over) → new.stops ≡ mid.stops → Attends old mid s s' → Attends old new s s'
told old mid new s s' h a w over unsaid stops x = record {
  before = λ e. let b = x.before e in (a ∙ b.0, h ∙ b.1, w ∙ b.2, b.3);
  now = λ e f. let y = x.now e (sym a ∙ f) in (y.0, ap line_in h ∙ y.1, obeys_on y.0 y.2);
  not_yet = λ f. let y = x.not_yet (sym a ∙ f) in (y.0, λ g. ap line_in h ∙ y.1 (sym (unsaid (sym a ∙ f)) ∙ g));
  no_line = λ e. stops ∙ x.no_line (quiet_on e);
}
  where
    carried_on : (line : Text) → CarriesOutLine line mid s s' → CarriesOutLine line new s s'
    carried_on line (inl y) = inl (y.0, subst (λ (t : Text). AnswersLine s line t s') (sym w) y.1)
    carried_on line (inr y) = inr (y.0, over y.1)

    answered_on : (mid.answer ≡ stop_answer) ⊎ (mid.over ≡ true) → (new.answer ≡ stop_answer) ⊎ (new.over ≡ true)
    answered_on (inl e) = inl (w ∙ e)
    answered_on (inr e) = inr (over e)

    obeys_on : (line : Text) → Obeys line mid s s' → Obeys line new s s'
    obeys_on line (inl y) = inl (y.0, record { same = y.1.same; stops = stops ∙ y.1.stops; answered = answered_on y.1.answered })
    obeys_on line (inr y) = inr (y.0, stops ∙ y.1, carried_on line y.2)

    quiet_on : (old.answered ≡ true) ⊎ (new.answered ≡ false) → (old.answered ≡ true) ⊎ (mid.answered ≡ false)
    quiet_on (inl e) = inl e
    quiet_on (inr e) = inr (sym a ∙ e)

-- one more was attended
pub attended_more : (old new : List Called) (c d : Called) (s t s' : Kept) → AttendsAll old new s t → Attends c d t s' → AttendsAll (old ++ c ∷ []) (new ++ d ∷ []) s s'
attended_more [] [] c d s t s' x y = (s', subst (λ (k : Kept). Attends c d k s') x y, refl)
attended_more [] (e ∷ new) c d s t s' x y = absurd x
attended_more (b ∷ old) [] c d s t s' x y = absurd x
attended_more (b ∷ old) (e ∷ new) c d s t s' x y = (x.0, x.1, attended_more old new c d x.0 t s' x.2 y)

-- ---- who comes

pub none_come : (xs : List Called) → Come xs xs
none_come xs = record { came = []; all_fresh = All-nil (λ (c : Called). c ≡ fresh); is = sym (append-nil xs) }

pub one_comes : (xs ys : List Called) (c : Called) → c ≡ fresh → ys ≡ xs ++ c ∷ [] → Come xs ys
one_comes xs ys c e is = record { came = c ∷ []; all_fresh = All-cons (λ (x : Called). x ≡ fresh) c [] e (All-nil (λ (x : Called). x ≡ fresh)); is = is }

pub come_then : (xs ys zs : List Called) → Come xs ys → Come ys zs → Come xs zs
come_then xs ys zs x y = record {
  came = x.came ++ y.came;
  all_fresh = All-append (λ (c : Called). c ≡ fresh) x.came y.came x.all_fresh y.all_fresh;
  is = y.is ∙ ap (λ (l : List Called). l ++ y.came) x.is ∙ append_assoc xs x.came y.came;
}

-- ---- who stays

pub all_stay : (xs : List Called) → Stay xs xs
all_stay [] = refl
all_stay (x ∷ xs) = inr (xs, refl, all_stay xs)

stay_without : (xs : List Called) (i : ℕ) → Stay (take i xs ++ drop (suc i) xs) xs
stay_without [] zero = refl
stay_without [] (suc i) = refl
stay_without (x ∷ xs) zero = inl (all_stay xs)
stay_without (x ∷ xs) (suc i) = inr (take i xs ++ drop (suc i) xs, refl, stay_without xs i)

stay_or : (xs ys there : List Called) (c : Called) → ((left : List Called) (mid : List Called) → Stay left mid → Stay mid there → Stay left there)
    → Stay xs ys → Stay ys (c ∷ there) → Stay xs (c ∷ there)
stay_or xs ys there c then x (inl y) = inl (then xs ys x y)
stay_or xs ys there c then x (inr y) = by_first (subst (Stay xs) y.1 x)
  where
    by_first : Stay xs (c ∷ y.0) → Stay xs (c ∷ there)
    by_first (inl z) = inl (then xs y.0 z y.2)
    by_first (inr z) = inr (z.0, z.1, then z.0 y.0 z.2 y.2)

pub stay_then : (zs xs ys : List Called) → Stay xs ys → Stay ys zs → Stay xs zs
stay_then [] xs ys x y = subst (Stay xs) y x
stay_then (c ∷ there) xs ys x y = stay_or xs ys there c (stay_then there) x y

-- one goes
pub stay_removed : (i : ℕ) (xs ys : List Caller) → ys ≡ remove xs i → Stay (all_called ys) (all_called xs)
stay_removed i xs ys e =
    subst (λ (l : List Called). Stay l (all_called xs))
    (sym (ap all_called e
    ∙ map-append called (take i xs) (drop (suc i) xs)
    ∙ ap (λ (l : List Called). l ++ all_called (drop (suc i) xs)) (sym (take-map called i xs))
    ∙ ap (λ (l : List Called). take i (all_called xs) ++ l) (sym (drop-map called (suc i) xs))))
    (stay_without (all_called xs) i)

-- ---- in a list that is written

more_called : (i : ℕ) (xs : List Caller) (d : Caller) → i < length xs → all_called (take (i + 1) xs) ≡ all_called (take i xs) ++ called (get_or xs i d) ∷ []
more_called i xs d lt = ap all_called (take_more xs i d lt) ∙ map-append called (take i xs) (get_or xs i d ∷ [])

-- one that shows the same makes no difference
pub set_called : (i : ℕ) (xs : List Caller) (d y : Caller) → called y ≡ called (get_or xs i d) → all_called (set xs i y) ≡ all_called xs
set_called i xs d y e =
    map-set called xs i y
    ∙ ap (λ (c : Called). set (all_called xs) i c) e
    ∙ sym (map-set called xs i (get_or xs i d))
    ∙ ap all_called (set-get_or xs i d)

-- those behind one are as they were
both_rests : (i : ℕ) (xs ys : List Caller) (d : Caller) → i < length xs → i < length ys → drop i xs ≡ drop i ys
    → get_or xs i d ∷ drop (i + 1) xs ≡ get_or ys i d ∷ drop (i + 1) ys
both_rests i xs ys d lt lt' e = sym (drop_more xs i d lt) ∙ e ∙ drop_more ys i d lt'

pub rest_more : (i : ℕ) (xs ys : List Caller) (d v : Caller) → i < length xs → i < length ys → drop i xs ≡ drop i ys
    → drop (i + 1) (set xs i v) ≡ drop (i + 1) ys
rest_more i xs ys d v lt lt' e =
    let both = both_rests i xs ys d lt lt' e in
    let rest : drop (i + 1) xs ≡ drop (i + 1) ys = cc in
    drop-set-lt (i + 1) xs i v (omega arith) ∙ rest

pub attended_step : (i : ℕ) (xs ys : List Caller) (d v : Caller) (s t s' : Kept) → i < length xs → i < length ys → drop i xs ≡ drop i ys
    → Attends (called (get_or xs i d)) (called v) t s' → AttendsAll (all_called (take i ys)) (all_called (take i xs)) s t
    → AttendsAll (all_called (take (i + 1) ys)) (all_called (take (i + 1) (set xs i v))) s s'
attended_step i xs ys d v s t s' lt lt' e one all =
    let both = both_rests i xs ys d lt lt' e in
    let same : get_or xs i d ≡ get_or ys i d = cc in
    subst (λ (l : List Called). AttendsAll l (all_called (take (i + 1) (set xs i v))) s s')
    (ap (λ (x : Caller). all_called (take i ys) ++ called x ∷ []) same ∙ sym (more_called i ys d lt'))
    (subst (λ (l : List Called). AttendsAll (all_called (take i ys) ++ called (get_or xs i d) ∷ []) l s s')
    (sym (ap all_called (take_more_set xs i v lt) ∙ map-append called (take i xs) (v ∷ [])))
    (attended_more (all_called (take i ys)) (all_called (take i xs)) (called (get_or xs i d)) (called v) s t s' all one))

-- ---- who asked the server to stop

pub shown_stops : (xs : List Caller) → list_any (λ c. c.stops) (all_called xs) ≡ list_any (λ c. c.stops) xs
shown_stops [] = refl
shown_stops (x ∷ xs) = ap (λ (b : Bool). x.stops || b) (shown_stops xs)
