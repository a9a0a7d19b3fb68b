-- How many words an order has, and the words of a list by their places.
use Rattle.std.proofs.Common.{◌≡◌, ◌<◌, ◌≤◌, List, [], ◌∷◌, map, length, get_or, arith, refl, sym, subst, ap, ◌∙◌, ◌⊎◌, inl, inr, Bor}
use Rattle.std.proofs.lemmas.List.{length-map}
use Rattle.oci_types.specs.Text.{Text}
use Rattle.registry_orders.specs.declared.listing.Listing.{Listing}
use Rattle.registry_orders.specs.declared.listing.Listing.TheVariants.{Repos, InRepo, Grants}
use Rattle.registry_orders.specs.declared.listing.Form.{Form}
use Rattle.registry_orders.specs.declared.orders.Change.{Change}
use Rattle.registry_orders.specs.declared.orders.Change.TheVariants.{AddRepo, SetQuota, DropRepo, DropSessions, Prune, Grant, Revoke, RevokeAll, Clear}
use Rattle.registry_orders.specs.declared.orders.Order.{Order}
use Rattle.registry_orders.specs.declared.orders.Order.TheVariants as order
use Rattle.order_texts.specs.Lines.{words_of, AreWordsOfNone}

-- so many words, each at its place
one_words : (xs : List (Bor Text)) (d : Bor Text) → length xs ≡ 1
    → map (λ word. word.now) xs ≡ (get_or xs 0 d).now ∷ []
one_words (t ∷ []) d one = refl
one_words xs d one = absurd (omega arith)

two_words : (xs : List (Bor Text)) (d : Bor Text) → length xs ≡ 2
    → map (λ word. word.now) xs ≡ (get_or xs 0 d).now ∷ (get_or xs 1 d).now ∷ []
two_words (t ∷ u ∷ []) d two = refl
two_words xs d two = absurd (omega arith)

three_words : (xs : List (Bor Text)) (d : Bor Text) → length xs ≡ 3
    → map (λ word. word.now) xs ≡ (get_or xs 0 d).now ∷ (get_or xs 1 d).now ∷ (get_or xs 2 d).now ∷ []
three_words (t ∷ u ∷ v ∷ []) d three = refl
three_words xs d three = absurd (omega arith)

four_words : (xs : List (Bor Text)) (d : Bor Text) → length xs ≡ 4
    → map (λ word. word.now) xs ≡ (get_or xs 0 d).now ∷ (get_or xs 1 d).now ∷ (get_or xs 2 d).now ∷ (get_or xs 3 d).now ∷ []
four_words (t ∷ u ∷ v ∷ x ∷ []) d four = refl
four_words xs d four = absurd (omega arith)

six_words : (xs : List (Bor Text)) (d : Bor Text) → length xs ≡ 6
    → map (λ word. word.now) xs ≡ (get_or xs 0 d).now ∷ (get_or xs 1 d).now ∷ (get_or xs 2 d).now ∷ (get_or xs 3 d).now ∷ (get_or xs 4 d).now ∷ (get_or xs 5 d).now ∷ []
six_words (t ∷ u ∷ v ∷ x ∷ y ∷ z ∷ []) d six = refl
six_words xs d six = absurd (omega arith)

-- what is known of the words at their places is known of the list
module _ (P : List Text → Type 0) (xs : List (Bor Text)) (d : Bor Text) where
  pub of_one : length xs ≡ 1 → P ((get_or xs 0 d).now ∷ []) → P (map (λ word. word.now) xs)
  of_one one h = subst P (sym (one_words xs d one)) h

  pub of_two : length xs ≡ 2 → P ((get_or xs 0 d).now ∷ (get_or xs 1 d).now ∷ []) → P (map (λ word. word.now) xs)
  of_two two h = subst P (sym (two_words xs d two)) h

  pub of_three : length xs ≡ 3 → P ((get_or xs 0 d).now ∷ (get_or xs 1 d).now ∷ (get_or xs 2 d).now ∷ []) → P (map (λ word. word.now) xs)
  of_three three h = subst P (sym (three_words xs d three)) h

  pub of_four : length xs ≡ 4 → P ((get_or xs 0 d).now ∷ (get_or xs 1 d).now ∷ (get_or xs 2 d).now ∷ (get_or xs 3 d).now ∷ []) → P (map (λ word. word.now) xs)
  of_four four h = subst P (sym (four_words xs d four)) h

  pub of_six : length xs ≡ 6 → P ((get_or xs 0 d).now ∷ (get_or xs 1 d).now ∷ (get_or xs 2 d).now ∷ (get_or xs 3 d).now ∷ (get_or xs 4 d).now ∷ (get_or xs 5 d).now ∷ []) → P (map (λ word. word.now) xs)
  of_six six h = subst P (sym (six_words xs d six)) h

-- an order has one word to four, or six
abbrev Count : Order → Type 0
Count o = ((1 ≤ length (words_of o)) × (length (words_of o) ≤ 4)) ⊎ (length (words_of o) ≡ 6)

change_count : (c : Change) → Count (order.Change c)
change_count (AddRepo name quota) = inl (omega arith, omega arith)
change_count (SetQuota name quota) = inl (omega arith, omega arith)
change_count (DropRepo name) = inl (omega arith, omega arith)
change_count (DropSessions name) = inl (omega arith, omega arith)
change_count (Prune name) = inl (omega arith, omega arith)
change_count (Grant token name level) = inl (omega arith, omega arith)
change_count (Revoke token name) = inl (omega arith, omega arith)
change_count (RevokeAll token) = inl (omega arith, omega arith)
change_count Clear = inl (omega arith, omega arith)

list_count : (l : Listing) (form : Form) → Count (order.List l form)
list_count Repos form = inl (omega arith, omega arith)
list_count (InRepo name what) form = inl (omega arith, omega arith)
list_count (Grants name token shown) form = inr (omega arith)

count : (o : Order) → Count o
count (order.Change c) = change_count c
count order.Usage = inl (omega arith, omega arith)
count (order.List listing form) = list_count listing form

-- so that other numbers of words are no order's
pub other_count : (xs : List (Bor Text)) → (length xs < 1) ⊎ (length xs ≡ 5) ⊎ (6 < length xs) → AreWordsOfNone (map (λ word. word.now) xs)
other_count xs other = λ o h.
    let same : length xs ≡ length (words_of o) = sym (length-map xs (λ (word : Bor Text). word.now)) ∙ ap length h.0 in
    let c = count o in
    omega arith
