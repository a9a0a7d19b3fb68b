-- What is kept of connections, as they change.
use Rattle.std.proofs.Common.{◌≡◌, ℕ, zero, suc, ◌+◌, ◌-◌, ◌*◌, ◌^◌, ◌<◌, ◌≤◌, Bool, true, false, ◌&&◌, nat_le, nat_lt, if◌then◌else◌, List, [], ◌∷◌, ◌++◌, length, take, drop, set, get_or, add-one, All, refl, sym, ap, ◌∙◌, subst, append_assoc, arith}
use Rattle.std.specs.List.{remove}
use Rattle.std.specs.Prelude.{⊤}
use Rattle.std.proofs.lemmas.List.{length-drop, length-append, length-set, map-append, take-map, get_or-set_same}
use Rattle.std.proofs.lemmas.List.Elements.{All-nil, All-cons, All-head, All-tail, All-append, All-take, All-drop, All-set, All-push, All-get_or}
use Rattle.registry_model.specs.Answer.{content_of}
use Rattle.registry_http.specs.ReplyText.{sent_text}
use Rattle.registry_conversation.specs.Shown.{Shown, begun, coming_len}
use Rattle.registry_server.specs.declared.bounds.Bounds.{Bounds}
use Rattle.registry_server.specs.declared.connection.Connection.{Connection}
use Rattle.registry_server.specs.declared.life.Life.{Life}
use Rattle.registry_server.specs.declared.sums.Sums.{Sums}
use Rattle.registry_server.specs.Open.{Slot, FoundAt, StirredAt}
use Rattle.registry_server.specs.Room.{over_sum, going_sum, IsWithin}
use Rattle.registry_server.specs.Slots.{slot_of, slots_of, IsMoved}
use Rattle.registry_server.specs.Lives.{moved_by, sent_by}
use Rattle.registry_server.specs.Held.{with_other, without_one, IsKept}
use Rattle.registry_server.proofs.RoomLemmas.{sum_at, sum_without}
use Rattle.registry_server.proofs.PlaceLemmas.{within_found, slot_is, set_is, slots_without, moved, moved_length}

-- ---- the sums

going_at : (front : List Slot) (c : Slot) (back : List Slot) → going_sum (front ++ c ∷ back) ≡ going_sum front + (length c.conversation.going + going_sum back)
going_at [] c back = omega arith
going_at (x ∷ front) c back = omega (arith, going_at front c back)

going_without : (front back : List Slot) → going_sum (front ++ back) ≡ going_sum front + going_sum back
going_without [] back = omega arith
going_without (x ∷ front) back = omega (arith, going_without front back)

abbrev Summed : Sums → List Slot → Type 0
Summed s slots = (s.over ≡ over_sum slots) × (s.going ≡ going_sum slots)

-- they are numbers of 64 and 128 bits
abbrev Fit : List Slot → Type 0
Fit slots = (over_sum slots < 2 ^ 64) × (going_sum slots < 2 ^ 128)

summed_in_place : (s : Sums) (front : List Slot) (c c' : Slot) (back : List Slot) → Summed s (front ++ c ∷ back) → Fit (front ++ c' ∷ back)
    → Summed (with_other c.conversation c'.conversation s) (front ++ c' ∷ back)
summed_in_place s front c c' back h fit = (
  omega (arith, h.0, fit.0, sum_at front c back, sum_at front c' back),
  omega (arith, h.1, fit.1, going_at front c back, going_at front c' back),
)

summed_behind : (s : Sums) (front : List Slot) (c c' : Slot) (back : List Slot) → Summed s (front ++ c ∷ back) → Fit ((front ++ back) ++ c' ∷ [])
    → Summed (with_other c.conversation c'.conversation s) ((front ++ back) ++ c' ∷ [])
summed_behind s front c c' back h fit = (
  omega (arith, h.0, fit.0, sum_at front c back, sum_at (front ++ back) c' [], sum_without front back),
  omega (arith, h.1, fit.1, going_at front c back, going_at (front ++ back) c' [], going_without front back),
)

summed_without : (s : Sums) (front : List Slot) (c : Slot) (back : List Slot) → Summed s (front ++ c ∷ back) → Summed (without_one c.conversation s) (front ++ back)
summed_without s front c back h = (
  omega (arith, h.0, sum_at front c back, sum_without front back),
  omega (arith, h.1, going_at front c back, going_without front back),
)

-- what is to go out on one stands in a list of bytes
one_fits : (x : Connection) → length (slot_of x).conversation.going < 2 ^ 65
one_fits x =
    let o = x.conversation.value.conversation.outbox in
    let body = sent_text (content_of o.body) in
    omega (
      arith,
      length-append (drop o.gone o.heads.items) (drop o.body_gone body),
      length-drop o.gone o.heads.items,
      length-drop o.body_gone body,
      o.heads.ok.0,
      o.heads.ok.1,
      o.heads.small,
      o.body_measured,
      o.body_fits,
    )

going_fits : (xs : List Connection) → going_sum (slots_of xs) ≤ length xs * 2 ^ 65
going_fits [] = omega arith
going_fits (x ∷ xs) = omega (arith, one_fits x, going_fits xs)

fits : (b : Bounds) (xs : List Connection) → b.coming < 2 ^ 64 → length xs < 2 ^ 63 → IsWithin b (slots_of xs) → Fit (slots_of xs)
fits b xs coming few w = (omega (arith, coming, w.each, w.others), omega (arith, few, going_fits xs))

-- ---- those that rest

-- none of so many from the front is to be looked at
abbrev pub Rest : ℕ → List Slot → Type 0
Rest zero slots = ⊤
Rest (suc n) [] = ⊤
Rest (suc n) (c ∷ slots) = (c.stirred ≡ false) × Rest n slots

pub rest_from : (n : ℕ) (xs : List Slot) → All (λ (s : Slot). s.stirred ≡ false) (take n xs) → Rest n xs
rest_from zero xs all = tt
rest_from (suc n) [] all = tt
rest_from (suc n) (x ∷ xs) all =
    (All-head (λ (s : Slot). s.stirred ≡ false) x (take n xs) all, rest_from n xs (All-tail (λ (s : Slot). s.stirred ≡ false) x (take n xs) all))

pub rest_all : (n : ℕ) (xs : List Slot) → Rest n xs → All (λ (s : Slot). s.stirred ≡ false) (take n xs)
rest_all zero xs h = All-nil (λ (s : Slot). s.stirred ≡ false)
rest_all (suc n) [] h = All-nil (λ (s : Slot). s.stirred ≡ false)
rest_all (suc n) (x ∷ xs) h = All-cons (λ (s : Slot). s.stirred ≡ false) x (take n xs) h.0 (rest_all n xs h.1)

rest_less : (n m : ℕ) (xs : List Slot) → m ≤ n → Rest n xs → Rest m xs
rest_less n zero xs le h = tt
rest_less n (suc m) [] le h = tt
rest_less zero (suc m) (x ∷ xs) le h = absurd (omega (arith, le))
rest_less (suc n) (suc m) (x ∷ xs) le h = (h.0, rest_less n m xs (omega (arith, le)) h.1)

rest_fewer : (n m : ℕ) (front back : List Slot) → m ≤ n → Rest n (front ++ back) → Rest m front
rest_fewer n zero front back le h = tt
rest_fewer n (suc m) [] back le h = tt
rest_fewer zero (suc m) (x ∷ front) back le h = absurd (omega (arith, le))
rest_fewer (suc n) (suc m) (x ∷ front) back le h = (h.0, rest_fewer n m front back (omega (arith, le)) h.1)

rest_before : (m : ℕ) (front back : List Slot) → m ≤ length front → Rest m front → Rest m (front ++ back)
rest_before zero front back le h = tt
rest_before (suc m) [] back le h = absurd (omega (arith, le))
rest_before (suc m) (x ∷ front) back le h = (h.0, rest_before m front back (omega (arith, le)) h.1)

rest_without : (n m : ℕ) (front : List Slot) (c : Slot) (back : List Slot) → m ≤ n - 1 → Rest n (front ++ c ∷ back) → Rest m (front ++ back)
rest_without n zero front c back lt h = tt
rest_without zero (suc m) front c back lt h = absurd (omega (arith, lt))
rest_without (suc n) (suc m) [] c back lt h = rest_less n (suc m) back (omega (arith, lt)) h.1
rest_without (suc n) (suc m) (x ∷ front) c back lt h = (h.0, rest_without n m front c back (omega (arith, lt)) h.1)

rest_pushed : (n : ℕ) (xs : List Slot) (c : Slot) → c.stirred ≡ false → Rest n xs → Rest n (xs ++ c ∷ [])
rest_pushed zero xs c e h = tt
rest_pushed (suc zero) [] c e h = (e, tt)
rest_pushed (suc (suc n)) [] c e h = (e, tt)
rest_pushed (suc n) (x ∷ xs) c e h = (h.0, rest_pushed n xs c e h.1)

-- as many as there are, where all of them do
all_rest : (n : ℕ) (xs : List Slot) → All (λ (s : Slot). s.stirred ≡ false) xs → Rest n xs
all_rest zero xs all = tt
all_rest (suc n) [] all = tt
all_rest (suc n) (x ∷ xs) all =
    (All-head (λ (s : Slot). s.stirred ≡ false) x xs all, all_rest n xs (All-tail (λ (s : Slot). s.stirred ≡ false) x xs all))

-- ---- since when

abbrev since_of : Life → ℕ
since_of l = l.since

since_moved : (oldest count now : ℕ) (l : Life) → oldest ≤ now → oldest ≤ l.since → oldest ≤ (moved_by count now l).since
since_moved oldest count now l past alive = by_test (nat_le 65536 (l.moved + count))
  where
    by_test : (t : Bool) → oldest ≤ since_of (if t then record { since = now; moved = 0 } else record { since = l.since; moved = l.moved + count })
    by_test true = past
    by_test false = alive

since_sent : (oldest count : ℕ) (whole : Bool) (now : ℕ) (l : Life) → oldest ≤ now → oldest ≤ l.since → oldest ≤ (sent_by count whole now l).since
since_sent oldest count whole now l past alive = by_test (whole && nat_lt 0 count)
  where
    by_test : (t : Bool) → oldest ≤ since_of (if t then record { since = now; moved = 0 } else moved_by count now l)
    by_test true = past
    by_test false = since_moved oldest count now l past alive

abbrev Alive : ℕ → List Connection → Type 0
Alive oldest xs = All (λ (c : Connection). oldest ≤ c.life.since) xs

since_at : (oldest at : ℕ) (xs : List Connection) (x : Connection) → at < length xs → x ≡ get_or xs at x → Alive oldest xs → oldest ≤ x.life.since
since_at oldest at xs x lt is all =
    subst (λ (y : Connection). oldest ≤ y.life.since) (sym is) (All-get_or (λ (c : Connection). oldest ≤ c.life.since) xs at x lt all)

alive_without : (oldest at : ℕ) (xs zs : List Connection) → zs ≡ remove xs at → Alive oldest xs → Alive oldest zs
alive_without oldest at xs zs e all =
    subst (Alive oldest) (sym e)
    (All-append (λ (c : Connection). oldest ≤ c.life.since) (take at xs) (drop (suc at) xs)
    (All-take (λ (c : Connection). oldest ≤ c.life.since) at xs all) (All-drop (λ (c : Connection). oldest ≤ c.life.since) (suc at) xs all))

-- the one that was found has another life
alive_found : (s : Sums) (r oldest now n at : ℕ) (xs : List Connection) (x : Connection) → x ≡ get_or xs at x → FoundAt n at (slots_of xs)
    → IsKept s r oldest now xs → oldest ≤ x.life.since
alive_found s r oldest now n at xs x is f k = since_at oldest at xs x (within_found at xs f.front f.back f.slot f.was f.place) is k.alive

pub alive_moved : (s : Sums) (r oldest now n at count : ℕ) (xs : List Connection) (x y : Connection) → x ≡ get_or xs at x → FoundAt n at (slots_of xs)
    → IsKept s r oldest now xs → y.life ≡ moved_by count now x.life → oldest ≤ y.life.since
alive_moved s r oldest now n at count xs x y is f k life =
    subst (λ (l : Life). oldest ≤ l.since) (sym life) (since_moved oldest count now x.life k.past (alive_found s r oldest now n at xs x is f k))

pub alive_sent : (s : Sums) (r oldest now n at count : ℕ) (whole : Bool) (xs : List Connection) (x y : Connection) → x ≡ get_or xs at x → FoundAt n at (slots_of xs)
    → IsKept s r oldest now xs → y.life ≡ sent_by count whole now x.life → oldest ≤ y.life.since
alive_sent s r oldest now n at count whole xs x y is f k life =
    subst (λ (l : Life). oldest ≤ l.since) (sym life) (since_sent oldest count whole now x.life k.past (alive_found s r oldest now n at xs x is f k))

pub alive_same : (s : Sums) (r oldest now n at : ℕ) (xs : List Connection) (x y : Connection) → x ≡ get_or xs at x → FoundAt n at (slots_of xs)
    → IsKept s r oldest now xs → y.life ≡ x.life → oldest ≤ y.life.since
alive_same s r oldest now n at xs x y is f k life =
    subst (λ (l : Life). oldest ≤ l.since) (sym life) (alive_found s r oldest now n at xs x is f k)

-- ---- what is kept

pub kept_changed : (b : Bounds) (s s' : Sums) (r r' oldest now n at : ℕ) (xs : List Connection) (x y : Connection) → x ≡ get_or xs at x → FoundAt n at (slots_of xs)
    → IsKept s r oldest now xs → s' ≡ with_other (slot_of x).conversation (slot_of y).conversation s → r' ≤ r → r' ≤ at → oldest ≤ y.life.since
    → b.coming < 2 ^ 64 → length xs < 2 ^ 63 → IsWithin b (slots_of (set xs at y)) → IsKept s' r' oldest now (set xs at y)
kept_changed b s s' r r' oldest now n at xs x y is f k e le lt since coming few w =
    let there = within_found at xs f.front f.back f.slot f.was f.place in
    let slot = slot_is at xs x f.front f.back f.slot there is f.was f.place in
    let after = set_is at xs y f.front f.back f.slot f.was f.place in
    let sums = summed_in_place s f.front f.slot (slot_of y) f.back (subst (Summed s) f.was (k.over, k.going))
    (subst Fit after (fits b (set xs at y) coming (omega (arith, few, length-set xs at y)) w)) in
    let same : s' ≡ with_other f.slot.conversation (slot_of y).conversation s = e ∙ (λ i. with_other (sym slot i).conversation (slot_of y).conversation s) in
    let all : Summed s' (slots_of (set xs at y)) = subst (λ (t : Sums). Summed t (slots_of (set xs at y))) (sym same)
    (subst (Summed (with_other f.slot.conversation (slot_of y).conversation s)) (sym after) sums) in
    record {
      over = all.0;
      going = all.1;
      rest = rest_all r' (slots_of (set xs at y)) (subst (Rest r') (sym after)
          (rest_before r' f.front (slot_of y ∷ f.back) (omega (arith, lt, f.place)) (rest_fewer r r' f.front (f.slot ∷ f.back) le (subst (Rest r) f.was (rest_from r (slots_of xs) k.rest)))));
      past = k.past;
      alive = All-set (λ (c : Connection). oldest ≤ c.life.since) xs at y since k.alive;
    }

-- where it holds as much as it did
pub kept_as_much : (s : Sums) (r r' oldest now n at : ℕ) (xs : List Connection) (x y : Connection) → x ≡ get_or xs at x → FoundAt n at (slots_of xs)
    → IsKept s r oldest now xs → coming_len (slot_of y).conversation ≡ coming_len (slot_of x).conversation
    → (slot_of y).conversation.going ≡ (slot_of x).conversation.going → r' ≤ r → r' ≤ at → oldest ≤ y.life.since
    → IsKept s r' oldest now (set xs at y)
kept_as_much s r r' oldest now n at xs x y is f k coming going le lt since =
    let there = within_found at xs f.front f.back f.slot f.was f.place in
    let slot = slot_is at xs x f.front f.back f.slot there is f.was f.place in
    let after = set_is at xs y f.front f.back f.slot f.was f.place in
    record {
      over = omega (
        arith,
        k.over,
        coming,
        ap over_sum f.was,
        ap over_sum after,
        sum_at f.front f.slot f.back,
        sum_at f.front (slot_of y) f.back,
        ap (λ (c : Slot). coming_len c.conversation) slot,
      );
      going = omega (
        arith,
        k.going,
        ap length going,
        ap going_sum f.was,
        ap going_sum after,
        going_at f.front f.slot f.back,
        going_at f.front (slot_of y) f.back,
        ap (λ (c : Slot). length c.conversation.going) slot,
      );
      rest = rest_all r' (slots_of (set xs at y)) (subst (Rest r') (sym after)
          (rest_before r' f.front (slot_of y ∷ f.back) (omega (arith, lt, f.place)) (rest_fewer r r' f.front (f.slot ∷ f.back) le (subst (Rest r) f.was (rest_from r (slots_of xs) k.rest)))));
      past = k.past;
      alive = All-set (λ (c : Connection). oldest ≤ c.life.since) xs at y since k.alive;
    }

-- where it shows the same
pub kept_shown : (s : Sums) (r oldest now at : ℕ) (xs : List Connection) (y : Connection) → IsKept s r oldest now xs
    → slots_of (set xs at y) ≡ slots_of xs → oldest ≤ y.life.since → IsKept s r oldest now (set xs at y)
kept_shown s r oldest now at xs y k e since = record {
  over = k.over ∙ ap over_sum (sym e);
  going = k.going ∙ ap going_sum (sym e);
  rest = subst (λ (ys : List Slot). All (λ (c : Slot). c.stirred ≡ false) (take r ys)) (sym e) k.rest;
  past = k.past;
  alive = All-set (λ (c : Connection). oldest ≤ c.life.since) xs at y since k.alive;
}

-- one came
pub kept_came : (s : Sums) (r oldest now : ℕ) (xs zs : List Connection) (x : Connection) → zs ≡ xs ++ x ∷ [] → (slot_of x).conversation ≡ begun → x.stirred ≡ false
    → x.life.since ≡ now → IsKept s r oldest now xs → IsKept s r oldest now zs
kept_came s r oldest now xs zs x e begins idle life k =
    let after : slots_of zs ≡ slots_of xs ++ slot_of x ∷ [] = ap slots_of e ∙ map-append slot_of xs (x ∷ []) in
    record {
      over = omega (arith, k.over, ap over_sum after, sum_at (slots_of xs) (slot_of x) [], ap coming_len begins);
      going = omega (arith, k.going, ap going_sum after, going_at (slots_of xs) (slot_of x) [], ap (λ (c : Shown). length c.going) begins);
      rest = rest_all r (slots_of zs) (subst (Rest r) (sym after) (rest_pushed r (slots_of xs) (slot_of x) idle (rest_from r (slots_of xs) k.rest)));
      past = k.past;
      alive = subst (Alive oldest) (sym e) (All-push (λ (c : Connection). oldest ≤ c.life.since) xs x k.alive (omega (arith, k.past, life)));
    }

-- one took a turn, and went behind the others
pub kept_turned : (b : Bounds) (s s' : Sums) (r oldest now at : ℕ) (xs zs : List Connection) (x y : Connection) → x ≡ get_or xs at x → StirredAt at (slots_of xs)
    → IsKept s r oldest now xs → s' ≡ with_other (slot_of x).conversation (slot_of y).conversation s → y.life ≡ x.life → IsMoved at (set xs at y) zs
    → b.coming < 2 ^ 64 → length xs < 2 ^ 63 → IsWithin b (slots_of zs) → IsKept s' at oldest now zs
kept_turned b s s' r oldest now at xs zs x y is f k e life m coming few w =
    let there = within_found at xs f.front f.back f.slot f.was f.place in
    let slot = slot_is at xs x f.front f.back f.slot there is f.was f.place in
    let after = moved at xs zs y f.front f.back f.slot f.was f.place m in
    let since : oldest ≤ y.life.since = subst (λ (l : Life). oldest ≤ l.since) (sym life) (since_at oldest at xs x there is k.alive) in
    let set_all : Alive oldest (set xs at y) = All-set (λ (c : Connection). oldest ≤ c.life.since) xs at y since k.alive in
    let sums = summed_behind s f.front f.slot (slot_of y) f.back (subst (Summed s) f.was (k.over, k.going)) (subst Fit after (fits b zs coming (omega (arith, few, length-set xs at y, moved_length at (set xs at y) zs y (omega (arith, there, length-set xs at y)) m)) w)) in
    let same : s' ≡ with_other f.slot.conversation (slot_of y).conversation s = e ∙ (λ i. with_other (sym slot i).conversation (slot_of y).conversation s) in
    let all : Summed s' (slots_of zs) = subst (λ (t : Sums). Summed t (slots_of zs)) (sym same)
    (subst (Summed (with_other f.slot.conversation (slot_of y).conversation s)) (sym after) sums) in
    record {
      over = all.0;
      going = all.1;
      rest = rest_all at (slots_of zs) (subst (Rest at) (sym (after ∙ append_assoc f.front f.back (slot_of y ∷ [])))
          (rest_before at f.front (f.back ++ slot_of y ∷ []) (omega (arith, f.place)) (all_rest at f.front f.waiting)));
      past = k.past;
      alive = subst (Alive oldest) (sym (m y ∙ ap (λ (z : Connection). remove (set xs at y) at ++ z ∷ []) (get_or-set_same xs at y y there)))
          (All-push (λ (c : Connection). oldest ≤ c.life.since) (remove (set xs at y) at) y
          (alive_without oldest at (set xs at y) (remove (set xs at y) at) refl set_all) since);
    }

-- one is gone
pub kept_without : (s s' : Sums) (r r' oldest oldest' now n at : ℕ) (xs zs : List Connection) (x : Connection) → x ≡ get_or xs at x → FoundAt n at (slots_of xs) → zs ≡ remove xs at
    → IsKept s r oldest now xs → s' ≡ without_one (slot_of x).conversation s → r' ≡ r - 1
    → oldest' ≤ now → Alive oldest' zs → IsKept s' r' oldest' now zs
kept_without s s' r r' oldest oldest' now n at xs zs x is f e k taken less past alive =
    let there = within_found at xs f.front f.back f.slot f.was f.place in
    let slot = slot_is at xs x f.front f.back f.slot there is f.was f.place in
    let after : slots_of zs ≡ f.front ++ f.back = ap slots_of e ∙ slots_without at xs f.front f.back f.slot f.was f.place in
    let sums = summed_without s f.front f.slot f.back (subst (Summed s) f.was (k.over, k.going)) in
    let same : s' ≡ without_one f.slot.conversation s = taken ∙ (λ i. without_one (sym slot i).conversation s) in
    let all : Summed s' (slots_of zs) = subst (λ (t : Sums). Summed t (slots_of zs)) (sym same)
    (subst (Summed (without_one f.slot.conversation s)) (sym after) sums) in
    record {
      over = all.0;
      going = all.1;
      rest = rest_all r' (slots_of zs) (subst (Rest r') (sym after) (rest_without r r' f.front f.slot f.back (omega (arith, less)) (subst (Rest r) f.was (rest_from r (slots_of xs) k.rest))));
      past = past;
      alive = alive;
    }

-- ---- what a search of it finds

pub still_resting : (i : ℕ) (xs : List Connection) (x : Connection) → i < length xs → x ≡ get_or xs i x → x.stirred ≡ false → Rest i (slots_of xs)
    → Rest (i + 1) (slots_of xs)
still_resting i xs x lt is idle h = subst (λ (k : ℕ). Rest k (slots_of xs)) (sym (add-one i)) (one_more i xs x lt is idle h)
  where
    one_more : (i : ℕ) (xs : List Connection) (x : Connection) → i < length xs → x ≡ get_or xs i x → x.stirred ≡ false → Rest i (slots_of xs) → Rest (suc i) (slots_of xs)
    one_more i [] x lt is idle h = absurd (omega (arith, lt))
    one_more zero (c ∷ cs) x lt is idle h = (ap (λ (y : Connection). y.stirred) (sym is) ∙ idle, tt)
    one_more (suc i) (c ∷ cs) x lt is idle h = (h.0, one_more i cs x (omega (arith, lt)) is idle h.1)

-- those before this place
pub rest_taken : (i : ℕ) (xs : List Connection) → Rest i (slots_of xs) → All (λ (s : Slot). s.stirred ≡ false) (slots_of (take i xs))
rest_taken i xs h = subst (All (λ (s : Slot). s.stirred ≡ false)) (take-map slot_of i xs) (rest_all i (slots_of xs) h)

-- none has been silent for so long
pub none_silent : (limit oldest now : ℕ) (xs : List Connection) → now - oldest < limit → All (λ (c : Connection). oldest ≤ c.life.since) xs
    → All (λ (c : Connection). now - c.life.since < limit) xs
none_silent limit oldest now xs short all k d lt = omega (arith, short, all k d lt)

-- so many rest as there are
pub kept_idle : (s : Sums) (r r' oldest now : ℕ) (xs : List Connection) → IsKept s r oldest now xs → All (λ (c : Slot). c.stirred ≡ false) (slots_of xs)
    → IsKept s r' oldest now xs
kept_idle s r r' oldest now xs k all = record { over = k.over; going = k.going; rest = rest_all r' (slots_of xs) (all_rest r' (slots_of xs) all); past = k.past; alive = k.alive }
