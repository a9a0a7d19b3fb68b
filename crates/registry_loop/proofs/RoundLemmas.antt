-- Rounds, one after the other, and what they come to.
use Rattle.std.proofs.Common.{ℕ, zero, suc, List, refl, sym, subst}
use Rattle.registry_model.specs.Keeping.{Kept}
use Rattle.registry_server.specs.Open.{Open}
use Rattle.registry_server.specs.Events.{Leads}
use Rattle.order_sockets.specs.Calling.{Called}
use Rattle.registry_loop.specs.Together.{Passed, Round, Rounds, GoesRounds}
use Rattle.registry_loop.proofs.TogetherLemmas.{passed_none, passed_then, passed_by}
use Rattle.registry_loop.proofs.CallerLemmas.{round_beside}

-- some rounds, whose number nobody asks for
abbrev pub Some : Open → List Called → Kept → Open → List Called → Kept → Type 0
Some u c s u' c' s' = (n : ℕ) × Rounds n u c s u' c' s'

pub no_round : (u : Open) (c : List Called) (s : Kept) → Some u c s u c s
no_round u c s = (0, (refl, refl, refl))

pub another_round : (u : Open) (c : List Called) (s : Kept) (v : Open) (d : List Called) (t : Kept) (w : Open) (e : List Called) (r : Kept)
    → Some u c s v d t → Round v d t w e r → Some u c s w e r
another_round u c s v d t w e r x y = (suc x.0, (v, d, t, x.1, y))

pub ends_rounds : (u : Open) (c : List Called) (s : Kept) (v : Open) (d : List Called) (t : Kept) (w : Open) (r : Kept)
    → Some u c s v d t → Leads v t w r → GoesRounds u c s w r
ends_rounds u c s v d t w r x y = record { count = x.0; mid = v; there = d; behind = t; rounds = x.1; ends = y }

-- ---- in the list of all that is done

round_passes : (u : Open) (c : List Called) (s : Kept) (u' : Open) (c' : List Called) (s' : Kept) → Round u c s u' c' s' → Passed u s u' s'
round_passes u c s u' c' s' x =
    passed_then u s x.mid x.before u' s' (passed_by u s x.mid x.before x.leads)
    (passed_then x.mid x.before x.mid x.behind u' s' (round_beside c c' x.before x.behind x.attends x.mid) (passed_by x.mid x.behind u' s' x.goes_on))

rounds_pass : (n : ℕ) (u : Open) (c : List Called) (s : Kept) (u' : Open) (c' : List Called) (s' : Kept) → Rounds n u c s u' c' s' → Passed u s u' s'
rounds_pass zero u c s u' c' s' x =
    subst (λ (k : Kept). Passed u s u' k) (sym x.2) (subst (λ (v : Open). Passed u s v s) (sym x.0) (passed_none u s))
rounds_pass (suc n) u c s u' c' s' x =
    passed_then u s x.0 x.2 u' s' (rounds_pass n u c s x.0 x.1 x.2 x.3) (round_passes x.0 x.1 x.2 u' c' s' x.4)

pub served_rounds : (u : Open) (c : List Called) (s : Kept) (u' : Open) (s' : Kept) → GoesRounds u c s u' s' → Passed u s u' s'
served_rounds u c s u' s' x =
    passed_then u s x.mid x.behind u' s' (rounds_pass x.count u c s x.mid x.there x.behind x.rounds) (passed_by x.mid x.behind u' s' x.ends)
