-- What a run says: the laws of single steps, over lists of steps.
use Rattle.std.proofs.Common.{◌≡◌, ◌≢◌, ◌≤◌, ◌∙◌, ◌⊎◌, inl, inr, is_some, ℕ, zero, suc, Bool, true, false, List, [], ◌∷◌, ◌++◌, map, length, take, All, refl, sym, ap, subst}
use Rattle.std.proofs.lemmas.List.{take-take}
use Rattle.std.proofs.lemmas.List.Elements.{All-head, All-tail, All-cons, All-nil}
use Rattle.std.proofs.lemmas.Slice.Eq.{bytes_eq-Decides}
use Rattle.oci_types.specs.Text.{Text}
use Rattle.registry_model.specs.World.{World, level_at}
use Rattle.registry_model.specs.Operation.{addressed}
use Rattle.registry_model.specs.Judging.{reply_to, after_request}
use Rattle.registry_model.specs.Command.{after_command}
use Rattle.registry_model.specs.declared.admin.AdminCommand.{AdminCommand}
use Rattle.registry_model.specs.State.{State}
use Rattle.registry_model.specs.Doing.{Course, answered, missed, lost, course_of_answer, course_of_result, DoesAs, CarriesOutAs}
use Rattle.registry_model.specs.Team.{Team, IsTeamOf, team_of_token, view, Step, asks, orders, is_own, is_reading, GivesNoPush, MayNotPush, IsElsewhere, OwnOrAside}
use Rattle.registry_model.specs.Ask.{Ask}
use Rattle.registry_model.specs.Runs.{Outcome, told, did, comes_to, after, course, Takes, OneByOne, TakesAll, kept_as, kept, Follow, after_all, AllLost, LostToTheEnd, own, requests_of, asked, answers_to, NoneMissed, replies, IsToldAlone, RunSays}
use Rattle.registry_model.proofs.OwnLaws.{own_reply, own_after}
use Rattle.registry_model.proofs.AsideLaws.{Since, still_team, since, aside_request, aside_order}

-- ---- what a team is told

-- one step more at the front, of the team's own or aside
module _ (first : World) (all : List Step) (team : Team) (mine : IsTeamOf first team) where
  one_alone : (w : World) → Since first all team w → (st : Step) (o : Outcome) (others : List (Step × Outcome))
      → OwnOrAside first all team st → o ≡ comes_to w st → IsToldAlone (after w st) team others → IsToldAlone w team ((st, o) ∷ others)
  one_alone w s (asks q) o others h is rest =
      subst (λ x. IsToldAlone w team ((asks q, x) ∷ others)) (sym is) (request (is_own team q.token) refl)
    where
      request : (b : Bool) → is_own team q.token ≡ b → IsToldAlone w team ((asks q, told (reply_to w q)) ∷ others)
      request true e = rw e (
          let team_of = still_team first all team w s mine in
          let tail : map (λ p. p.1) (own team others) ≡ replies (after_request (view w team) q) (map (λ p. p.0) (own team others)) =
          rest ∙ ap (λ v. replies v (map (λ p. p.0) (own team others))) (own_after w team team_of q e) in
          λ i. own_reply w team team_of q e i ∷ tail i)
      request false e = rw e (rest ∙ ap (λ v. replies v (map (λ p. p.0) (own team others))) (aside_request first all team mine w s q (aside h)))
        where
          aside : OwnOrAside first all team (asks q) → IsElsewhere team q.form ⊎ ((is_reading q.verb ≡ true) ⊎ MayNotPush first all q.token (addressed q.form))
          aside (inl own_request) = absurd (let bad = sym own_request ∙ e in cc)
          aside (inr other) = other
  one_alone w s (orders a) o others h is rest = subst (λ x. IsToldAlone w team ((orders a, x) ∷ others)) (sym is)
      (rest ∙ ap (λ v. replies v (map (λ p. p.0) (own team others))) (aside_order first all team mine w s a h))

  alone_from : (w : World) → Since first all team w → (steps : List Step) (outcomes : List Outcome)
      → All (OwnOrAside first all team) steps → ((u n : Text) → All (GivesNoPush u n) all → All (GivesNoPush u n) steps)
      → Follow w (kept steps outcomes) → IsToldAlone w team (kept steps outcomes)
  alone_from w s [] outcomes h gives f = refl
  alone_from w s (st ∷ steps) [] h gives f = refl
  alone_from w s (st ∷ steps) (o ∷ outcomes) h gives f =
      let now = All-head (OwnOrAside first all team) st steps h in
      let others = All-tail (OwnOrAside first all team) st steps h in
      let later = λ (u n : Text) (x : All (GivesNoPush u n) all). All-tail (GivesNoPush u n) st steps (gives u n x) in
      by_kind (course o) f
      (λ d k. one_alone w s st o (kept steps outcomes) now d
      (alone_from (after w st) (since first all team mine w s st now (λ u n x. All-head (GivesNoPush u n) st steps (gives u n x)))
      steps outcomes others later k))
      (λ k. alone_from w s steps outcomes others later k)
    where
      by_kind : (k : Course) → Follow w (kept_as k st o (kept steps outcomes))
          → (o ≡ comes_to w st → Follow (after w st) (kept steps outcomes) → IsToldAlone w team ((st, o) ∷ kept steps outcomes))
          → (Follow w (kept steps outcomes) → IsToldAlone w team (kept steps outcomes))
          → IsToldAlone w team (kept_as k st o (kept steps outcomes))
      by_kind answered f now later = now f.0 f.1
      by_kind missed f now later = later f
      by_kind lost f now later = refl

-- ---- what the steps one after the other say

abbrev pub Facts : World → List (Step × Outcome) → State → Type 0
Facts w pairs s' = Follow w pairs × (s'.spent ≡ false → s'.world ≡ after_all w pairs)

-- a step by its kind: the definitions' outcome and world, nothing changed, or spent
abbrev pub TakesAs : Course → State → Step → Outcome → State → Type 0
TakesAs answered s st o s' = (s.spent ≡ false) × (o ≡ comes_to s.world st) × (s'.world ≡ after s.world st)
TakesAs missed s st o s' = (s.spent ≡ false) × (s'.world ≡ s.world)
TakesAs lost s st o s' = s'.spent ≡ true

takes_as : (s : State) (st : Step) (o : Outcome) (s' : State) → Takes s st o s' → TakesAs (course o) s st o s'
takes_as s (asks q) (told a) s' d = by (course_of_answer a) d
  where
    by : (k : Course) → DoesAs k s q a s' → TakesAs k s (asks q) (told a) s'
    by answered d = (d.0, ap told d.1, ap (λ x. x.world) d.2)
    by missed d = (d.0, ap (λ x. x.world) d.2)
    by lost d = d.1
takes_as s (orders a) (did r) s' d = by (course_of_result r) d
  where
    by : (k : Course) → CarriesOutAs k s a r s' → TakesAs k s (orders a) (did r) s'
    by answered d = (d.0, ap did d.1, ap (λ x. x.world) d.2)
    by missed d = (d.0, ap (λ x. x.world) d.1)
    by lost d = d
takes_as s (asks q) (did r) s' d = absurd d
takes_as s (orders a) (told r) s' d = absurd d

-- from a spent state each step is lost
spent_as : (k : Course) (s : State) (st : Step) (o : Outcome) (mid : State) → s.spent ≡ true → TakesAs k s st o mid → (k ≡ lost) × (mid.spent ≡ true)
spent_as answered s st o mid e d = absurd (let bad = sym e ∙ d.0 in cc)
spent_as missed s st o mid e d = absurd (let bad = sym e ∙ d.0 in cc)
spent_as lost s st o mid e d = (refl, d)

spent_runs : (s : State) (steps : List Step) (outcomes : List Outcome) (s' : State) → s.spent ≡ true → TakesAll s steps outcomes s'
    → AllLost outcomes × (s'.spent ≡ true)
spent_runs s [] [] s' e r = (All-nil (λ o. course o ≡ lost), subst (λ x. x.spent ≡ true) (sym r) e)
spent_runs s [] (o ∷ outcomes) s' e r = absurd r
spent_runs s (st ∷ steps) [] s' e r = absurd r
spent_runs s (st ∷ steps) (o ∷ outcomes) s' e r =
    let now = spent_as (course o) s st o r.0 e (takes_as s st o r.0 r.1) in
    let later = spent_runs r.0 steps outcomes s' now.1 r.2 in
    (All-cons (λ x. course x ≡ lost) o outcomes now.0 later.0, later.1)

pub run_facts : (s : State) (steps : List Step) (outcomes : List Outcome) (s' : State) → TakesAll s steps outcomes s'
    → Facts s.world (kept steps outcomes) s' × LostToTheEnd outcomes × (length outcomes ≡ length steps)
run_facts s [] [] s' r = ((tt, λ e. ap (λ x. x.world) r), tt, refl)
run_facts s [] (o ∷ outcomes) s' r = absurd r
run_facts s (st ∷ steps) [] s' r = absurd r
run_facts s (st ∷ steps) (o ∷ outcomes) s' r =
    let later = run_facts r.0 steps outcomes s' r.2 in
    let now = takes_as s st o r.0 r.1 in
    (by_kind (course o) now later.0, (λ e. (lost_now (course o) e now).0, later.1), ap suc later.2)
  where
    lost_now : (k : Course) → k ≡ lost → TakesAs k s st o r.0 → AllLost outcomes × (s'.spent ≡ true)
    lost_now answered e d = absurd (cc)
    lost_now missed e d = absurd (cc)
    lost_now lost e d = spent_runs r.0 steps outcomes s' d r.2

    by_kind : (k : Course) → TakesAs k s st o r.0 → Facts r.0.world (kept steps outcomes) s' → Facts s.world (kept_as k st o (kept steps outcomes)) s'
    by_kind answered d later = (
      (d.1, subst (λ w. Follow w (kept steps outcomes)) d.2 later.0),
      λ e. later.1 e ∙ ap (λ w. after_all w (kept steps outcomes)) d.2,
    )
    by_kind missed d later = (
      subst (λ w. Follow w (kept steps outcomes)) d.1 later.0,
      λ e. later.1 e ∙ ap (λ w. after_all w (kept steps outcomes)) d.1,
    )
    by_kind lost d later = (tt, λ e. absurd (let bad = sym (spent_runs r.0 steps outcomes s' d r.2).1 ∙ e in cc))

pub run_says : (s : State) (steps : List Step) (outcomes : List Outcome) (s' : State) → TakesAll s steps outcomes s' → RunSays s steps outcomes s'
run_says s steps outcomes s' r =
    let facts = run_facts s steps outcomes s' r in
    record {
      count = facts.2;
      lost_to_the_end = facts.1;
      follow = facts.0.0;
      ends = facts.0.1;
      private = λ team mine h. alone_from s.world steps team mine s.world (record { same = λ token t. refl; low = λ u name x. x.0 })
          steps outcomes h (λ u n x. x) facts.0.0;
    }

-- the first replies are the replies to the first requests
replies_take : (w : World) (requests : List Ask) (n : ℕ) → replies w (take n requests) ≡ take n (replies w requests)
replies_take w requests zero = refl
replies_take w [] (suc n) = refl
replies_take w (q ∷ requests) (suc n) = λ i. reply_to w q ∷ replies_take (after_request w q) requests n i

-- without want of memory the team is answered in order, up to the first storage failure
answered_first : (s : State) (steps : List Step) (outcomes : List Outcome) (s' : State) → TakesAll s steps outcomes s' → (team : Team) → NoneMissed team steps outcomes
    → asked team steps outcomes ≡ take (length (asked team steps outcomes)) (requests_of team steps)
answered_first s [] [] s' r team none = refl
answered_first s [] (o ∷ outcomes) s' r team none = absurd r
answered_first s (st ∷ steps) [] s' r team none = absurd r
answered_first s (asks q ∷ steps) (told a ∷ outcomes) s' r team none =
    by_kind (course_of_answer a) none.0 (answered_first r.0 steps outcomes s' r.2 team none.1)
  where
    request : asked team steps outcomes ≡ take (length (asked team steps outcomes)) (requests_of team steps) → (b : Bool) → is_own team q.token ≡ b
        → map (λ p. p.0) (own team ((asks q, told a) ∷ kept steps outcomes))
        ≡ take (length (map (λ p. p.0) (own team ((asks q, told a) ∷ kept steps outcomes)))) (requests_of team (asks q ∷ steps))
    request later true e = rw e (λ i. q ∷ later i)
    request later false e = rw e later

    -- one for which memory was wanting is nothing that the team asked
    left_out : ((is_own team q.token ≡ true) → missed ≢ missed) → asked team steps outcomes ≡ take (length (asked team steps outcomes)) (requests_of team steps) → (b : Bool) → is_own team q.token ≡ b
        → asked team steps outcomes ≡ take (length (asked team steps outcomes)) (requests_of team (asks q ∷ steps))
    left_out never later true e = absurd (never e refl)
    left_out never later false e = rw e later

    by_kind : (k : Course) → ((is_own team q.token ≡ true) → k ≢ missed) → asked team steps outcomes ≡ take (length (asked team steps outcomes)) (requests_of team steps)
        → map (λ p. p.0) (own team (kept_as k (asks q) (told a) (kept steps outcomes)))
        ≡ take (length (map (λ p. p.0) (own team (kept_as k (asks q) (told a) (kept steps outcomes))))) (requests_of team (asks q ∷ steps))
    by_kind answered d later = request later (is_own team q.token) refl
    by_kind missed d later = left_out d later (is_own team q.token) refl
    by_kind lost d later = refl
answered_first s (orders a ∷ steps) (did x ∷ outcomes) s' r team none =
    by_kind (course_of_result x) (answered_first r.0 steps outcomes s' r.2 team none)
  where
    by_kind : (k : Course) → asked team steps outcomes ≡ take (length (asked team steps outcomes)) (requests_of team steps)
        → map (λ p. p.0) (own team (kept_as k (orders a) (did x) (kept steps outcomes)))
        ≡ take (length (map (λ p. p.0) (own team (kept_as k (orders a) (did x) (kept steps outcomes))))) (requests_of team steps)
    by_kind answered later = later
    by_kind missed later = later
    by_kind lost later = refl
answered_first s (asks q ∷ steps) (did x ∷ outcomes) s' r team none = absurd r.1
answered_first s (orders a ∷ steps) (told x ∷ outcomes) s' r team none = absurd r.1

-- two registries that agree on what a team sees: the first replies are the same where the first requests are
module _ (s t : State) (steps others : List Step) (outcomes results : List Outcome) (s' t' : State) (r : TakesAll s steps outcomes s') (q : TakesAll t others results t')
    (team : Team) (mine : IsTeamOf s.world team) (yours : IsTeamOf t.world team) (same : view s.world team ≡ view t.world team)
    (aside : All (OwnOrAside s.world steps team) steps) (beside : All (OwnOrAside t.world others team) others) where
  pub same_told : asked team steps outcomes ≡ asked team others results → answers_to team steps outcomes ≡ answers_to team others results
  same_told e =
      (run_says s steps outcomes s' r).private team mine aside
      ∙ (λ i. replies (same i) (e i))
      ∙ sym ((run_says t others results t' q).private team yours beside)

  pub same_front : (n : ℕ) → take n (asked team steps outcomes) ≡ take n (asked team others results)
      → take n (answers_to team steps outcomes) ≡ take n (answers_to team others results)
  same_front n e =
      ap (take n) ((run_says s steps outcomes s' r).private team mine aside)
      ∙ sym (replies_take (view s.world team) (asked team steps outcomes) n)
      ∙ (λ i. replies (same i) (e i))
      ∙ replies_take (view t.world team) (asked team others results) n
      ∙ ap (take n) (sym ((run_says t others results t' q).private team yours beside))

  pub same_asked : NoneMissed team steps outcomes → NoneMissed team others results → requests_of team steps ≡ requests_of team others → (n : ℕ)
      → n ≤ length (asked team steps outcomes) → n ≤ length (asked team others results)
      → take n (answers_to team steps outcomes) ≡ take n (answers_to team others results)
  same_asked none never e n fits room = same_front n
      (ap (take n) (answered_first s steps outcomes s' r team none)
      ∙ take-take n (length (asked team steps outcomes)) (requests_of team steps) fits
      ∙ ap (take n) e
      ∙ sym (take-take n (length (asked team others results)) (requests_of team others) room)
      ∙ ap (take n) (sym (answered_first t others results t' q team never)))

-- one step more at the end
pub one_more : (One : State → Step → Outcome → State → Type 0) (s : State) (steps : List Step) (outcomes : List Outcome) (mid : State) (st : Step) (o : Outcome)
    (s' : State) → OneByOne One s steps outcomes mid → One mid st o s' → OneByOne One s (steps ++ st ∷ []) (outcomes ++ o ∷ []) s'
one_more One s [] [] mid st o s' r d = (s', subst (λ x. One x st o s') r d, refl)
one_more One s [] (p ∷ outcomes) mid st o s' r d = absurd r
one_more One s (x ∷ steps) [] mid st o s' r d = absurd r
one_more One s (x ∷ steps) (p ∷ outcomes) mid st o s' r d = (r.0, r.1, one_more One r.0 steps outcomes mid st o s' r.2 d)

-- ---- one token

pub token_is_team : (w : World) (token : Text) → IsTeamOf w (team_of_token w token)
token_is_team w token other name is has = subst (λ t. is_some (level_at w t name) ≡ true) ((bytes_eq-Decides other token).0 is) has

-- ---- one step

-- a world is the first of any list
from_itself : (team : Team) (w : World) (all : List Step) → Since w all team w
from_itself team w all = record { same = λ token t. refl; low = λ u name x. x.0 }

pub request_aside : (w : World) (team : Team) (q : Ask) → IsTeamOf w team → is_own team q.token ≡ false
    → OwnOrAside w (asks q ∷ []) team (asks q) → view (after_request w q) team ≡ view w team
request_aside w team q mine other (inl own_request) = absurd (let bad = sym own_request ∙ other in cc)
request_aside w team q mine other (inr h) = aside_request w (asks q ∷ []) team mine w (from_itself team w (asks q ∷ [])) q h

pub order_aside : (w : World) (team : Team) (a : AdminCommand) → IsTeamOf w team
    → OwnOrAside w (orders a ∷ []) team (orders a) → view (after_command w a) team ≡ view w team
order_aside w team a mine h = aside_order w (orders a ∷ []) team mine w (from_itself team w (orders a ∷ [])) a h
