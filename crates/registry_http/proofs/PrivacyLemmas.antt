-- Requests that are answered one after the other are a run.
use Rattle.std.proofs.Common.{◌≡◌, ◌⊎◌, inl, inr, List, [], ◌∷◌, ◌++◌, map, refl, subst}
use Rattle.oci_types.specs.Text.{Text}
use Rattle.registry_model.specs.Answer.{Answer}
use Rattle.registry_model.specs.Keeping.{State}
use Rattle.registry_model.specs.Runs.{told, TakesAll}
use Rattle.registry_model.proofs.RunLaws.{run_says}
use Rattle.registry_model.specs.declared.settings.Settings.{Settings}
use Rattle.registry_http.specs.Spelling.{Item}
use Rattle.registry_http.specs.declared.ending.FramingRefusal.{FramingRefusal}
use Rattle.registry_http.specs.declared.ending.FramingRefusal.TheVariants.{NoBufferMemory}
use Rattle.registry_http.specs.declared.ending.End.{End}
use Rattle.registry_http.specs.declared.ending.End.TheVariants.{Closed, Cut, Refused, ReadFailed, WriteFailed}
use Rattle.registry_http.specs.Serving.{Run, Traffic, Answers, StopsForMemory, InHand, replying, refusing, continuing, Serves, of_hand, of_refusal, of_broken, served}
use Rattle.registry_http.specs.Privacy.{step_of, texts_of, IsPrivateRun}

-- answers whose texts these are, and which the steps come to
record Told (settings : Settings) (s : State) (items : List Item) (texts : List Text) (s' : State) : Type 0 where
  answers : List Answer
  are_texts : texts ≡ texts_of settings items answers
  takes : TakesAll s (map (step_of settings) items) (map told answers) s'

told_by : (settings : Settings) (s : State) (items : List Item) (texts : List Text) (s' : State) → Run settings s items texts s' → Told settings s items texts s'
told_by settings s [] [] s' r = record { answers = []; are_texts = refl; takes = r }
told_by settings s [] (text ∷ texts) s' r = absurd r
told_by settings s (i ∷ items) [] s' r = absurd r
told_by settings s (i ∷ items) (text ∷ texts) s' r =
    let others = told_by settings r.0 items texts s' r.2 in
    let a = r.1.0 in
    record {
      answers = a ∷ others.answers;
      are_texts = λ k. r.1.2 k ∷ others.are_texts k;
      takes = (r.0, r.1.1, others.takes);
    }

pub private_run : (settings : Settings) (s : State) (items : List Item) (texts : List Text) (s' : State) → Run settings s items texts s' → IsPrivateRun settings s items texts s'
private_run settings s items texts s' r =
    let t = told_by settings s items texts s' r in
    record { answers = t.answers; are_texts = t.are_texts; says = run_says s (map (step_of settings) items) (map told t.answers) s' t.takes }

-- ---- what a connection served, and connections one after the other

pub runs_join : (settings : Settings) (s : State) (items : List Item) (texts : List Text) (mid : State) (more : List Item) (others : List Text) (s' : State)
    → Run settings s items texts mid → Run settings mid more others s' → Run settings s (items ++ more) (texts ++ others) s'
runs_join settings s [] [] mid more others s' r q = subst (λ x. Run settings x more others s') r q
runs_join settings s [] (text ∷ texts) mid more others s' r q = absurd r
runs_join settings s (i ∷ items) [] mid more others s' r q = absurd r
runs_join settings s (i ∷ items) (text ∷ texts) mid more others s' r q = (r.0, r.1, runs_join settings r.0 items texts mid more others s' r.2 q)

hand_runs : (rest before text : Text) (t : Traffic) (items : List Item) (texts : List Text) (h : InHand rest before text t items texts)
    → Run t.settings t.state (of_hand rest before text t items texts h).0 (of_hand rest before text t items texts h).1 t.state'
hand_runs rest before text t items texts (replying i rest' e q same run) = run
hand_runs rest before text t items texts (refusing r e why run) = run
hand_runs rest before text t items texts (continuing none is run) = run

refusal_runs : (b : Text) (r : FramingRefusal) (t : Traffic) (h : Answers b (Refused r) t ⊎ ((r ≡ NoBufferMemory) × StopsForMemory b t))
    → Run t.settings t.state (of_refusal b r t h).0 (of_refusal b r t h).1 t.state'
refusal_runs b r t (inl h) = h.run
refusal_runs b r t (inr h) = h.1.run

broken_runs : (b : Text) (t : Traffic) (h : Answers b Closed t ⊎ Answers b Cut t) → Run t.settings t.state (of_broken b t h).0 (of_broken b t h).1 t.state'
broken_runs b t (inl h) = h.run
broken_runs b t (inr h) = h.run

pub served_runs : (e : End) (t : Traffic) (h : Serves e t) → Run t.settings t.state (served e t h).0 (served e t h).1 t.state'
served_runs Closed t h = h.2.run
served_runs Cut t h = h.2.run
served_runs (Refused r) t h = refusal_runs h.0 r t h.2
served_runs ReadFailed t h = broken_runs h.read t h.answers
served_runs (WriteFailed n) t h = hand_runs h.2.rest h.2.before h.2.text t h.2.items h.2.texts h.2.in_hand
