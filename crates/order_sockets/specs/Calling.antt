-- What those who give orders come to (profile).
use Rattle.std.specs.Prelude.{◌≡◌, ◌≢◌, ◌⊎◌, ◌||◌, Bool, true, false, List, [], ◌∷◌, ◌++◌, ◌==◌, take, position, option_map, Option, Some, None, All}
use Rattle.std.specs.List.{list_any}
use Rattle.oci_types.specs.Text.{Text}
use Rattle.registry_model.specs.Keeping.{Kept}
use Rattle.order_carrying.specs.Answering.{AnswersLine, IsOneStep}
use Rattle.order_texts.specs.Stopping.{stop_line, stop_answer}

-- what came of a caller's line, whether it was carried out, the answer to it, whether there is nothing more
-- to do, and whether the line asked the server to stop
pub record Called : Type 0 where
  pub heard : Text
  pub answered : Bool
  pub answer : Text
  pub over : Bool
  pub stops : Bool

-- one that came just now
abbrev pub fresh : Called
fresh = record { heard = []; answered = false; answer = []; over = false; stops = false }

-- the first line, without its end, if its end has come
abbrev pub line_in : Text → Option Text
line_in heard = option_map (λ end. take end heard) (position (λ byte. byte == 10) heard)

-- exactly this line was carried out, as one step, once, and has this answer; or there was no memory for an
-- answer, nothing is done, and the caller is let go
abbrev pub CarriesOutLine : Text → Called → Kept → Kept → Type 0
CarriesOutLine line new s s' =
    (IsOneStep s s' × AnswersLine s line new.answer s') ⊎ ((s' ≡ s) × (new.over ≡ true))

-- nothing is done, and the server is to stop; it is answered so, or there was no memory for an answer, and
-- the caller is let go
pub record AsksToStop (new : Called) (s s' : Kept) : Type 0 where
  pub same : s' ≡ s
  pub stops : new.stops ≡ true
  pub answered : (new.answer ≡ stop_answer) ⊎ (new.over ≡ true)

-- the line that asks the server to stop does so; any other one does not, and is carried out
abbrev pub Obeys : Text → Called → Kept → Kept → Type 0
Obeys line new s s' =
    ((line ≡ stop_line) × AsksToStop new s s')
    ⊎ ((line ≢ stop_line) × (new.stops ≡ false) × CarriesOutLine line new s s')

-- one that was answered before is told nothing else and nothing is done; of the others, one whose line got
-- whole is obeyed, unless its socket failed, and for any other nothing is done; nobody but who is obeyed now
-- comes to ask the server to stop
pub record Attends (old new : Called) (s s' : Kept) : Type 0 where
  pub before : old.answered ≡ true
      → (new.answered ≡ true) × (new.heard ≡ old.heard) × (new.answer ≡ old.answer) × (s' ≡ s)
  pub now : old.answered ≡ false → new.answered ≡ true
      → (line : Text) × (line_in new.heard ≡ Some line) × Obeys line new s s'
  pub not_yet : new.answered ≡ false → (s' ≡ s) × (new.over ≡ false → line_in new.heard ≡ None)
  pub no_line : (old.answered ≡ true) ⊎ (new.answered ≡ false) → new.stops ≡ old.stops

-- each of them, in their order
abbrev pub AttendsAll : List Called → List Called → Kept → Kept → Type 0
AttendsAll [] [] s s' = s' ≡ s
AttendsAll [] (d ∷ new) s s' = ⊥
AttendsAll (c ∷ old) [] s s' = ⊥
AttendsAll (c ∷ old) (d ∷ new) s s' = (mid : Kept) × Attends c d s mid × AttendsAll old new mid s'

-- some came behind the others
pub record Come (old new : List Called) : Type 0 where
  pub came : List Called
  pub all_fresh : All (λ c. c ≡ fresh) came
  pub is : new ≡ old ++ came

-- of the second some stay, as they are and in their order
abbrev pub Stay : List Called → List Called → Type 0
Stay left [] = left ≡ []
Stay left (c ∷ there) = Stay left there ⊎ ((rest : List Called) × (left ≡ c ∷ rest) × Stay rest there)

-- a round: some came, each of all was attended in turn, and of them some stay
pub record AttendsRound (old new : List Called) (s s' : Kept) : Type 0 where
  pub there : List Called
  pub attended : List Called
  pub come : Come old there
  pub attends : AttendsAll there attended s s'
  pub stay : Stay new attended

-- the same round; behind it the server is to stop where it was before, or where one of all who were attended
-- asked for it, whether that one stays or not
abbrev pub NotesStop : List Called → List Called → Bool → Bool → Kept → Kept → Type 0
NotesStop old new before after s s' =
    (round : AttendsRound old new s s') × (after ≡ (before || list_any (λ c. c.stops) round.attended))
