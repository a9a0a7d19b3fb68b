-- What was done on one connection so far, and what follows at its end.
use Rattle.std.proofs.Common.{◌≡◌, ℕ, ◌<◌, ◌⊎◌, inr, List, [], ◌∷◌, ◌++◌, length, take, map, true, false, refl, sym, ap, subst, ◌∙◌, append_assoc, append-nil}
use Rattle.std.proofs.lemmas.List.{map-append}
use Rattle.std.proofs.lemmas.List.Concat.{flat_map-append}
use Rattle.oci_types.specs.Text.{Text}
use Rattle.registry_model.specs.declared.settings.Settings.{Settings}
use Rattle.registry_model.specs.Answer.{Answer}
use Rattle.registry_http.specs.Expecting.{text_before, IsBefore}
use Rattle.registry_http.specs.Spelling.{Item, IsRequest, IsRefused, closes, print_item, Ends, Spells, Front}
use Rattle.registry_http.specs.ReplyText.{refusal_text}
use Rattle.registry_http.specs.Serving.{reply_for, text_for, joined, end_text, Leftover}
use Rattle.registry_http.specs.declared.ending.FramingRefusal.{FramingRefusal}
use Rattle.registry_http.specs.declared.ending.FramingRefusal.TheVariants.{NoBufferMemory}
use Rattle.registry_http.specs.declared.ending.End.{End}
use Rattle.registry_http.specs.declared.ending.End.TheVariants.{Closed, Refused}
use Rattle.registry_http.proofs.ConnectionProgress.{Front-more, Front-on, Front-spells, Front-closes, Front-leftover, Front-none, nothing}
use Rattle.registry_server.specs.Accounts.{Replied, items_of, texts_of, Answers, InHand, StopsAtWrite, EndsSo}

-- ---- requests so far, and one more

items-more : (rs : List Replied) (r : Replied) → items_of (rs ++ r ∷ []) ≡ items_of rs ++ r.item ∷ []
items-more rs r = map-append (λ (x : Replied). x.item) rs (r ∷ [])

module _ (settings : Settings) where
  texts-more : (rs : List Replied) (r : Replied) → texts_of settings (rs ++ r ∷ []) ≡ texts_of settings rs ++ text_for settings r.item r.answer
  texts-more rs r =
      ap joined (map-append (λ (x : Replied). text_for settings x.item x.answer) rs (r ∷ []))
      ∙ flat_map-append (λ (t : Text). t) (map (λ (x : Replied). text_for settings x.item x.answer) rs) (text_for settings r.item r.answer ∷ [])
      ∙ ap (λ (x : Text). texts_of settings rs ++ x) (append-nil (text_for settings r.item r.answer))

  -- ---- what was done so far

  -- of all bytes that come later is still to come, and b came behind the requests that were answered; before was put
  -- out of the text of the request that it begins with
  pub record Progress (all later b before out : Text) (replies : List Replied) : Type 0 where
    pub read : Text
    pub whole : all ≡ read ++ later
    pub front : Front settings read (items_of replies) b
    pub put : out ≡ texts_of settings replies ++ before

  pub starts : (all : Text) → Progress all all [] [] [] []
  starts all = record { read = []; whole = refl; front = refl; put = refl }

  pub more_came : (all later b before out : Text) (rs : List Replied) (bytes later' : Text) → Progress all later b before out rs → later ≡ bytes ++ later'
      → Progress all later' (b ++ bytes) before out rs
  more_came all later b before out rs bytes later' p e = record {
    read = p.read ++ bytes;
    whole = p.whole ∙ ap (λ (x : Text). p.read ++ x) e ∙ sym (append_assoc p.read bytes later');
    front = Front-on settings p.read (items_of rs) b bytes p.front;
    put = p.put;
  }

  module _ (all later b before out : Text) (rs : List Replied) (p : Progress all later b before out rs) where
    on : Front settings all (items_of rs) (b ++ later)
    on = subst (λ (x : Text). Front settings x (items_of rs) (b ++ later)) (sym p.whole) (Front-on settings p.read (items_of rs) b later p.front)

    and_then : (out' text : Text) → out' ≡ out ++ text → out' ≡ texts_of settings rs ++ (before ++ text)
    and_then out' text e = e ∙ ap (λ (x : Text). x ++ text) p.put ∙ append_assoc (texts_of settings rs) before text

    pub put_first : (first : Text) → Progress all later b (before ++ first) (out ++ first) rs
    put_first first = record { read = p.read; whole = p.whole; front = p.front; put = and_then (out ++ first) first refl }

    pub at_end : (e : End) → later ≡ [] → Ends settings b e → IsBefore settings b before → end_text e ≡ [] → Answers settings all e out rs
    at_end e done h is none =
        let front = subst (λ (x : Text). Front settings x (items_of rs) b) (sym (p.whole ∙ ap (λ (y : Text). p.read ++ y) done ∙ append-nil p.read)) p.front in
        record {
          spells = Front-spells settings all (items_of rs) b e front h;
          before = before;
          leftover = Front-leftover settings all (items_of rs) b before front is;
          put = p.put ∙ ap (λ (x : Text). texts_of settings rs ++ x) (sym (ap (λ (t : Text). before ++ t) none ∙ append-nil before));
        }

    pub refused : (r : FramingRefusal) (out' : Text) → ((tail : Text) → IsRefused settings (b ++ tail) r × IsBefore settings (b ++ tail) before) → out' ≡ out ++ refusal_text r
        → Answers settings all (Refused r) out' rs
    refused r out' h e = record {
      spells = Front-spells settings all (items_of rs) (b ++ later) (Refused r) on (h later).0;
      before = before;
      leftover = Front-leftover settings all (items_of rs) (b ++ later) before on (h later).1;
      put = and_then out' (refusal_text r) e;
    }

    pub no_memory : (r : FramingRefusal) (out' : Text) → (before ≡ []) ⊎ IsBefore settings (b ++ later) before → r ≡ NoBufferMemory → out' ≡ out ++ refusal_text r
        → EndsSo settings (Refused r) all out' rs
    no_memory r out' is none e = inr (
      none,
      record {
        rest = b ++ later;
        front = on;
        before = before;
        is_before = is;
        put = subst (λ (q : FramingRefusal). out' ≡ texts_of settings rs ++ (before ++ refusal_text q)) none (and_then out' (refusal_text r) e);
      },
    )

    pub stops : (text : Text) (n : ℕ) (out' : Text) (replies : List Replied) → InHand settings (b ++ later) before text rs replies → n < length text
        → out' ≡ out ++ take n text → StopsAtWrite settings all n out' replies
    stops text n out' replies hand short e = record {
      earlier = rs;
      rest = b ++ later;
      front = on;
      before = before;
      text = text;
      short = short;
      put = and_then out' (take n text) e;
      in_hand = hand;
    }

    module _ (i : Item) (behind : Text) (begins : b ≡ print_item i ++ behind) (request : IsRequest settings i) (same : before ≡ text_before settings i.head)
        (a : Answer) (out' : Text) (put : out' ≡ out ++ reply_for i a) where
      abbrev r : Replied
      r = record { item = i; answer = a }

      texts : out' ≡ texts_of settings (rs ++ r ∷ []) ++ []
      texts =
          and_then out' (reply_for i a) put
          ∙ ap (λ (x : Text). texts_of settings rs ++ (x ++ reply_for i a)) same
          ∙ sym (texts-more rs r)
          ∙ sym (append-nil (texts_of settings (rs ++ r ∷ [])))

      pub answered : closes i ≡ false → Progress all later behind [] out' (rs ++ r ∷ [])
      answered stays = record {
        read = p.read;
        whole = p.whole;
        front = subst (λ (items : List Item). Front settings p.read items behind) (sym (items-more rs r)) (Front-more settings p.read (items_of rs) b i behind p.front request begins stays);
        put = texts;
      }

      begins_on : b ++ later ≡ print_item i ++ (behind ++ later)
      begins_on = ap (λ (y : Text). y ++ later) begins ∙ append_assoc (print_item i) behind later

      pub closed : closes i ≡ true → Answers settings all Closed out' (rs ++ r ∷ [])
      closed last = record {
        spells = subst (λ (items : List Item). Spells settings all items Closed) (sym (items-more rs r)) (Front-closes settings all (items_of rs) (b ++ later) i (behind ++ later) on request begins_on last);
        before = [];
        leftover = subst (λ (items : List Item). Leftover settings all items nothing) (sym (items-more rs r)) (Front-none settings all (items_of rs) (b ++ later) i (behind ++ later) on begins_on last);
        put = texts;
      }
