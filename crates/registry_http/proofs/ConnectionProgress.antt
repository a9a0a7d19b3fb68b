-- What a connection has done so far, and what follows at its end.
use Rattle.std.proofs.Common.{◌≡◌, ℕ, ◌<◌, ◌⊎◌, inl, inr, List, [], ◌∷◌, ◌++◌, length, take, Option, Some, None, true, false, refl, sym, ap, subst, ◌∙◌, append_assoc, append-nil}
use Rattle.std.proofs.lemmas.List.Concat.{flat_map-append}
use Rattle.std.specs.Io.KnownBytes.{Consumes, Appends, IsAtEnd}
use Rattle.std.proofs.KnownBytes.{Consumes-nil, Consumes-trans, Appends-nil, Appends-trans}
use Rattle.oci_types.specs.Text.{Text}
use Rattle.registry_model.specs.Keeping.{State}
use Rattle.std.specs.Bool.{MatchBool}
use Rattle.registry_model.specs.Answer.{Answer}
use Rattle.registry_model.specs.Doing.{Does}
use Rattle.registry_model.specs.declared.settings.Settings.{Settings}
use Rattle.registry_http.specs.Asking.{ask_in}
use Rattle.registry_http.specs.Expecting.{text_before, IsBefore}
use Rattle.registry_http.specs.Spelling.{Item, IsRequest, IsRefused, IsCut, closes, print_item, Ends, Then, Spells, Front}
use Rattle.registry_http.specs.ReplyText.{refusal_text}
use Rattle.registry_http.specs.Serving.{reply_for, Replies, Run, joined, end_text, Traffic, Leftover, Answers, StopsForMemory, InHand, replying, refusing, continuing, StopsAtWrite, StopsAtRead, Gave, Serves}
use Rattle.registry_http.specs.Ending.{SendsRefusal}
use Rattle.registry_http.specs.declared.ending.FramingRefusal.{FramingRefusal}
use Rattle.registry_http.specs.declared.ending.FramingRefusal.TheVariants.{NoBufferMemory}
use Rattle.registry_http.specs.declared.ending.End.{End}
use Rattle.registry_http.specs.declared.ending.End.TheVariants.{Closed, Cut, Refused, ReadFailed, WriteFailed}

abbrev pub nothing : Text
nothing = []

-- ---- requests so far, and one more

module _ (settings : Settings) where
  pub Front-more : (b : Text) (items : List Item) (rest : Text) (i : Item) (behind : Text) → Front settings b items rest → IsRequest settings i
      → rest ≡ print_item i ++ behind → closes i ≡ false → Front settings b (items ++ i ∷ []) behind
  Front-more b [] rest i behind f r e stays = (behind, r, f ∙ e, stays, refl)
  Front-more b (x ∷ items) rest i behind f r e stays =
      (f.0, f.1, f.2, f.3, Front-more f.0 items rest i behind f.4 r e stays)

  pub Front-on : (b : Text) (items : List Item) (rest more : Text) → Front settings b items rest → Front settings (b ++ more) items (rest ++ more)
  Front-on b [] rest more f = ap (λ x. x ++ more) f
  Front-on b (x ∷ items) rest more f =
      (f.0 ++ more, f.1, ap (λ y. y ++ more) f.2 ∙ append_assoc (print_item x) f.0 more, f.3, Front-on f.0 items rest more f.4)

  pub Front-spells : (b : Text) (items : List Item) (rest : Text) (e : End) → Front settings b items rest → Ends settings rest e → Spells settings b items e
  Front-spells b [] rest e f h = subst (λ x. Ends settings x e) (sym f) h
  Front-spells b (x ∷ items) rest e f h =
      (f.0, f.1, f.2, subst (λ c. Then c items e (Spells settings f.0 items e)) (sym f.3) (Front-spells f.0 items rest e f.4 h))

  pub Front-closes : (b : Text) (items : List Item) (rest : Text) (i : Item) (behind : Text) → Front settings b items rest → IsRequest settings i
      → rest ≡ print_item i ++ behind → closes i ≡ true → Spells settings b (items ++ i ∷ []) Closed
  Front-closes b [] rest i behind f r e last =
      (behind, r, f ∙ e, subst (λ c. Then c [] Closed (Spells settings behind [] Closed)) (sym last) (refl, refl))
  Front-closes b (x ∷ items) rest i behind f r e last = (
    f.0,
    f.1,
    f.2,
    subst (λ c. Then c (items ++ i ∷ []) Closed (Spells settings f.0 (items ++ i ∷ []) Closed)) (sym f.3) (Front-closes f.0 items rest i behind f.4 r e last),
  )

  pub Front-leftover : (b : Text) (items : List Item) (rest text : Text) → Front settings b items rest → IsBefore settings rest text → Leftover settings b items text
  Front-leftover b [] rest text f h = subst (λ x. IsBefore settings x text) (sym f) h
  Front-leftover b (x ∷ items) rest text f h =
      (f.0, f.2, subst (λ c. MatchBool c (text ≡ []) (Leftover settings f.0 items text)) (sym f.3) (Front-leftover f.0 items rest text f.4 h))

  pub Front-none : (b : Text) (items : List Item) (rest : Text) (i : Item) (behind : Text) → Front settings b items rest → rest ≡ print_item i ++ behind → closes i ≡ true
      → Leftover settings b (items ++ i ∷ []) nothing
  Front-none b [] rest i behind f e last = (behind, f ∙ e, subst (λ c. MatchBool c (nothing ≡ nothing) (Leftover settings behind [] nothing)) (sym last) refl)
  Front-none b (x ∷ items) rest i behind f e last =
      (f.0, f.2, subst (λ c. MatchBool c (nothing ≡ nothing) (Leftover settings f.0 (items ++ i ∷ []) nothing)) (sym f.3) (Front-none f.0 items rest i behind f.4 e last))

Run-more : (settings : Settings) (a : State) (items : List Item) (texts : List Text) (b : State) (i : Item) (text : Text) (c : State)
    → Run settings a items texts b → Replies settings b i text c → Run settings a (items ++ i ∷ []) (texts ++ text ∷ []) c
Run-more settings a [] [] b i text c r s = (c, subst (λ x. Replies settings x i text c) r s, refl)
Run-more settings a [] (t ∷ texts) b i text c r s = absurd r
Run-more settings a (x ∷ items) [] b i text c r s = absurd r
Run-more settings a (x ∷ items) (t ∷ texts) b i text c r s = (r.0, r.1, Run-more settings r.0 items texts b i text c r.2 s)

joined-more : (texts : List Text) (text : Text) → joined (texts ++ text ∷ []) ≡ joined texts ++ text
joined-more texts text = flat_map-append (λ t. t) texts (text ∷ []) ∙ ap (λ x. joined texts ++ x) (append-nil text)

-- ---- what was done so far

-- the requests so far are answered, and this is written of the next
pub record Progress (buffer before : Text) (t : Traffic) : Type 0 where
  pub read : Text
  pub items : List Item
  pub texts : List Text
  pub front : Front t.settings read items buffer
  pub consumed : Consumes t.left t.left' read
  pub run : Run t.settings t.state items texts t.state'
  pub written : Appends t.held t.held' (joined texts ++ before)

pub starts : (settings : Settings) (l h : Option Text) (s : State)
    → Progress [] [] (record { settings = settings; left = l; left' = l; held = h; held' = h; state = s; state' = s })
starts settings l h s = record {
  read = [];
  items = [];
  texts = [];
  front = refl;
  consumed = Consumes-nil l;
  run = refl;
  written = Appends-nil h;
}

-- bytes came
pub came : (b before : Text) (t : Traffic) (bytes : Text) (l : Option Text) → Progress b before t → Consumes t.left' l bytes
    → Progress (b ++ bytes) before (record t { left' = l })
came b before t bytes l p c = record {
  read = p.read ++ bytes;
  items = p.items;
  texts = p.texts;
  front = Front-on t.settings p.read p.items b bytes p.front;
  consumed = Consumes-trans t.left t.left' l p.read bytes p.consumed c;
  run = p.run;
  written = p.written;
}

-- the next text went out whole, before the body
pub continued : (b : Text) (t : Traffic) (text : Text) (w : Option Text) → Progress b [] t → Appends t.held' w text → Progress b text (record t { held' = w })
continued b t text w p sent = record {
  read = p.read;
  items = p.items;
  texts = p.texts;
  front = p.front;
  consumed = p.consumed;
  run = p.run;
  written = subst (λ (x : Text). Appends t.held w (x ++ text)) (append-nil (joined p.texts)) (Appends-trans _ _ _ _ _ p.written sent);
}

module _ (b before : Text) (t : Traffic) (p : Progress b before t) where
  -- with the bytes that the reader has left, as far as it tells, the bytes so far are all
  some_of : (P : Text → Type 0) (l l' : Option Text) → Consumes l l' p.read → ((x rest : Text) → x ≡ p.read ++ rest → P x) → Gave l P
  some_of P None l' c f = (p.read ++ [], tt, f (p.read ++ []) [] refl)
  some_of P (Some x) None c f = absurd c
  some_of P (Some x) (Some rest) c f = (x, refl, f x rest c)

  all_of : (P : Text → Type 0) (l l' : Option Text) → Consumes l l' p.read → IsAtEnd l' → P p.read → Gave l P
  all_of P None l' c e h = (p.read, tt, h)
  all_of P (Some x) None c e h = absurd c
  all_of P (Some x) (Some rest) c e h = (p.read, c ∙ ap (λ y. p.read ++ y) e ∙ append-nil p.read, h)

  on : (x rest : Text) → x ≡ p.read ++ rest → Front t.settings x p.items (b ++ rest)
  on x rest e = subst (λ y. Front t.settings y p.items (b ++ rest)) (sym e) (Front-on t.settings p.read p.items b rest p.front)

  -- one more text
  and_then : (w : Option Text) (text : Text) → Appends t.held' w text → Appends t.held w (joined p.texts ++ (before ++ text))
  and_then w text sent =
      subst (λ (x : Text). Appends t.held w x) (append_assoc (joined p.texts) before text) (Appends-trans _ _ _ _ _ p.written sent)

  -- all that was read, and how it ends
  here : (e : End) → Ends t.settings b e → IsBefore t.settings b before → end_text e ≡ [] → Answers p.read e t
  here e h is none = record {
    items = p.items;
    texts = p.texts;
    spells = Front-spells t.settings p.read p.items b e p.front h;
    before = before;
    leftover = Front-leftover t.settings p.read p.items b before p.front is;
    run = p.run;
    written = rw (none, append-nil) p.written;
  }

  pub at_end : (e : End) → IsAtEnd t.left' → Ends t.settings b e → IsBefore t.settings b before → end_text e ≡ [] → Gave t.left (λ x. Answers x e t)
  at_end e done h is none = all_of (λ x. Answers x e t) t.left t.left' p.consumed done (here e h is none)

  pub broken : (b ≡ []) ⊎ IsCut t.settings b → IsBefore t.settings b before → StopsAtRead t
  broken (inl h) is = record { read = p.read; consumed = p.consumed; answers = inl (here Closed h is refl) }
  broken (inr h) is = record { read = p.read; consumed = p.consumed; answers = inr (here Cut h is refl) }

  pub refused : (r : FramingRefusal) (w : Option Text) → ((tail : Text) → IsRefused t.settings (b ++ tail) r × IsBefore t.settings (b ++ tail) before) → Appends t.held' w (refusal_text r)
      → Serves (Refused r) (record t { held' = w })
  refused r w h sent =
      some_of (λ x. Answers x (Refused r) (record t { held' = w }) ⊎ ((r ≡ NoBufferMemory) × StopsForMemory x (record t { held' = w }))) t.left t.left' p.consumed
      (λ x rest e. inl (record {
        items = p.items;
        texts = p.texts;
        spells = Front-spells t.settings x p.items (b ++ rest) (Refused r) (on x rest e) (h rest).0;
        before = before;
        leftover = Front-leftover t.settings x p.items (b ++ rest) before (on x rest e) (h rest).1;
        run = p.run;
        written = and_then w (refusal_text r) sent;
      }))

  pub no_memory : (r : FramingRefusal) (l w : Option Text) → ((tail : Text) → (before ≡ []) ⊎ IsBefore t.settings (b ++ tail) before) → r ≡ NoBufferMemory
      → Appends t.held' w (refusal_text r) → Serves (Refused r) (record t { left' = l; held' = w })
  no_memory r l w is none sent =
      some_of (λ x. Answers x (Refused r) (record t { left' = l; held' = w }) ⊎ ((r ≡ NoBufferMemory) × StopsForMemory x (record t { left' = l; held' = w }))) t.left t.left' p.consumed
      (λ x rest e. inr (
        none,
        record {
          items = p.items;
          texts = p.texts;
          rest = b ++ rest;
          front = on x rest e;
          before = before;
          is_before = is rest;
          run = p.run;
          written = subst (λ q. Appends t.held w (joined p.texts ++ (before ++ refusal_text q))) none (and_then w (refusal_text r) sent);
        },
      ))

  -- a text goes out in part
  stops : (text : Text) (n : ℕ) (l w : Option Text) (s : State) → ((tail : Text) → InHand (b ++ tail) before text (record t { left' = l; held' = w; state' = s }) p.items p.texts)
      → n < length text → Appends t.held' w (take n text) → Serves (WriteFailed n) (record t { left' = l; held' = w; state' = s })
  stops text n l w s hand short sent =
      some_of (λ x. StopsAtWrite x n (record t { left' = l; held' = w; state' = s })) t.left t.left' p.consumed (λ x rest e. record {
        items = p.items;
        texts = p.texts;
        rest = b ++ rest;
        front = on x rest e;
        before = before;
        text = text;
        short = short;
        written = and_then w (take n text) sent;
        in_hand = hand rest;
      })

  -- a refusal for want of memory was sent, whole or in part
  pub memory_serves : (e : End) (r : FramingRefusal) (l w : Option Text) → ((tail : Text) → (before ≡ []) ⊎ IsBefore t.settings (b ++ tail) before) → r ≡ NoBufferMemory
      → SendsRefusal e r t.held' w → Serves e (record t { left' = l; held' = w })
  memory_serves Closed r l w is none s = absurd s
  memory_serves Cut r l w is none s = absurd s
  memory_serves ReadFailed r l w is none s = absurd s
  memory_serves (WriteFailed n) r l w is none s =
      stops (refusal_text r) n l w t.state' (λ tail. refusing r refl (inr (none, is tail)) p.run) s.0 s.1
  memory_serves (Refused q) r l w is none s = no_memory q l w is (s.0 ∙ none) (subst (λ k. Appends t.held' w (refusal_text k)) (sym s.0) s.1)

  -- a refusal was sent, whole or in part
  pub refuse_serves : (e : End) (r : FramingRefusal) (w : Option Text) → ((tail : Text) → IsRefused t.settings (b ++ tail) r × IsBefore t.settings (b ++ tail) before)
      → SendsRefusal e r t.held' w → Serves e (record t { held' = w })
  refuse_serves Closed r w h s = absurd s
  refuse_serves Cut r w h s = absurd s
  refuse_serves ReadFailed r w h s = absurd s
  refuse_serves (WriteFailed n) r w h s =
      stops (refusal_text r) n t.left' w t.state' (λ tail. refusing r refl (inl (h tail)) p.run) s.0 s.1
  refuse_serves (Refused q) r w h s =
      refused q w (subst (λ k. (tail : Text) → IsRefused t.settings (b ++ tail) k × IsBefore t.settings (b ++ tail) before) (sym s.0) h) (subst (λ k. Appends t.held' w (refusal_text k)) (sym s.0) s.1)

  module _ (i : Item) (behind : Text) (begins : b ≡ print_item i ++ behind) (request : IsRequest t.settings i) (same : before ≡ text_before t.settings i.head)
      (a : Answer) (s : State) (does : Does t.state' (ask_in t.settings i.head i.body) a s) (w : Option Text) where
    replies : Replies t.settings t.state' i (before ++ reply_for i a) s
    replies = (a, does, ap (λ (x : Text). x ++ reply_for i a) same)

    -- the reply goes out whole, and the connection stays open
    pub answered : closes i ≡ false → Appends t.held' w (reply_for i a) → Progress behind [] (record t { held' = w; state' = s })
    answered stays sent = record {
      read = p.read;
      items = p.items ++ i ∷ [];
      texts = p.texts ++ (before ++ reply_for i a) ∷ [];
      front = Front-more t.settings p.read p.items b i behind p.front request begins stays;
      consumed = p.consumed;
      run = Run-more _ _ p.items p.texts _ i (before ++ reply_for i a) s p.run replies;
      written = rw (append-nil, joined-more) (and_then w (reply_for i a) sent);
    }

    -- the reply goes out whole, and the request was the last
    pub closed : closes i ≡ true → Appends t.held' w (reply_for i a) → Serves Closed (record t { held' = w; state' = s })
    closed last sent = some_of (λ x. Answers x Closed (record t { held' = w; state' = s })) t.left t.left' p.consumed (λ x rest e. record {
      items = p.items ++ i ∷ [];
      texts = p.texts ++ (before ++ reply_for i a) ∷ [];
      spells = Front-closes t.settings x p.items (b ++ rest) i (behind ++ rest) (on x rest e) request
          (ap (λ y. y ++ rest) begins ∙ append_assoc (print_item i) behind rest) last;
      before = [];
      leftover = Front-none t.settings x p.items (b ++ rest) i (behind ++ rest) (on x rest e) (ap (λ y. y ++ rest) begins ∙ append_assoc (print_item i) behind rest) last;
      run = Run-more _ _ p.items p.texts _ i (before ++ reply_for i a) s p.run replies;
      written = rw (append-nil, joined-more) (and_then w (reply_for i a) sent);
    })

    -- the reply goes out in part
    pub reply_cut : (n : ℕ) → n < length (reply_for i a) → Appends t.held' w (take n (reply_for i a)) → Serves (WriteFailed n) (record t { held' = w; state' = s })
    reply_cut n short sent =
        stops (reply_for i a) n t.left' w s
        (λ tail. replying i (behind ++ tail) (ap (λ y. y ++ tail) begins ∙ append_assoc (print_item i) behind tail)
        request same (Run-more _ _ p.items p.texts _ i (before ++ reply_for i a) s p.run replies)) short sent

-- what stands before the body goes out in part
pub continue_cut : (b : Text) (t : Traffic) (p : Progress b [] t) (text : Text) (w : Option Text) (n : ℕ) → ((tail : Text) → IsBefore t.settings (b ++ tail) text)
    → n < length text → Appends t.held' w (take n text) → Serves (WriteFailed n) (record t { held' = w })
continue_cut b t p text w n is short sent =
    stops b [] t p text n t.left' w t.state' (λ tail. continuing refl (is tail) p.run) short sent
