use Rattle.std.proofs.Common.{◌≡◌, ◌≤◌, ◌+◌, ◌++◌, le_trans, le_of_eq, List, ℕ, length, take, slice_range, ap, ◌∙◌, arith}
use Rattle.std.proofs.lemmas.List.{with_items_is}
use Rattle.registry_http.proofs.BufferLemmas.{slice_kept, slice_more, slice_few, some_read}
use Rattle.registry_http.proofs.buffer.Buffer.read_from.Goals as goal

pub returns-in-Ok-clause-cases : goal.returns-in-Ok-clause-cases
returns-in-Ok-clause-cases g c =
    let b = c.args.self.now in
    let room = c.read_at.new.room in
    let size : length room ≡ b.room.len = omega (arith, c.read_at.auto.room, ap length c.deref_mut.ensures.value, b.room.ok.0) in
    let front = c.read_at.ensures.front ∙ ap (take b.end) c.deref_mut.ensures.value in
    let more = slice_range room b.end (b.end + c.in-Ok.n) in
    let kept = slice_kept b.room.items room b.end b.unread b.end front b.ordered (omega arith) in
    record {
      bytes = more;
      some = some_read room b.end c.in-Ok.n c.in-Ok.ensures.cases.0 (omega (arith, c.in-Ok.n-test));
      grown = ap (λ (x : List ℕ). slice_range x b.unread (b.end + c.in-Ok.n)) (with_items_is b.room room size)
          ∙ slice_more room b.unread b.end c.in-Ok.n b.ordered ∙ ap (λ (x : List ℕ). x ++ more) kept;
      taken = c.in-Ok.ensures.cases.2;
    }

pub returns-in-Err-clause-before : goal.returns-in-Err-clause-before
returns-in-Err-clause-before g c =
    let b = c.args.self.now in
    let room = c.read_at.new.room in
    let size : length room ≡ b.room.len = omega (arith, c.read_at.auto.room, ap length c.deref_mut.ensures.value, b.room.ok.0) in
    let front = c.read_at.ensures.front ∙ ap (take b.end) c.deref_mut.ensures.value in
    ap (λ (x : List ℕ). slice_range x b.start b.place) (with_items_is b.room room size)
    ∙ slice_kept b.room.items room b.end b.start b.place front b.started (omega (arith, b.placed, b.ordered))

pub returns-in-Ok-clause-before : goal.returns-in-Ok-clause-before
returns-in-Ok-clause-before g c =
    let b = c.args.self.now in
    let room = c.read_at.new.room in
    let size : length room ≡ b.room.len = omega (arith, c.read_at.auto.room, ap length c.deref_mut.ensures.value, b.room.ok.0) in
    let front = c.read_at.ensures.front ∙ ap (take b.end) c.deref_mut.ensures.value in
    ap (λ (x : List ℕ). slice_range x b.start b.place) (with_items_is b.room room size)
    ∙ slice_kept b.room.items room b.end b.start b.place front b.started (omega (arith, b.placed, b.ordered))

pub returns-in-Ok-eq0-clause-before : goal.returns-in-Ok-eq0-clause-before
returns-in-Ok-eq0-clause-before g c =
    let b = c.args.self.now in
    let room = c.read_at.new.room in
    let size : length room ≡ b.room.len = omega (arith, c.read_at.auto.room, ap length c.deref_mut.ensures.value, b.room.ok.0) in
    let front = c.read_at.ensures.front ∙ ap (take b.end) c.deref_mut.ensures.value in
    ap (λ (x : List ℕ). slice_range x b.start b.place) (with_items_is b.room room size)
    ∙ slice_kept b.room.items room b.end b.start b.place front b.started (omega (arith, b.placed, b.ordered))

pub returns-in-Ok-clause-few : goal.returns-in-Ok-clause-few
returns-in-Ok-clause-few g c =
    let b = c.args.self.now in
    let room = c.read_at.new.room in
    let size : length room ≡ b.room.len = omega (arith, c.read_at.auto.room, ap length c.deref_mut.ensures.value, b.room.ok.0) in
    let within : b.end ≤ length b.room.items = omega (arith, b.within, b.room.ok.0) in
    let more = c.in-Ok.ensures.cases in
    le_trans (le_of_eq (ap (λ (x : List ℕ). length (slice_range x b.unread (b.end + c.in-Ok.n))) (with_items_is b.room room size)))
    (slice_few b.room.items room b.unread b.end c.in-Ok.n 1048576 within more.0 more.1)

pub returns-in-Err-clause-kept : goal.returns-in-Err-clause-kept
returns-in-Err-clause-kept g c =
    let b = c.args.self.now in
    let room = c.read_at.new.room in
    let size : length room ≡ b.room.len = omega (arith, c.read_at.auto.room, ap length c.deref_mut.ensures.value, b.room.ok.0) in
    let front = c.read_at.ensures.front ∙ ap (take b.end) c.deref_mut.ensures.value in
    ap (λ (x : List ℕ). slice_range x b.unread b.end) (with_items_is b.room room size)
    ∙ slice_kept b.room.items room b.end b.unread b.end front b.ordered (omega arith)

pub returns-in-Ok-eq0-clause-kept : goal.returns-in-Ok-eq0-clause-kept
returns-in-Ok-eq0-clause-kept g c =
    let b = c.args.self.now in
    let room = c.read_at.new.room in
    let size : length room ≡ b.room.len = omega (arith, c.read_at.auto.room, ap length c.deref_mut.ensures.value, b.room.ok.0) in
    let front = c.read_at.ensures.front ∙ ap (take b.end) c.deref_mut.ensures.value in
    ap (λ (x : List ℕ). slice_range x b.unread b.end) (with_items_is b.room room size)
    ∙ slice_kept b.room.items room b.end b.unread b.end front b.ordered (omega arith)
