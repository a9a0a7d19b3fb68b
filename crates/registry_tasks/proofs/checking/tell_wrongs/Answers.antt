use Rattle.std.proofs.Common.{◌≡◌, ◌∙◌, ℕ, true, false, List, [], length, refl, ap, sym}
use Rattle.std.specs.Prelude.{◌==◌}
use Rattle.std.proofs.lemmas.Bool.{eqb-true}
use Rattle.std.proofs.lemmas.List.{nil_from_length}
use Rattle.registry_tasks.proofs.checking.tell_wrongs.Goals as goal

nothing_found : {A : Type 0} (found wrongs : List A) (len : ℕ) → len ≡ length found → true ≡ (len == 0) → found ≡ wrongs → wrongs ≡ []
nothing_found found wrongs len is none same = sym same ∙ nil_from_length found (sym is ∙ eqb-true len 0 (sym none))

something_found : {A : Type 0} (found wrongs : List A) (len : ℕ) → len ≡ length found → false ≡ (len == 0) → found ≡ wrongs
    → wrongs ≡ [] → ⊥
something_found {A} found wrongs len is some same none =
    let zero : len ≡ 0 = is ∙ ap (length {A = A}) (same ∙ none) in
    let never : false ≡ true = some ∙ ap (λ (n : ℕ). n == 0) zero in
    cc

pub returns-in-Err-Memory : goal.returns-in-Err-Memory
returns-in-Err-Memory g c = record {
  checks = λ honest. (refl, (rw c.in-Err-Memory.field-0-is at c.in-Err-Memory.ensures.found) honest);
  honest = c.look.ensures.honest;
  fails = tt;
}

pub returns-in-Err-Storage : goal.returns-in-Err-Storage
returns-in-Err-Storage g c = record {
  checks = λ honest. rw c.in-Err-Storage.field-0-is at c.in-Err-Storage.ensures.spends;
  honest = c.look.ensures.honest;
  fails = tt;
}

pub returns-then-is_empty : goal.returns-then-is_empty
returns-then-is_empty g c =
    let now = c.look.new.wrongs in
    record {
      checks = λ honest.
          let found = rw c.requires.none at (c.in-Ok.ensures.found honest).0 in
          (nothing_found now.items _ now.len now.ok.0 c.if-is_empty.ensures found, refl, (c.in-Ok.ensures.found honest).1);
      honest = c.look.ensures.honest;
      fails = tt;
    }

pub returns-in-Ok-write_wrongs : goal.returns-in-Ok-write_wrongs
returns-in-Ok-write_wrongs g c =
    let now = c.look.new.wrongs in
    record {
      checks = λ honest.
          let found = rw c.requires.none at (c.in-Ok.ensures.found honest).0 in (
            something_found now.items _ now.len now.ok.0 c.if-is_empty.ensures found,
            rw (c.deref-2.ensures.value ∙ found) at c.in-Ok-write_wrongs.ensures,
            (c.in-Ok.ensures.found honest).1,
          );
      honest = c.look.ensures.honest;
      fails = tt;
    }

pub returns-in-Err : goal.returns-in-Err
returns-in-Err g c = record { checks = λ honest. (c.in-Ok.ensures.found honest).1; honest = c.look.ensures.honest; fails = tt }
