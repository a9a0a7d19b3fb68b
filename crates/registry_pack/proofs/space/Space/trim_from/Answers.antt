use Rattle.std.proofs.Common.{◌≡◌, ◌-◌, ◌∙◌, length, take, ap, arith}
use Rattle.registry_pack.proofs.TrimLemmas.{at_end, holes_trimmed, trimmed_was_free, free_trimmed, not_before_trimmed, trims_there}
use Rattle.registry_pack.proofs.space.Space.trim_from.Goals as goal

pub returns-then-end_of-end-clause-cut : goal.returns-then-end_of-end-clause-cut
returns-then-end_of-end-clause-cut c =
    let s = c.args.self.now in
    let last = at_end _ s.holes.items _ c.in-Some.hole c.deref.ensures.value c.last.ensures.value c.in-Some.ensures in
    λ _ all p e f. absurd (omega (arith, trims_there s.holes.items c.in-Some.hole last s.apart c.args.end all p e f))

pub invariant_of-self : goal.invariant_of-self
invariant_of-self c =
    let s = c.args.self.now in
    let last = at_end _ s.holes.items _ c.in-Some.hole c.deref.ensures.value c.last.ensures.value c.in-Some.ensures in
    let same : s.holes.len - 1 ≡ length s.holes.items - 1 = omega (arith, s.holes.ok.0) in
    record { apart = holes_trimmed s.holes.items c.in-Some.hole last s.apart c.pop.new.self.items (c.pop.ensures.rest ∙ ap (λ n. take n s.holes.items) same) }

pub returns-clause-was_free : goal.returns-clause-was_free
returns-clause-was_free c =
    let s = c.args.self.now in
    let last = at_end _ s.holes.items _ c.in-Some.hole c.deref.ensures.value c.last.ensures.value c.in-Some.ensures in
    trimmed_was_free s.holes.items c.in-Some.hole last s.apart c.at-2.result c.args.end (omega arith) (omega arith)

pub returns-clause-after : goal.returns-clause-after
returns-clause-after c =
    let s = c.args.self.now in
    let last = at_end _ s.holes.items _ c.in-Some.hole c.deref.ensures.value c.last.ensures.value c.in-Some.ensures in
    let same : s.holes.len - 1 ≡ length s.holes.items - 1 = omega (arith, s.holes.ok.0) in
    free_trimmed s.holes.items c.in-Some.hole last s.apart c.at-2.result c.args.end (omega arith) (omega arith) c.pop.new.self.items
    (c.pop.ensures.rest ∙ ap (λ n. take n s.holes.items) same)

pub returns-clause-whole : goal.returns-clause-whole
returns-clause-whole c =
    let s = c.args.self.now in
    let last = at_end _ s.holes.items _ c.in-Some.hole c.deref.ensures.value c.last.ensures.value c.in-Some.ensures in
    λ _. not_before_trimmed s.holes.items c.in-Some.hole last s.apart c.at-2.result c.args.end (omega arith) (omega arith)

pub returns-clause-cut : goal.returns-clause-cut
returns-clause-cut c =
    let s = c.args.self.now in
    let last = at_end _ s.holes.items _ c.in-Some.hole c.deref.ensures.value c.last.ensures.value c.in-Some.ensures in
    λ _ _. not_before_trimmed s.holes.items c.in-Some.hole last s.apart c.at-2.result c.args.end (omega arith) (omega arith)

pub returns-then-at-from-clause-cut : goal.returns-then-at-from-clause-cut
returns-then-at-from-clause-cut c none = absurd (omega arith)
