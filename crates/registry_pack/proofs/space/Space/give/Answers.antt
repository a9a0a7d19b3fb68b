use Rattle.std.proofs.Common.{List, subst}
use Rattle.registry_pack.specs.declared.extent.Extent.{Extent}
use Rattle.registry_pack.specs.Joining.{Joins}
use Rattle.registry_pack.proofs.JoinLemmas.{holes_given, Gives-joined}
use Rattle.registry_pack.proofs.SpaceLemmas.{holes_either, Gives-on_ok}
use Rattle.registry_pack.proofs.space.Space.give.Goals as goal

pub invariant_of-self : goal.invariant_of-self
invariant_of-self c =
    let s = c.args.self.now in
    let first = c.first_ending_from-first.result in
    let hole = c.join-until.result.0 in
    let until = c.join-until.result.1 in
    let joins = subst (λ (l : List Extent). Joins l first c.args.extent hole until) c.deref-2.ensures.value c.join-until.ensures in
    let given = holes_given s.holes.items first c.args.extent hole until s.apart joins in
    record { apart = holes_either c.replace.result _ _ _ c.replace.ensures.ok c.replace.ensures.err s.apart given }

pub returns-clause-ok : goal.returns-clause-ok
returns-clause-ok c =
    let s = c.args.self.now in
    let first = c.first_ending_from-first.result in
    let hole = c.join-until.result.0 in
    let until = c.join-until.result.1 in
    let joins = subst (λ (l : List Extent). Joins l first c.args.extent hole until) c.deref-2.ensures.value c.join-until.ensures in
    let gives = Gives-joined s.holes.items first c.args.extent hole until s.apart joins in
    Gives-on_ok c.replace.result s.holes.items c.replace.new.holes.items _ c.args.extent c.replace.ensures.ok gives
