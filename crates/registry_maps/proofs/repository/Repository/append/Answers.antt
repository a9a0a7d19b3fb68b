use Rattle.std.proofs.Common.{ℕ, ◌∙◌, sym, ap, rules}
use Rattle.std.specs.Prelude.{Vec, is_some}
use Rattle.std.specs.declared.alloc.Global.{Global}
use Rattle.std.specs.Option.{option_copied_mut}
use Rattle.registry_maps.proofs.SeenMaps.{number_total, exact_numbers, has_seen}
use Rattle.registry_maps.proofs.SeenRepositories.{appended_so}
use Rattle.registry_maps.proofs.repository.Repository.append.Goals as goal

pub returns-in-Some : goal.returns-in-Some
returns-in-Some c =
    let r = c.args.self.now in
    let old = c.in-Some.session.now in
    let new = c.extend_from_slice.new.self in
    let there = sym (ap option_copied_mut c.in-Some.is) ∙ c.get_mut.ensures.value in
    let updates = (c.get_mut.follows.holds new).3 (search rules) in
    appended_so r (c.get_mut.follows.lender new) c.args.number old new there updates c.extend_from_slice.result c.args.bytes.now c.extend_from_slice.ensures.items

pub returns-in-None : goal.returns-in-None
returns-in-None c =
    let r = c.args.self.now in
    let none = sym (ap option_copied_mut c.in-None.is) ∙ c.get_mut.ensures.value in
    let e = sym c.requires ∙ has_seen number_total exact_numbers (λ (v : Vec ℕ Global). v.items) r.sessions c.args.number ∙ ap is_some (sym none) in
    absurd (cc)
