use Rattle.std.proofs.Common.{ℕ, ◌∙◌, sym, ap, length, Some}
use Rattle.std.specs.Prelude.{option_map, Vec}
use Rattle.std.specs.declared.alloc.Global.{Global}
use Rattle.registry_maps.proofs.SeenMaps.{number_total, exact_numbers, at_some, at_none}
use Rattle.registry_maps.proofs.repository.Repository.session_size.Goals as goal

pub returns-in-Some : goal.returns-in-Some
returns-in-Some c =
    ap Some (c.len.ensures ∙ c.in-Some.bytes.now.ok.0)
    ∙ sym (ap (option_map length) (at_some number_total exact_numbers (λ (v : Vec ℕ Global). v.items) c.args.self.now.sessions c.args.number c.get.result c.in-Some.bytes c.in-Some.is c.get.ensures.value))

pub returns-in-None : goal.returns-in-None
returns-in-None c =
    sym (ap (option_map length) (at_none number_total exact_numbers (λ (v : Vec ℕ Global). v.items) c.args.self.now.sessions c.args.number c.get.result c.in-None.is c.get.ensures.value))
