use Rattle.std.proofs.Common.{arith, sym, ◌∙◌}
use Rattle.registry_model.proofs.LastSlash.{split, whole}
use Rattle.registry_model.proofs.route.split_last.Goals as goal

pub returns-in-Some-clause-before : goal.returns-in-Some-clause-before
returns-in-Some-clause-before c =
    let h = c.in-Some.ensures.cases in
    h.3 ∙ sym (split c.args.path.now h.0 h.1 (omega arith) h.2 (omega arith)).0

pub returns-in-Some-clause-last : goal.returns-in-Some-clause-last
returns-in-Some-clause-last c =
    let h = c.in-Some.ensures.cases in
    h.4 ∙ sym (split c.args.path.now h.0 h.1 (omega arith) h.2 (omega arith)).1

pub returns-in-None-clause-before : goal.returns-in-None-clause-before
returns-in-None-clause-before c = sym (whole c.args.path.now c.in-None.ensures.cases).0

pub returns-in-None-clause-last : goal.returns-in-None-clause-last
returns-in-None-clause-last c = sym (whole c.args.path.now c.in-None.ensures.cases).1
