use Rattle.std.proofs.Common.{ℕ, Option, refl, sym, subst}
use Rattle.std.specs.Prelude.{IfNone}
use Rattle.registry_server.specs.Lives.{NoneSilent}
use Rattle.registry_server.specs.Slots.{slots_of}
use Rattle.registry_server.proofs.SlotLemmas.{opened}
use Rattle.registry_server.proofs.LifeLemmas.{all_on, life_at, silent_at}
use Rattle.registry_server.proofs.KeptLemmas.{none_silent}
use Rattle.registry_server.proofs.connections.Connections.silent.Goals as goal

pub returns-clause-silent : goal.returns-clause-silent
returns-clause-silent c =
    let items = c.args.self.now.connections.items in
    let x = c.index.result.now in
    let f = silent_at c.args.limit c.args.self.now.time c.in_ok-at.at c.deref.result.now items x c.deref.ensures.value c.index.ensures c.in_ok-at.ensures.found in
    (x.life, life_at c.args.self.now.next c.in_ok-at.at items x (opened c.args.self.now.next (slots_of items) c.args.self.now.numbered) f.0 c.index.ensures, f.1)

pub returns-then-self-limit-clause-none : goal.returns-then-self-limit-clause-none
returns-then-self-limit-clause-none c =
    let u = c.args.self.now in
    all_on c.args.limit u.time u.connections.items u.connections.items refl
    (none_silent c.args.limit u.oldest u.time u.connections.items c.if-self-limit.true u.kept.alive)

pub returns-in_err-at-clause-none : goal.returns-in_err-at-clause-none
returns-in_err-at-clause-none c =
    subst (λ (o : Option ℕ). IfNone o (NoneSilent c.args.limit c.args.self.now)) (sym c.from_residual.ensures)
    (all_on c.args.limit c.args.self.now.time c.deref.result.now c.args.self.now.connections.items c.deref.ensures.value c.in_err-at.ensures.none)
