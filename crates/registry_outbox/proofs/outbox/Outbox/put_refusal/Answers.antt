use Rattle.std.proofs.Common.{ℕ, ◌+◌, length, refl, sym, ap, ◌∙◌}
use Rattle.registry_outbox.specs.Outboxes.{left}
use Rattle.registry_outbox.proofs.ReportLemmas.{refusal_longer, grown_by}
use Rattle.registry_outbox.proofs.outbox.Outbox.put_refusal.Goals as goal

pub returns-clause-tells : goal.returns-clause-tells
returns-clause-tells c =
    let old = left c.args.self.now in
    let new = left c.refuse-end.new.self in (
      c.refusal.result,
      refl,
      c.refusal.ensures.refusal,
      grown_by old new c.len-before.result c.len-before.ensures (refusal_longer c.refuse-end.result c.args.refusal old new c.refuse-end.ensures)
          ∙ ap (λ (n : ℕ). length old + n) (sym (c.refusal.ensures.went ∙ c.grown-went.ensures)),
    )
