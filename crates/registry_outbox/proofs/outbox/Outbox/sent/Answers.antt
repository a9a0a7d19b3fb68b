use Rattle.std.proofs.Common.{◌≡◌, ◌-◌, length, length-drop, arith, ◌∙◌}
use Rattle.registry_outbox.specs.Outboxes.{heads_left, body_left}
use Rattle.registry_outbox.proofs.OutboxLemmas.{gone_of_body}
use Rattle.registry_outbox.proofs.outbox.Outbox.sent.Goals as goal

pub returns : goal.returns
returns c =
    let o = c.args.self.now in
    let new = c.sent_of_body.new.self in
    let waiting = c.len.result - o.gone in
    let size : waiting ≡ length (heads_left o) = omega (arith, c.len.ensures, o.heads.ok.0, length-drop o.gone o.heads.items) in
    gone_of_body (heads_left o) (body_left o) (heads_left new) (body_left new) c.args.count waiting size c.if-count-waiting.false
    (c.sent_of_body.ensures.heads ∙ c.clear.ensures.items) c.sent_of_body.ensures.body
