use Rattle.std.proofs.Common.{ℕ, subst}
use Rattle.registry_model.specs.Answer.{answer_of}
use Rattle.registry_http.specs.ReplyText.{head_after, status_line}
use Rattle.registry_http.specs.Sending.{SendsReply}
use Rattle.registry_http.proofs.reply_text.write_head.Goals as goal

pub returns : goal.returns
returns g c =
    let held = g.W.Write.contents c.args.writer.now in
    let front = c.put_digest.ensures held _ (c.put_if-2.ensures held _ (c.put_if.ensures held _ (c.put_length.ensures held _ (c.put_status.ensures held _ (c.new-out.ensures held))))) in
    let middle = c.put_if-3.ensures held _ (c.put_digest-2.ensures held _ (c.put_string-2.ensures held _ (c.put_string.ensures held _ front))) in
    let fields = c.put_challenge.ensures held _ (c.put_if-4.ensures held _ (c.put_string-3.ensures held _ middle)) in
    let sent = c.finish.ensures held _ (c.put.ensures held _ (c.put_close.ensures held _ fields)) in
    subst (λ (n : ℕ). SendsReply c.finish.result held (g.W.Write.contents c.finish.new.writer) (head_after (status_line n) c.args.close (answer_of c.args.reply.now)))
    c.code.ensures sent
