use Rattle.std.proofs.Common.{ap, sym, subst, ◌∙◌, Some, Option}
use Rattle.oci_types.specs.Text.{Text}
use Rattle.registry_http.specs.Ending.{SendsRefusal}
use Rattle.registry_outbox.specs.declared.report.Report.{Report}
use Rattle.registry_outbox.specs.Reports.{TellsRefusal, Reported}
use Rattle.registry_conversation.specs.Shown.{Shown, coming_len}
use Rattle.registry_conversation.specs.ConversationShowing.{shown}
use Rattle.registry_conversation.proofs.conversation.Conversation.refuse.Goals as goal

pub returns : goal.returns
returns c =
    let none = c.let_go.ensures in
    let mid = c.let_go.new.self in
    let end = c.put_refusal-end.result in
    let ends = c.end.ensures.ends in
    let was = ap (λ (k : Shown). k.going) none in
    let is = ap (λ (k : Shown). k.going) ends in
    record {
      refuses = record {
        end = end;
        found_is = c.end.ensures.step;
        sends = subst (λ (x : Text). SendsRefusal end c.args.refusal (Some x) (Some (shown c.end.new.self).going)) was
            (subst (λ (x : Text). SendsRefusal end c.args.refusal (Some (shown mid).going) (Some x)) (sym is) c.put_refusal-end.ensures.sends);
        ended = ap (λ (k : Shown). k.phase) ends;
        finished = ap (λ (k : Shown). k.finished) ends ∙ ap (λ (k : Shown). k.finished) none;
        none_held = ap coming_len ends ∙ ap coming_len none;
      };
      tells =
          subst (λ (q : Option Report). Reported q (shown c.args.self.now).going (shown c.end.new.self).going (λ r. TellsRefusal r c.args.refusal)) (sym c.end.ensures.report)
          (subst (λ (x : Text). Reported c.put_refusal-end.new.self.report x (shown c.end.new.self).going (λ r. TellsRefusal r c.args.refusal)) was
          (subst (λ (x : Text). Reported c.put_refusal-end.new.self.report (shown mid).going x (λ r. TellsRefusal r c.args.refusal)) (sym is) c.put_refusal-end.ensures.tells));
    }
