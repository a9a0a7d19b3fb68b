use Rattle.std.proofs.Common.{◌≡◌, Some, string_bytes, subst, sym, ap, ◌∙◌, option_map}
use Rattle.serde_json.specs.View.{view}
use Rattle.serde_json.specs.Find.{as_str}
use Rattle.serde_json.proofs.Views.{Entry}
use Rattle.oci_documents.proofs.Texts.{Copies, copies_one}
use Rattle.oci_documents.proofs.member.fill.Goals as goal

pub loop-key-preserved : goal.loop-key-preserved
loop-key-preserved c =
    let l = c.loop-key in
    let all = c.args.members.now.entries in
    let e : Entry = (c.in-Some.key.now, c.in-Some.member.now) in
    let left = c.next.new.self in
    let named : string_bytes c.in_ok-name.name ≡ string_bytes e.0 = c.in_ok-name.ensures.cases in
    let text : as_str (view e.1) ≡ Some (string_bytes c.in_ok-from_str.field-0) = rw c.in_ok-from_str.ensures.ok (sym c.as_str.ensures ∙ ap (option_map (λ s. s.now)) c.in_ok-text.ensures.ok_part) in
    copies_one all e left l.texts.entries c.insert.new.self.entries c.in_ok-name.name c.in_ok-from_str.field-0
    (subst (λ es. Copies all es l.texts.entries) c.in-Some.ensures.steps l.invariant)
    c.iter-key-items.ensures.ordered named text c.in_ok-insert.ensures.entries
