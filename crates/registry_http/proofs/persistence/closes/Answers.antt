use Rattle.std.proofs.Common.{sym, ap, ◌∙◌, codes, ◌≡◌, refl, ◌||◌, Bool, true, false}
use Rattle.std.specs.Str.{str_eq_ignore_ascii_case}
use Rattle.httparse.specs.Spans.{header_bytes}
use Rattle.registry_http.specs.Fields.{lists_close}
use Rattle.registry_http.proofs.FieldLemmas.{keeps, any-found, any-passed}
use Rattle.registry_http.proofs.persistence.closes.Goals.{else-same_name-via-then-same_name+else-lists_close, else-same_name-via-else-same_name}
use Rattle.registry_http.proofs.persistence.closes.Goals as goal

or_true : (a b : Bool) → b ≡ true → true ≡ (a || b)
or_true true b e = refl
or_true false b e = sym e

pub returns-then-lists_close : goal.returns-then-lists_close
returns-then-lists_close c =
    let test = ap (λ x. str_eq_ignore_ascii_case x (codes "connection")) (sym c.of.ensures) ∙ sym c.same_name.ensures ∙ c.if-same_name.true in
    let pass = ap lists_close (sym c.of-then-same_name.ensures) ∙ sym c.lists_close.ensures ∙ c.if-lists_close.true in
    or_true _ _ (any-found (codes "connection") (header_bytes c.args.head.now) c.args.fields.now c.loop-field.field-index _ c.loop-field-test.true lists_close _ test refl pass)

pub loop-field-preserved : goal.loop-field-preserved
loop-field-preserved c =
    let test = ap (λ x. str_eq_ignore_ascii_case x (codes "connection")) (sym c.of.ensures) ∙ sym c.same_name.ensures in
    elim c.else-same_name.branch [
      | else-same_name-via-then-same_name+else-lists_close w ↦
          any-passed (codes "connection") (header_bytes c.args.head.now) c.args.fields.now c.loop-field.field-index _ c.loop-field-test.true lists_close _ (test ∙ w.if-same_name.true) refl
          (ap lists_close (sym w.of-then-same_name.ensures) ∙ sym w.lists_close.ensures ∙ w.if-lists_close.false) c.loop-field.invariant
      | else-same_name-via-else-same_name w ↦
          rw (keeps (codes "connection") (header_bytes c.args.head.now) c.args.fields.now c.loop-field.field-index _ c.loop-field-test.true (test ∙ w.if-same_name.false)) c.loop-field.invariant
    ]
