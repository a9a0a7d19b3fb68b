use Rattle.std.proofs.Common.{sym, ap, refl, ◌∙◌, arith, length}
use Rattle.std.specs.Str.{str_eq_ignore_ascii_case}
use Rattle.httparse.specs.Spans.{header_bytes}
use Rattle.registry_http.proofs.FieldLemmas.{keeps, count-adds, first-adds, first-stays}
use Rattle.registry_http.specs.Fields.{first}
use Rattle.registry_http.proofs.fields.values_of.Goals.{then-same_name, then-count-eq0, else-count-eq0, else-same_name}
use Rattle.registry_http.proofs.fields.values_of.Goals as goal

pub loop-field-preserved : goal.loop-field-preserved
loop-field-preserved c =
    let name = c.args.name.now in
    let of = header_bytes c.args.head.now in
    let hs = c.args.fields.now in
    let i = c.loop-field.field-index in
    let test = ap (λ x. str_eq_ignore_ascii_case x c.args.name.now) (sym c.of.ensures) ∙ sym c.same_name.ensures in
    elim c.if-same_name.branch [
      | then-same_name w ↦ elim w.if-count-eq0.branch [
        | then-count-eq0 w' ↦ record {
          few = omega arith;
          count = rw w.count-is (count-adds name of hs i _ c.loop-field-test.true _ _ (test ∙ w.if-same_name.true) refl c.loop-field.invariant.count);
          first = rw (w.found-is, w'.found-is)
              (first-adds name of hs i _ c.loop-field-test.true _ (test ∙ w.if-same_name.true) w'.of-then-count-eq0.ensures (sym c.loop-field.invariant.count ∙ w'.if-count-eq0.true));
        }
        | else-count-eq0 w' ↦ record {
          few = omega arith;
          count = rw w.count-is (count-adds name of hs i _ c.loop-field-test.true _ _ (test ∙ w.if-same_name.true) refl c.loop-field.invariant.count);
          first = rw (w.found-is, w'.found-is)
              (first-stays name of hs i _ c.loop-field-test.true _ _ (test ∙ w.if-same_name.true) refl (λ none. w'.if-count-eq0.false (c.loop-field.invariant.count ∙ none)) c.loop-field.invariant.first);
        }
      ]
      | else-same_name w ↦
          let same = keeps name of hs i _ c.loop-field-test.true (test ∙ w.if-same_name.false) in
          record {
            few = omega arith;
            count = rw w.count-is (c.loop-field.invariant.count ∙ sym (ap length same));
            first = rw w.found-is (c.loop-field.invariant.first ∙ sym (ap first same));
          }
    ]
