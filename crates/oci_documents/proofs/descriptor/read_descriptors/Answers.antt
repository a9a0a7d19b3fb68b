use Rattle.std.proofs.Common.{◌≡◌, ◌++◌, ◌∷◌, [], ◌∙◌}
use Rattle.std.proofs.lemmas.Result.{err_from_is_err_and}
use Rattle.std.proofs.lemmas.List.{map_push}
use Rattle.oci_documents.specs.Shown.{descriptor_shown, descriptors_shown}
use Rattle.oci_documents.proofs.Descriptors.{one_more, no_more, all_read}
use Rattle.oci_documents.proofs.descriptor.read_descriptors.Goals as goal

pub returns-in_err-descriptor : goal.returns-in_err-descriptor
returns-in_err-descriptor c =
    let l = c.loop-value in
    let passed_on = err_from_is_err_and c.from_residual.result c.from_residual.ensures.1 in
    rw (passed_on.1, passed_on.2) (λ other.
    let found = c.in_err-descriptor.ensures other in
    (found.0, l.invariant ∙ no_more (descriptors_shown l.found.items) c.args.values.now l.value-index c.value-item.result c.loop-value-test.true c.value-item.is found.1))

pub loop-value-preserved : goal.loop-value-preserved
loop-value-preserved c =
    let l = c.loop-value in
    let descriptor = c.in_ok-descriptor.descriptor in
    let pushed : descriptors_shown c.push.new.self.items ≡ descriptors_shown l.found.items ++ descriptor_shown descriptor ∷ [] = rw c.in_ok-push.ensures.items (map_push _ l.found.items descriptor) in
    rw pushed (l.invariant ∙ one_more (descriptors_shown l.found.items) c.args.values.now l.value-index c.value-item.result (descriptor_shown descriptor) c.loop-value-test.true c.value-item.is c.in_ok-descriptor.ensures)

pub returns : goal.returns
returns c = c.loop-value.invariant ∙ all_read (descriptors_shown c.loop-value.found.items) c.args.values.now c.loop-value.value-index c.loop-value-test.false
