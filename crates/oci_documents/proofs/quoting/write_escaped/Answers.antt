use Rattle.std.proofs.Common.{◌≡◌, ◌++◌, [], ◌∷◌, ◌∙◌, get_or, take, refl, sym, ap, subst, append_assoc}
use Rattle.json.specs.Print.{escape, escape_byte}
use Rattle.oci_types.specs.Text.{Text}
use Rattle.oci_documents.specs.Sink.{Takes}
use Rattle.oci_documents.proofs.Escapes.{first, both, unescaped}
use Rattle.oci_documents.proofs.Pieces.{Took, took_nothing, took_both, takes_both}
use Rattle.oci_documents.proofs.quoting.write_escaped.Goals as goal

pub loop-at-init : goal.loop-at-init
loop-at-init g c = record { done = []; parts = refl; taken = took_nothing g.S.Sink.took c.args.out.now }

pub write_escape-requires : goal.write_escape-requires
write_escape-requires g c = (first c.loop-at.rest.now c.in-Some.at (sym c.in-Some.is ∙ c.first_escaped.ensures)).escaped

pub loop-at-preserved : goal.loop-at-preserved
loop-at-preserved g c =
    let i = c.loop-at.invariant in
    let rest = c.loop-at.rest.now in
    let at = c.in-Some.at in
    let byte = get_or rest at 0 in
    let here = first rest at (sym c.in-Some.is ∙ c.first_escaped.ensures) in
    record {
      done = i.done ++ (take at rest ++ byte ∷ []);
      parts = i.parts ∙ ap (λ (x : Text). i.done ++ x) (sym here.parts) ∙ sym (append_assoc i.done (take at rest ++ byte ∷ []) _);
      taken = subst (Took g.S.Sink.took c.args.out.now c.write_escape.new.out) (both i.done (take at rest ++ byte ∷ []) _ here.text)
          (took_both g.S.Sink.took c.args.out.now c.loop-at.out c.write_escape.new.out (escape i.done) (take at rest ++ escape_byte byte) i.taken
          (took_both g.S.Sink.took c.loop-at.out c.take.new.self c.write_escape.new.out (take at rest) (escape_byte byte) c.in_ok-take.ensures c.in_ok-write_escape.ensures));
    }

pub returns : goal.returns
returns g c =
    let i = c.loop-at.invariant in
    let rest = c.loop-at.rest.now in
    subst (Takes g.S.Sink.took c.take-2.result c.args.out.now c.take-2.new.self)
    (both i.done rest rest (unescaped rest (sym c.in_default.is ∙ c.first_escaped.ensures)) ∙ ap escape (sym i.parts))
    (takes_both g.S.Sink.took c.take-2.result c.args.out.now c.loop-at.out c.take-2.new.self (escape i.done) rest i.taken c.take-2.ensures)
