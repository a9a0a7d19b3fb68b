use Rattle.std.proofs.Common.{◌++◌, ◌∙◌, map, codes, ap, subst, append_assoc}
use Rattle.oci_types.specs.Text.{Text}
use Rattle.oci_types.specs.Json.{with_commas}
use Rattle.oci_types.specs.Referrers.{referrer_shown, referrer_line}
use Rattle.oci_documents.specs.Referrers.{separator}
use Rattle.oci_documents.proofs.Commas.{line_more, has_one}
use Rattle.oci_documents.proofs.Pieces.{took_both}
use Rattle.oci_documents.proofs.referrers.ReferrersBody.add.Goals as goal

pub returns : goal.returns
returns g c = λ rs listed.
    let took = g.S.Sink.took in
    let body = c.args.self.now in
    let shown = referrer_shown c.args.referrer.now in
    let head = codes "{\"manifests\":[" in
    let lines = with_commas (map referrer_line rs) in
    record {
      text = subst (took c.write_referrer.new.out)
          (append_assoc head lines (separator body.is_empty ++ referrer_line shown) ∙ ap (λ (x : Text). head ++ x) (line_more referrer_line rs shown body.is_empty listed.is_empty))
          (took_both took body.out c.separate.new.out c.write_referrer.new.out _ _ c.in_ok-separate.ensures c.in_ok-write_referrer.ensures (head ++ lines) listed.text);
      is_empty = has_one rs shown;
    }
