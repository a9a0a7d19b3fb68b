use Rattle.std.proofs.Common.{◌≡◌, ◌∙◌, List, ◌++◌, cond, [], ◌∷◌, ap, sym, subst, append-nil}
use Rattle.std.specs.Prelude.{option_map}
use Rattle.oci_types.specs.Referrers.{ReferrerShown, referrer_shown}
use Rattle.oci_documents.specs.Referrers.{Lists}
use Rattle.registry_model.specs.Ask.{text_in}
use Rattle.manifest_operations.specs.Referrers.{added_by}
use Rattle.manifest_operations.proofs.referrers.add_wanted.Goals as goal

pub returns-then-not-lets_through : goal.returns-then-not-lets_through
returns-then-not-lets_through g c = λ rs listed.
    let wanted = text_in c.args.wanted in
    let nothing : added_by wanted (option_map referrer_shown c.args.referrer) ≡ [] =
    ap (λ o. added_by wanted (option_map referrer_shown o)) c.in-Some.is
    ∙ ap (λ b. cond b (referrer_shown c.in-Some.referrer ∷ []) []) (sym c.lets_through.ensures ∙ c.if-not-lets_through.true) in
    subst (Lists g.S.Sink.took c.args.body.now) (sym (ap (λ (more : List ReferrerShown). rs ++ more) nothing ∙ append-nil rs)) listed
