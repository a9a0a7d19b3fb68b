use Rattle.std.proofs.Common.{◌≡◌, ◌∙◌, ℕ, map, ap, sym, subst, Vec}
use Rattle.std.specs.declared.alloc.Global.{Global}
use Rattle.std.specs.Prelude.{option_map}
use Rattle.std.proofs.lemmas.List.{map_push}
use Rattle.oci_types.specs.Text.{Text}
use Rattle.oci_types.specs.Referrers.{referrer_shown}
use Rattle.oci_documents.specs.Referrers.{Lists}
use Rattle.registry_model.specs.Ask.{text_in}
use Rattle.registry_model.specs.Referrers.{referrer_in}
use Rattle.manifest_operations.specs.Referrers.{wanted_of}
use Rattle.manifest_operations.proofs.ReferrersLemmas.{wanted_more}
use Rattle.manifest_operations.proofs.referrers.write_referrers.Goals as goal

abbrev shown : Text × Vec ℕ Global → Text × Text
shown p = (p.0, p.1.items)

pub loop-digest-preserved : goal.loop-digest-preserved
loop-digest-preserved g c =
    let wanted = text_in c.args.wanted in
    let before = map shown c.loop-digest.yielded in
    let read : option_map referrer_shown c.in_ok-referrer.referrer ≡ referrer_in (c.in-Some.digest, c.in-Some.bytes.items) =
    c.in_ok-referrer.ensures ∙ ap (λ b. referrer_in (c.in-Some.digest, b)) c.deref.ensures.value in
    subst (Lists g.S.Sink.took c.add_wanted.new.body)
    (sym (ap (wanted_of wanted) (map_push shown c.loop-digest.yielded (c.in-Some.digest, c.in-Some.bytes)) ∙ wanted_more wanted before (c.in-Some.digest, c.in-Some.bytes.items) _ read))
    (c.in_ok-add_wanted.ensures (wanted_of wanted before) c.loop-digest.invariant)
