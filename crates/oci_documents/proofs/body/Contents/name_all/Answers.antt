use Rattle.std.proofs.Common.{◌≡◌, ◌∙◌, ap, sym}
use Rattle.std.proofs.lemmas.List.{map_push}
use Rattle.oci_documents.specs.Shown.{contents_shown, descriptor_shown, descriptors_shown, with_digest, with_digests}
use Rattle.oci_documents.proofs.NamedDigests.{nothing_named, named_more}
use Rattle.oci_documents.proofs.body.Contents.name_all.Goals as goal

pub loop-descriptor-init : goal.loop-descriptor-init
loop-descriptor-init c = nothing_named (contents_shown c.args.self.now)

pub loop-descriptor-preserved : goal.loop-descriptor-preserved
loop-descriptor-preserved c =
    let l = c.loop-descriptor in
    let begun = contents_shown c.args.self.now in
    let d = descriptor_shown c.in-Some.descriptor in
    let more : contents_shown c.name.new.self ≡ with_digest (contents_shown l.self) d.elsewhere d.digest = c.in_ok-name.ensures ∙ ap (with_digest (contents_shown l.self) d.elsewhere) c.into_digest.ensures in
    named_more begun (contents_shown l.self) (contents_shown c.name.new.self) (descriptors_shown l.yielded) d l.invariant more
    ∙ ap (with_digests begun) (sym (map_push descriptor_shown l.yielded c.in-Some.descriptor))
