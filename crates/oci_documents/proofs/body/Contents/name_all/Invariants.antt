use Rattle.std.proofs.Common.{◌≡◌}
use Rattle.oci_documents.specs.Shown.{contents_shown, descriptors_shown, with_digests}
use Rattle.oci_documents.proofs.body.Contents.name_all.Given as goal

-- the digests so far are named
abbrev pub invariant-loop-descriptor : goal.invariant-loop-descriptor
invariant-loop-descriptor l = contents_shown l.self ≡ with_digests (contents_shown l.fn.self) (descriptors_shown l.yielded)
