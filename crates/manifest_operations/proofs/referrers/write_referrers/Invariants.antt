use Rattle.std.proofs.Common.{map}
use Rattle.oci_documents.specs.Referrers.{Lists}
use Rattle.registry_model.specs.Ask.{text_in}
use Rattle.manifest_operations.specs.Referrers.{wanted_of}
use Rattle.manifest_operations.proofs.referrers.write_referrers.Given as goal

-- the referrers so far are those among the manifests so far
abbrev pub invariant-loop-digest : goal.invariant-loop-digest
invariant-loop-digest g l = Lists g.S.Sink.took l.body (wanted_of (text_in l.wanted) (map (λ p. (p.0, p.1.items)) l.yielded))
