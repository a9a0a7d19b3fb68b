use Rattle.std.proofs.Common.{◌≡◌, None, Some, refl}
use Rattle.std.specs.Prelude.{Option}
use Rattle.oci_types.specs.Text.{Text}
use Rattle.registry_model.specs.declared.refusal.Refusal.TheVariants.{InvalidDigest}
use Rattle.registry_model.specs.Answer.{sent}
use Rattle.registry_model.specs.Ask.{text_in}
use Rattle.registry_model.specs.Keeping.{entries_shown}
use Rattle.registry_model.specs.Referrers.{referrers_reply}
use Rattle.operation_parts.specs.Digests.{digest_in}
use Rattle.operation_parts.proofs.FailedCalls.{read_failed}
use Rattle.operation_parts.proofs.DigestLemmas.{digest_absent, digest_found}
use Rattle.operation_parts.proofs.ReadLemmas.{text_told, text_read}
use Rattle.operation_parts.proofs.EarlyLemmas.{refused_early}
use Rattle.manifest_operations.specs.Referrers.{wanted_line}
use Rattle.manifest_operations.proofs.SayingLemmas.{replied, no_text}
use Rattle.manifest_operations.proofs.ReferrersLemmas.{refers, refers_nothing}
use Rattle.manifest_operations.proofs.referrers.list_referrers.Goals as goal

pub returns-in-Err : goal.returns-in-Err
returns-in-Err g c =
    refused_early (λ (o : Option Text). o) (λ o. o ≡ None) InvalidDigest c.read_digest.result (digest_in c.args.digest.now) c.in-Err.reply c.args.name.now _ _ _ _ _
    c.in-Err.ensures refl refl (text_told c.read_digest.result (digest_in c.args.digest.now) (g.K.Keeper.kept c.args.keeper.now) (g.K.Keeper.is_honest c.args.keeper.now) c.read_digest.ensures c.requires.unspent)
    (λ honest o none e stays a is. refers_nothing sent _ c.args.name.now c.args.digest.now (text_in c.args.artifact_type) (c.requires.there honest) c.requires.unspent
    (digest_absent o c.args.digest.now (no_text o none) e) a is)

pub returns-in_err-manifests : goal.returns-in_err-manifests
returns-in_err-manifests g c = read_failed _ c.from_residual.result c.in_err-manifests.field-0.0 _ _ _ _ _ _ c.from_residual.ensures c.in_err-manifests.ensures

pub returns : goal.returns
returns g c =
    let told = c.in_ok-manifests.ensures in
    let wanted = text_in c.filter_in.result in
    let entries = entries_shown c.in_ok-manifests.manifests in
    let read = digest_found (Some c.in-Ok.digest) c.in-Ok.digest c.args.digest.now refl (text_read c.read_digest.result (Some c.in-Ok.digest) (digest_in c.args.digest.now) c.in-Ok.ensures c.read_digest.ensures) in
    replied c.text_reply.result (referrers_reply wanted (sent (wanted_line wanted entries))) c.args.name.now _ (g.K.Keeper.kept c.args.keeper.now) _ _ _
    c.text_reply.ensures refl refl (λ honest. (told.found honest).1) c.requires.unspent told.spends.1 told.honest
    (λ honest a is.
    let found = told.found honest in
    refers sent _ _ c.args.name.now c.args.digest.now c.in-Ok.digest (text_in c.args.artifact_type) (c.requires.there (told.honest honest)) c.requires.unspent found.1 read.0 read.1
    wanted c.filter_in.ensures entries found.0 a is)
