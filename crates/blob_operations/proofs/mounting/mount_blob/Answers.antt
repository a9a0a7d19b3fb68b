use Rattle.std.proofs.Common.{◌≡◌, ◌∙◌, None, Some, refl, sym, subst}
use Rattle.std.specs.Prelude.{Option}
use Rattle.oci_types.specs.Text.{Text}
use Rattle.registry_model.specs.World.{repo_at}
use Rattle.registry_model.specs.Ask.{text_in}
use Rattle.registry_model.specs.Lookups.{blob_at, blob_size_at}
use Rattle.registry_model.specs.Mount as mounts
use Rattle.registry_model.specs.Sessions as sessions
use Rattle.operation_parts.specs.Operating.{OperatesWith}
use Rattle.registry_model.specs.declared.refusal.Refusal.TheVariants.{InvalidDigest}
use Rattle.operation_parts.specs.Digests.{digest_in}
use Rattle.operation_parts.proofs.FailedCalls.{read_failed}
use Rattle.operation_parts.proofs.RepoOutcomes.{there_is, told, same_act, spends_after}
use Rattle.operation_parts.proofs.ReadLemmas.{text_told}
use Rattle.operation_parts.proofs.DigestLemmas.{digest_read, no_digest}
use Rattle.operation_parts.proofs.EarlyLemmas.{refused_early}
use Rattle.blob_operations.proofs.MountLemmas.{source_has, invalid_mount, opens_instead, mounts_from}
use Rattle.blob_operations.proofs.mounting.mount_blob.Goals as goal

pub returns-in-Err : goal.returns-in-Err
returns-in-Err g c =
    refused_early (λ (o : Option Text). o) (λ o. o ≡ None) InvalidDigest c.read_digest.result (digest_in c.args.digest.now) c.in-Err.reply c.args.name.now _ _ _ _ _
    c.in-Err.ensures refl refl (text_told c.read_digest.result (digest_in c.args.digest.now) (g.K.Keeper.kept c.args.keeper.now) (g.K.Keeper.is_honest c.args.keeper.now) c.read_digest.ensures c.requires.unspent)
    (λ honest o none e stays a is.
    let s = g.K.Keeper.kept c.args.keeper.now in
    let name = c.args.name.now in
    let here = there_is (repo_at s.world name) (c.requires.there honest) in
    told s _ name (λ r. mounts.mount_blob (s.world.grants c.args.token.now) (repo_at s.world) r name c.args.digest.now (text_in c.args.«from»)) here.0 here.1 a _ is c.requires.unspent stays
    (invalid_mount s.world here.0 c.args.token.now name c.args.digest.now (text_in c.args.«from») (no_digest c.args.digest.now o none e)))

pub mount_from-requires-clause-source : goal.mount_from-requires-clause-source
mount_from-requires-clause-source g c honest =
    let s = g.K.Keeper.kept c.args.keeper.now in
    let u = c.in-Some.source in
    let asked = c.in_ok-find_source.ensures.found honest in
    subst (λ x. blob_size_at x.world u.name c.in-Ok.digest ≡ Some u.size) (sym asked.1) (source_has s.world c.args.token.now c.in-Ok.digest (text_in c.args.«from») u (sym c.in-Some.is ∙ asked.0))

pub returns-in-None : goal.returns-in-None
returns-in-None g c = record {
  comes = λ honest. (
      let s = g.K.Keeper.kept c.args.keeper.now in
      let name = c.args.name.now in
      let between = c.open_session.ensures.honest honest in
      let asked = c.in_ok-find_source.ensures.found between in
      let here = there_is (repo_at s.world name) (c.requires.there (c.in_ok-find_source.ensures.honest between)) in
      let read = digest_read c.read_digest.result c.in-Ok.digest c.args.digest.now c.in-Ok.ensures c.read_digest.ensures in
      same_act c.open_session.result name (λ r. sessions.open_session r name)
      (λ r. mounts.mount_blob (s.world.grants c.args.token.now) (repo_at s.world) r name c.args.digest.now (text_in c.args.«from»)) s _ _ here.0 asked.1 here.1
      (opens_instead s.world here.0 c.args.token.now name c.in-Ok.digest c.args.digest.now (text_in c.args.«from») read.0 read.1 (sym c.in-None.is ∙ asked.0))
      (c.open_session.ensures.comes honest));
  answers = c.open_session.ensures.answers;
  carries = c.open_session.ensures.carries;
  spends = spends_after c.open_session.result (g.K.Keeper.kept c.args.keeper.now) _ _ c.requires.unspent c.open_session.ensures.spends;
  honest = λ honest. c.in_ok-find_source.ensures.honest (c.open_session.ensures.honest honest);
}

pub returns-in-Some : goal.returns-in-Some
returns-in-Some g c = record {
  comes = λ honest. (
      let s = g.K.Keeper.kept c.args.keeper.now in
      let name = c.args.name.now in
      let u = c.in-Some.source in
      let between = c.mount_from.ensures.honest honest in
      let asked = c.in_ok-find_source.ensures.found between in
      let here = there_is (repo_at s.world name) (c.requires.there (c.in_ok-find_source.ensures.honest between)) in
      let read = digest_read c.read_digest.result c.in-Ok.digest c.args.digest.now c.in-Ok.ensures c.read_digest.ensures in
      same_act c.mount_from.result name (λ r. mounts.mounted r name c.in-Ok.digest (blob_at s.world u.name c.in-Ok.digest))
      (λ r. mounts.mount_blob (s.world.grants c.args.token.now) (repo_at s.world) r name c.args.digest.now (text_in c.args.«from»)) s s _ here.0 refl here.1
      (mounts_from s.world here.0 c.args.token.now name c.in-Ok.digest c.args.digest.now (text_in c.args.«from») u read.0 read.1 (sym c.in-Some.is ∙ asked.0))
      (subst (λ x. OperatesWith c.mount_from.result name (λ w r. mounts.mounted r name c.in-Ok.digest (blob_at w u.name c.in-Ok.digest)) x (g.K.Keeper.kept c.mount_from.new.keeper)) asked.1
      (c.mount_from.ensures.comes honest)));
  answers = c.mount_from.ensures.answers;
  carries = c.mount_from.ensures.carries;
  spends = spends_after c.mount_from.result (g.K.Keeper.kept c.args.keeper.now) _ _ c.requires.unspent c.mount_from.ensures.spends;
  honest = λ honest. c.in_ok-find_source.ensures.honest (c.mount_from.ensures.honest honest);
}

pub returns-in_err-find_source : goal.returns-in_err-find_source
returns-in_err-find_source g c = read_failed _ c.from_residual.result c.in_err-find_source.field-0.0 _ _ _ _ _ _ c.from_residual.ensures c.in_err-find_source.ensures
