use Rattle.std.proofs.Common.{◌∙◌, Bool, ap, refl, Some}
use Rattle.oci_types.specs.Manifest.{shown}
use Rattle.registry_model.specs.declared.reply.Status.TheVariants.{Created}
use Rattle.registry_model.specs.Answer.{Answer, bare_answer}
use Rattle.registry_model.specs.Ask.{text_in}
use Rattle.manifest_operations.specs.Push.{has_needs_at, kept_answer}
use Rattle.manifest_operations.proofs.SayingLemmas.{read_lost, write_lost}
use Rattle.operation_parts.proofs.ReadLemmas.{still_there}
use Rattle.manifest_operations.proofs.PushLemmas.{of_its_kind, other_type, needs_more, goes_past, keeps_it}
use Rattle.manifest_operations.proofs.manifest_push.keep.Goals as goal

pub returns-then-not-content_type_fits : goal.returns-then-not-content_type_fits
returns-then-not-content_type_fits g c = record {
  comes = λ honest. other_type (g.K.Keeper.kept c.args.keeper.now) c.args.name.now c.args.digest.now (text_in c.args.content_type) c.args.body.now
      (c.requires.there honest) c.requires.unspent (text_in c.args.tag) (shown c.args.manifest.now) _ c.content_type_fits.ensures c.if-not-content_type_fits.true _ refl;
  spends = (c.requires.unspent, c.requires.unspent);
  honest = λ honest. honest;
}

pub returns-then-not-branch : goal.returns-then-not-branch
returns-then-not-branch g c = record {
  comes = λ honest. (
      let s = g.K.Keeper.kept c.args.keeper.now in
      let found = c.in_ok-has_needs.ensures.found honest in
      let there = c.requires.there (c.in_ok-has_needs.ensures.honest honest) in
      of_its_kind s _ c.args.name.now c.args.digest.now (text_in c.args.tag) (text_in c.args.content_type) c.args.body.now (shown c.args.manifest.now) _ c.content_type_fits.ensures c.if-not-content_type_fits.false _
      (needs_more s c.args.name.now c.args.digest.now (text_in c.args.tag) c.args.body.now (shown c.args.manifest.now) there c.requires.unspent _ found.1
      _ (found.0 ∙ ap (has_needs_at s.world c.args.name.now) c.deref.ensures.value) c.if-not-branch.true _ refl));
  spends = c.in_ok-has_needs.ensures.spends;
  honest = c.in_ok-has_needs.ensures.honest;
}

pub returns-then-branch : goal.returns-then-branch
returns-then-branch g c = record {
  comes = λ honest. (
      let s = g.K.Keeper.kept c.args.keeper.now in
      let first = c.in_ok-manifest_goes_over.ensures.honest honest in
      let found = c.in_ok-has_needs.ensures.found first in
      let asked = c.in_ok-manifest_goes_over.ensures.found honest in
      let there = c.requires.there (c.in_ok-has_needs.ensures.honest first) in
      of_its_kind s _ c.args.name.now c.args.digest.now (text_in c.args.tag) (text_in c.args.content_type) c.args.body.now (shown c.args.manifest.now) _ c.content_type_fits.ensures c.if-not-content_type_fits.false _
      (goes_past s c.args.name.now c.args.digest.now (text_in c.args.tag) c.args.body.now (shown c.args.manifest.now) there c.requires.unspent _ _ found.1 asked.1
      _ (found.0 ∙ ap (has_needs_at s.world c.args.name.now) c.deref.ensures.value) c.if-not-branch.false _ asked.0 c.if-branch.true _ refl));
  spends = (c.requires.unspent, c.in_ok-manifest_goes_over.ensures.spends.1);
  honest = λ honest. c.in_ok-has_needs.ensures.honest (c.in_ok-manifest_goes_over.ensures.honest honest);
}

pub returns : goal.returns
returns g c = record {
  comes = λ honest. (
      let s = g.K.Keeper.kept c.args.keeper.now in
      let second = c.in_ok-put_manifest.ensures.honest honest in
      let first = c.in_ok-manifest_goes_over.ensures.honest second in
      let found = c.in_ok-has_needs.ensures.found first in
      let asked = c.in_ok-manifest_goes_over.ensures.found second in
      let there = c.requires.there (c.in_ok-has_needs.ensures.honest first) in
      of_its_kind s _ c.args.name.now c.args.digest.now (text_in c.args.tag) (text_in c.args.content_type) c.args.body.now (shown c.args.manifest.now) _ c.content_type_fits.ensures c.if-not-content_type_fits.false _
      (keeps_it s c.args.name.now c.args.digest.now (text_in c.args.tag) c.args.body.now (shown c.args.manifest.now) there c.requires.unspent _ _ found.1 asked.1
      _ (found.0 ∙ ap (has_needs_at s.world c.args.name.now) c.deref.ensures.value) c.if-not-branch.false _ asked.0 c.if-branch.false _ (c.in_ok-put_manifest.ensures.made honest) _
      (ap {B = Answer} (λ l. record (bare_answer Created) { location = Some l; digest = Some c.args.digest.now; subject = c.args.manifest.now.subject }) c.in-Ok.ensures)));
  spends = (c.requires.unspent, c.in_ok-put_manifest.ensures.spends.1);
  honest = λ honest. c.in_ok-has_needs.ensures.honest (c.in_ok-manifest_goes_over.ensures.honest (c.in_ok-put_manifest.ensures.honest honest));
}

pub returns-in_default : goal.returns-in_default
returns-in_default g c =
    let between = c.in_ok-manifest_goes_over.ensures.honest in
    record {
      comes = λ honest. (c.in_ok-manifest_goes_over.ensures.found honest).1 ∙ (c.in_ok-has_needs.ensures.found (between honest)).1;
      spends = (c.requires.unspent, c.in_ok-manifest_goes_over.ensures.spends.1);
      honest = λ honest. c.in_ok-has_needs.ensures.honest (between honest);
    }

pub returns-in_err-has_needs : goal.returns-in_err-has_needs
returns-in_err-has_needs g c =
    read_lost (kept_answer c.args.digest.now (shown c.args.manifest.now).subject) _ _ (λ (b : Bool). b) _ c.from_residual.result c.in_err-has_needs.field-0.0 _ _ _ _ _ _ c.from_residual.ensures
    (λ honest. refl) (λ (honest : g.K.Keeper.is_honest c.args.keeper.now). honest) c.requires.unspent c.in_err-has_needs.ensures

pub returns-in_err-manifest_goes_over : goal.returns-in_err-manifest_goes_over
returns-in_err-manifest_goes_over g c =
    let asked = c.in_ok-has_needs.ensures in
    read_lost (kept_answer c.args.digest.now (shown c.args.manifest.now).subject) _ _ (λ (b : Bool). b) _ c.from_residual-in_err-manifest_goes_over.result c.in_err-manifest_goes_over.field-0.0 _ _ _ _ _ _
    c.from_residual-in_err-manifest_goes_over.ensures (λ between. (asked.found between).1) asked.honest c.requires.unspent c.in_err-manifest_goes_over.ensures

pub returns-in_err-put_manifest : goal.returns-in_err-put_manifest
returns-in_err-put_manifest g c =
    let asked = c.in_ok-has_needs.ensures in
    let over = c.in_ok-manifest_goes_over.ensures in
    write_lost (Unit {0}) (kept_answer c.args.digest.now (shown c.args.manifest.now).subject) _ _ _ c.from_residual-in_err-put_manifest.result c.in_err-put_manifest.field-0.0 _ _ _ _ _ _
    c.from_residual-in_err-put_manifest.ensures (λ between. (over.found between).1 ∙ (asked.found (over.honest between)).1) (λ between. asked.honest (over.honest between)) c.requires.unspent c.in_err-put_manifest.ensures

pub manifest_goes_over-requires : goal.manifest_goes_over-requires
manifest_goes_over-requires g c = record { unspent = c.in_ok-has_needs.ensures.spends.1 }

pub put_manifest-requires : goal.put_manifest-requires
put_manifest-requires g c =
    let asked = c.in_ok-has_needs.ensures in
    let over = c.in_ok-manifest_goes_over.ensures in
    record {
      there = λ honest unspent. still_there _ _ c.args.name.now ((over.found honest).1 ∙ (asked.found (over.honest honest)).1) (c.requires.there (asked.honest (over.honest honest)));
      matching = c.requires.matching;
      reads = c.requires.reads;
      fits = c.requires.fits;
    }
