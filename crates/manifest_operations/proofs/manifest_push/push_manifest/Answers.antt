use Rattle.std.proofs.Common.{◌≡◌, length, nat_lt, true, false, arith, refl, subst, ap}
use Rattle.std.proofs.lemmas.Bool.Decides.{nat_tests}
use Rattle.oci_types.specs.Reference.{IsSaidBy}
use Rattle.registry_model.specs.Ask.{text_in}
use Rattle.registry_model.specs.Limits.{largest_manifest}
use Rattle.registry_model.specs.Answer.{Answer}
use Rattle.registry_model.specs.Doing.{course_of_answer}
use Rattle.registry_model.specs.Heads.{is_sent}
use Rattle.manifest_operations.proofs.PushLemmas.{refuses_unnamed, refuses_large, pushes_tag, pushes_digest}
use Rattle.manifest_operations.proofs.ManifestLemmas.{no_reference}
use Rattle.manifest_operations.proofs.manifest_push.push_manifest.Goals as goal

pub returns-then-body-gt-LARGEST_MANIFEST : goal.returns-then-body-gt-LARGEST_MANIFEST
returns-then-body-gt-LARGEST_MANIFEST g c = record {
  comes = λ honest. (
      let large : nat_lt largest_manifest (length c.args.body.now) ≡ true = grind (arith, nat_tests) in
      refuses_large c.args.name.now c.args.reference.now (text_in c.args.content_type) c.args.body.now _ (c.requires.there honest) c.requires.unspent _
      c.in-Ok.reference c.in-Ok.ensures.read large c.refusal-then-body-gt-LARGEST_MANIFEST.ensures);
  answers = ap course_of_answer c.refusal-then-body-gt-LARGEST_MANIFEST.ensures;
  carries = ap (λ (a : Answer). is_sent a.body) c.refusal-then-body-gt-LARGEST_MANIFEST.ensures;
  spends = (c.requires.unspent, c.requires.unspent);
  honest = λ honest. honest;
}

pub returns-in-Tag : goal.returns-in-Tag
returns-in-Tag g c = record {
  comes = λ honest. (
      let fits : nat_lt largest_manifest (length c.args.body.now) ≡ false = grind (arith, nat_tests) in
      let said = subst (IsSaidBy c.args.reference.now) c.in-Tag.is c.in-Ok.ensures.read in
      pushes_tag c.args.name.now c.args.reference.now (text_in c.args.content_type) c.args.body.now _ _ _ fits c.in-Tag.tag said.0 said.1 (c.push_by_tag.ensures.comes honest));
  answers = c.push_by_tag.ensures.answers;
  carries = c.push_by_tag.ensures.carries;
  spends = c.push_by_tag.ensures.spends;
  honest = c.push_by_tag.ensures.honest;
}

pub returns-in-Digest : goal.returns-in-Digest
returns-in-Digest g c = record {
  comes = λ honest. (
      let fits : nat_lt largest_manifest (length c.args.body.now) ≡ false = grind (arith, nat_tests) in
      let said = subst (IsSaidBy c.args.reference.now) c.in-Digest.is c.in-Ok.ensures.read in
      pushes_digest c.args.name.now c.args.reference.now (text_in c.args.content_type) c.args.body.now _ _ _ fits c.in-Digest.digest said.0 said.1 (c.push_by_digest.ensures.comes honest));
  answers = c.push_by_digest.ensures.answers;
  carries = c.push_by_digest.ensures.carries;
  spends = c.push_by_digest.ensures.spends;
  honest = c.push_by_digest.ensures.honest;
}

pub returns-in-Memory : goal.returns-in-Memory
returns-in-Memory g c = record { comes = λ honest. refl; answers = tt; carries = tt; spends = (c.requires.unspent, c.requires.unspent); honest = λ honest. honest }

pub returns-in_default : goal.returns-in_default
returns-in_default g c = record {
  comes = λ honest. refuses_unnamed c.args.name.now c.args.reference.now (text_in c.args.content_type) c.args.body.now _ (c.requires.there honest) c.requires.unspent _
      (no_reference _ c.args.reference.now c.in_default.not-Memory c.in-Err.ensures.read) c.refusal.ensures;
  answers = ap course_of_answer c.refusal.ensures;
  carries = ap (λ (a : Answer). is_sent a.body) c.refusal.ensures;
  spends = (c.requires.unspent, c.requires.unspent);
  honest = λ honest. honest;
}

pub push_by_tag-requires : goal.push_by_tag-requires
push_by_tag-requires g c = record { unspent = c.requires.unspent; there = c.requires.there; fits = c.if-body-gt-LARGEST_MANIFEST.false }

pub push_by_digest-requires : goal.push_by_digest-requires
push_by_digest-requires g c = record { unspent = c.requires.unspent; there = c.requires.there; fits = c.if-body-gt-LARGEST_MANIFEST.false }
