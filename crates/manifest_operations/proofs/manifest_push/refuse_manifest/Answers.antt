use Rattle.std.proofs.Common.{◌≡◌, length, nat_lt, true, arith, refl, ap}
use Rattle.std.proofs.lemmas.Bool.Decides.{nat_tests}
use Rattle.registry_model.specs.Limits.{largest_manifest}
use Rattle.registry_model.specs.Answer.{Answer}
use Rattle.registry_model.specs.Doing.{course_of_answer}
use Rattle.registry_model.specs.Heads.{is_sent}
use Rattle.manifest_operations.proofs.PushLemmas.{refuses_unnamed, refuses_large}
use Rattle.manifest_operations.proofs.ManifestLemmas.{no_reference}
use Rattle.manifest_operations.proofs.manifest_push.refuse_manifest.Goals as goal

pub returns-in-Memory : goal.returns-in-Memory
returns-in-Memory c = record { comes = λ k name content_type body unspent there size. refl; memory = refl; answers = tt; carries = tt }

pub returns-in_default : goal.returns-in_default
returns-in_default c = record {
  comes = λ k name content_type body unspent there size.
      refuses_unnamed name c.args.reference.now content_type body k there unspent _
      (no_reference _ c.args.reference.now c.in_default.not-Memory c.in-Err.ensures.read) c.refusal.ensures;
  memory = tt;
  answers = ap course_of_answer c.refusal.ensures;
  carries = ap (λ (a : Answer). is_sent a.body) c.refusal.ensures;
}

pub returns-then-size-gt-LARGEST_MANIFEST : goal.returns-then-size-gt-LARGEST_MANIFEST
returns-then-size-gt-LARGEST_MANIFEST c = record {
  comes = λ k name content_type body unspent there size. (
      let large : nat_lt largest_manifest (length body) ≡ true = grind (arith, nat_tests) in
      refuses_large name c.args.reference.now content_type body k there unspent _
      c.in-Ok.field-0 c.in-Ok.ensures.read large c.refusal-then-size-gt-LARGEST_MANIFEST.ensures);
  memory = tt;
  answers = ap course_of_answer c.refusal-then-size-gt-LARGEST_MANIFEST.ensures;
  carries = ap (λ (a : Answer). is_sent a.body) c.refusal-then-size-gt-LARGEST_MANIFEST.ensures;
}

pub returns-else-size-gt-LARGEST_MANIFEST : goal.returns-else-size-gt-LARGEST_MANIFEST
returns-else-size-gt-LARGEST_MANIFEST c = record { comes = λ k name content_type body unspent there size. refl; memory = refl; answers = tt; carries = tt }
