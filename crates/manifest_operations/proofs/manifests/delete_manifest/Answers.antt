use Rattle.std.proofs.Common.{refl, ap}
use Rattle.registry_model.specs.Answer.{Answer}
use Rattle.registry_model.specs.Doing.{course_of_answer}
use Rattle.registry_model.specs.Heads.{is_sent}
use Rattle.manifest_operations.proofs.ManifestLemmas.{no_reference, deletes_tag, deletes_digest, deletes_nothing}
use Rattle.manifest_operations.proofs.manifests.delete_manifest.Goals as goal

pub returns-in-Ok-Tag : goal.returns-in-Ok-Tag
returns-in-Ok-Tag g c =
    let said = rw c.in-Ok-Tag.field-0-is at c.in-Ok-Tag.ensures.read in
    record {
      comes = λ honest. deletes_tag _ c.args.name.now c.args.reference.now _ _ _ said.0 said.1 (c.delete_tag.ensures.comes honest);
      answers = c.delete_tag.ensures.answers;
      carries = c.delete_tag.ensures.carries;
      spends = c.delete_tag.ensures.spends;
      honest = c.delete_tag.ensures.honest;
    }

pub returns-in-Ok-Digest : goal.returns-in-Ok-Digest
returns-in-Ok-Digest g c =
    let said = rw c.in-Ok-Digest.field-0-is at c.in-Ok-Digest.ensures.read in
    record {
      comes = λ honest. deletes_digest _ c.args.name.now c.args.reference.now _ _ _ said.0 said.1 (c.delete_digest.ensures.comes honest);
      answers = c.delete_digest.ensures.answers;
      carries = c.delete_digest.ensures.carries;
      spends = c.delete_digest.ensures.spends;
      honest = c.delete_digest.ensures.honest;
    }

pub returns-in-Memory : goal.returns-in-Memory
returns-in-Memory g c = record { comes = λ honest. refl; answers = tt; carries = tt; spends = (c.requires.unspent, c.requires.unspent); honest = λ honest. honest }

pub returns-in_default : goal.returns-in_default
returns-in_default g c =
    let none = no_reference _ c.args.reference.now c.in_default.not-Memory c.in-Err.ensures.read in
    record {
      comes = λ honest. deletes_nothing _ c.args.name.now c.args.reference.now (c.requires.there honest) c.requires.unspent none _ c.refusal.ensures;
      answers = ap course_of_answer c.refusal.ensures;
      carries = ap (λ (a : Answer). is_sent a.body) c.refusal.ensures;
      spends = (c.requires.unspent, c.requires.unspent);
      honest = λ honest. honest;
    }

pub delete_tag-requires : goal.delete_tag-requires
delete_tag-requires g c = record { unspent = c.requires.unspent; there = c.requires.there }

pub delete_digest-requires : goal.delete_digest-requires
delete_digest-requires g c = record { unspent = c.requires.unspent; there = c.requires.there }
