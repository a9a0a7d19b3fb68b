use Rattle.std.proofs.Common.{ap, refl, sym, subst}
use Rattle.oci_types.specs.declared.manifest_fault.ManifestFault.{ManifestFault}
use Rattle.std.specs.Prelude.{Result}
use Rattle.oci_types.specs.Manifest.{ManifestShown}
use Rattle.registry_model.specs.Answer.{Answer}
use Rattle.registry_model.specs.Ask.{text_in}
use Rattle.registry_model.specs.Doing.{course_of_answer}
use Rattle.registry_model.specs.Heads.{is_sent}
use Rattle.operation_parts.specs.Operating.{Operates}
use Rattle.manifest_operations.specs.Push.{push_under}
use Rattle.manifest_operations.proofs.PushLemmas.{unreadable}
use Rattle.manifest_operations.proofs.manifest_push.push_under.Goals as goal

pub returns-in-Ok : goal.returns-in-Ok
returns-in-Ok g c = record {
  comes = λ honest.
      subst (λ (read : Result ManifestShown ManifestFault). Operates c.keep_manifest.result c.args.name.now (λ r. push_under r c.args.name.now c.args.digest (text_in c.args.tag) (text_in c.args.content_type) c.args.body.now read)
      (g.K.Keeper.kept c.args.keeper.now) (g.K.Keeper.kept c.keep_manifest.new.keeper)) (sym c.in-Ok.ensures.exact) (c.keep_manifest.ensures.comes honest);
  answers = c.keep_manifest.ensures.answers;
  carries = c.keep_manifest.ensures.carries;
  spends = c.keep_manifest.ensures.spends;
  honest = c.keep_manifest.ensures.honest;
}

pub returns-in-Memory : goal.returns-in-Memory
returns-in-Memory g c = record { comes = λ honest. refl; answers = tt; carries = tt; spends = (c.requires.unspent, c.requires.unspent); honest = λ honest. honest }

pub returns : goal.returns
returns g c = record {
  comes = λ honest. unreadable _ c.args.name.now c.args.digest (text_in c.args.content_type) c.args.body.now (c.requires.there honest) c.requires.unspent (text_in c.args.tag)
      _ (c.in-Err.ensures.exact c.in_default.not-Memory) _ c.refusal.ensures;
  answers = ap course_of_answer c.refusal.ensures;
  carries = ap (λ (a : Answer). is_sent a.body) c.refusal.ensures;
  spends = (c.requires.unspent, c.requires.unspent);
  honest = λ honest. honest;
}
