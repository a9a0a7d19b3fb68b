use Rattle.std.proofs.Common.{◌∙◌, ap, sym, subst}
use Rattle.registry_model.specs.Answer.{Answer}
use Rattle.registry_model.specs.Doing.{course_of_answer}
use Rattle.registry_model.specs.Heads.{is_sent}
use Rattle.operation_parts.specs.Operating.{Operates}
use Rattle.manifest_operations.specs.Push.{push_checked}
use Rattle.manifest_operations.proofs.PushLemmas.{unverified, differs, matches_it}
use Rattle.registry_model.specs.Ask.{text_in}
use Rattle.manifest_operations.proofs.manifest_push.push_by_digest.Goals as goal

pub returns-in-Unsupported : goal.returns-in-Unsupported
returns-in-Unsupported g c = record {
  comes = λ honest. unverified _ c.args.name.now c.args.digest (text_in c.args.content_type) c.args.body.now (c.requires.there honest) c.requires.unspent _ c.verifies.ensures c.in-Unsupported.is _ c.refusal.ensures;
  answers = ap course_of_answer c.refusal.ensures;
  carries = ap (λ (a : Answer). is_sent a.body) c.refusal.ensures;
  spends = (c.requires.unspent, c.requires.unspent);
  honest = λ honest. honest;
}

pub returns-in-Differs : goal.returns-in-Differs
returns-in-Differs g c = record {
  comes = λ honest. differs _ c.args.name.now c.args.digest (text_in c.args.content_type) c.args.body.now (c.requires.there honest) c.requires.unspent _ c.verifies.ensures c.in-Differs.is _ c.refusal-in-Differs.ensures;
  answers = ap course_of_answer c.refusal-in-Differs.ensures;
  carries = ap (λ (a : Answer). is_sent a.body) c.refusal-in-Differs.ensures;
  spends = (c.requires.unspent, c.requires.unspent);
  honest = λ honest. honest;
}

pub returns-in-Matches : goal.returns-in-Matches
returns-in-Matches g c = record {
  comes = λ honest. (
      subst (λ v. Operates c.push_under.result c.args.name.now (λ r. push_checked r c.args.name.now c.args.digest (text_in c.args.content_type) c.args.body.now v) (g.K.Keeper.kept c.args.keeper.now) (g.K.Keeper.kept c.push_under.new.keeper))
      (sym c.in-Matches.is ∙ c.verifies.ensures) (c.push_under.ensures.comes honest));
  answers = c.push_under.ensures.answers;
  carries = c.push_under.ensures.carries;
  spends = c.push_under.ensures.spends;
  honest = c.push_under.ensures.honest;
}

pub push_under-requires : goal.push_under-requires
push_under-requires g c = record {
  unspent = c.requires.unspent;
  there = c.requires.there;
  matching = matches_it c.args.digest c.args.body.now (sym c.verifies.ensures ∙ c.in-Matches.is);
  fits = c.requires.fits;
}
