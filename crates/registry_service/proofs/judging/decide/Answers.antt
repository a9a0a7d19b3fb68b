use Rattle.std.proofs.Common.{Ok, refl}
use Rattle.registry_model.specs.World.{repo_at}
use Rattle.registry_model.specs.Ask.{ask_of}
use Rattle.registry_model.specs.Operation.{valid_name}
use Rattle.registry_model.specs.Judging.{decide}
use Rattle.registry_service.specs.Bodies.{from_body, ask_with}
use Rattle.registry_service.proofs.BodyLemmas.{to_each, kept_from}
use Rattle.registry_service.proofs.JudgingLemmas.{named, misnamed, not_named}
use Rattle.registry_service.proofs.judging.decide.Goals as goal

pub returns-in-Ok : goal.returns-in-Ok
returns-in-Ok g c = record {
  comes = λ honest t is.
      let stage = g.B.RequestBody.stage c.args.body in
      let s = g.K.Keeper.kept c.args.keeper.now in
      let late = g.K.Keeper.kept c.decide_in.new.keeper in
      named c.decide_in.result (s.world.grants c.args.token.now) (repo_at s.world) c.in-Ok.name c.args.name.now (ask_with (ask_of c.args.request.now) t) (from_body stage s late) late
      c.in-Ok.ensures.read.0 c.in-Ok.ensures.read.1 (c.decide_in.ensures.comes honest t is);
  answers = c.decide_in.ensures.answers;
  carries = c.decide_in.ensures.carries;
  spends = c.decide_in.ensures.spends;
  honest = c.decide_in.ensures.honest;
}

pub returns-in-Memory : goal.returns-in-Memory
returns-in-Memory g c = record {
  comes = λ _ t is. let s = g.K.Keeper.kept c.args.keeper.now in kept_from (g.B.RequestBody.stage c.args.body) s s refl;
  answers = tt;
  carries = λ _. tt;
  spends = (c.requires, c.requires);
  honest = λ honest. honest;
}

pub returns-in_default : goal.returns-in_default
returns-in_default g c =
    let s = g.K.Keeper.kept c.args.keeper.now in
    let q = ask_of c.args.request.now in
    to_each (g.B.RequestBody.stage c.args.body) _ (Ok c.refusal.result) (valid_name c.args.name.now)
    (λ t. decide (s.world.grants c.args.token.now) (repo_at s.world) c.args.name.now (ask_with q t)) _ s s _ _
    (λ t. misnamed c.refusal.result c.args.token.now c.args.name.now (ask_with q t) _ s _ c.refusal.ensures c.requires
    (not_named c.in-Err.fault c.args.name.now c.in_default.not-Memory c.in-Err.ensures.read))
