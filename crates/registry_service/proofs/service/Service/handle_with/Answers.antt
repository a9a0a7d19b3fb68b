use Rattle.std.proofs.Common.{subst, sym}
use Rattle.registry_model.specs.Answer.{answer_of}
use Rattle.registry_model.specs.Ask.{ask_of}
use Rattle.registry_model.specs.Doing.{Does}
use Rattle.registry_model.specs.Keeping.{HeldStays, state_of}
use Rattle.registry_service.specs.Bodies.{ask_with, from_body}
use Rattle.registry_service.proofs.service.Service.handle_with.Goals as goal

pub returns-clause-does : goal.returns-clause-does
returns-clause-does g c honest t is =
    let late = state_of (g.K.Keeper.kept c.answer.new.keeper) in
    subst (λ k. Does (state_of (g.K.Keeper.kept k)) (ask_with (ask_of c.args.request.now) t) (answer_of c.answer.result) late) c.self.view_is
    (c.answer.ensures.does honest t (subst (λ k. g.B.RequestBody.is_body c.args.body (g.K.Keeper.kept k) t) (sym c.self.view_is) is))

pub returns-clause-holds : goal.returns-clause-holds
returns-clause-holds g c honest t is =
    let late = g.K.Keeper.kept c.answer.new.keeper in
    subst (λ k. HeldStays (from_body (g.B.RequestBody.stage c.args.body) (g.K.Keeper.kept k) late) late) c.self.view_is
    (c.answer.ensures.holds honest t (subst (λ k. g.B.RequestBody.is_body c.args.body (g.K.Keeper.kept k) t) (sym c.self.view_is) is))
