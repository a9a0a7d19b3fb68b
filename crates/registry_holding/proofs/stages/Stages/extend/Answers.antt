use Rattle.std.proofs.Common.{◌∙◌, None, sym}
use Rattle.registry_holding.specs.Shown.{stages_in}
use Rattle.registry_holding.proofs.ShownLemmas.{extended, not_extended, put_whatever, on_err}
use Rattle.registry_holding.proofs.stages.Stages.extend.Goals as goal

pub returns-in_err-extend-clause-err : goal.returns-in_err-extend-clause-err
returns-in_err-extend-clause-err c =
    on_err c.from_residual.result (put_whatever (stages_in c.args.self.now.map) c.args.key (stages_in c.take.new.self.map) None c.take.ensures.gone)

pub returns-clause-ok : goal.returns-clause-ok
returns-clause-ok c =
    extended c.put.result (stages_in c.args.self.now.map) (stages_in c.take.new.self.map) (stages_in c.put.new.self.map) c.args.key c.take.ensures.gone
    c.in-Some.staged _ c.args.piece.now (sym c.in-Some.is ∙ c.take.ensures.staged) c.in_ok-extend.ensures.ok c.put.ensures.ok

pub returns-clause-err : goal.returns-clause-err
returns-clause-err c =
    not_extended c.put.result (stages_in c.args.self.now.map) (stages_in c.take.new.self.map) (stages_in c.put.new.self.map) c.args.key c.take.ensures.gone c.put.ensures.err
