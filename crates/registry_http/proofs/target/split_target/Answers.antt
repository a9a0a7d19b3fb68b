use Rattle.std.proofs.Common.{sym, ap, ◌∙◌, ◌+◌, take, drop, arith}
use Rattle.std.proofs.lemmas.List.{drop_all}
use Rattle.registry_http.specs.Asking.{is_question_mark}
use Rattle.registry_http.proofs.HeadLemmas.{take_whole}
use Rattle.registry_http.proofs.TextPlaces.{some_place, no_place, behind}
use Rattle.registry_http.proofs.target.split_target.Goals as goal

pub returns-in-Some-clause-path : goal.returns-in-Some-clause-path
returns-in-Some-clause-path c =
    ap (λ i. take i c.args.target.now) (some_place is_question_mark c.args.target.now c.in-Some.at c.in-Some.ensures).0

pub returns-in-Some-clause-query : goal.returns-in-Some-clause-query
returns-in-Some-clause-query c =
    behind c.args.target.now (c.in-Some.at + 1)
    ∙ ap (λ i. drop (i + 1) c.args.target.now) (some_place is_question_mark c.args.target.now c.in-Some.at c.in-Some.ensures).0

pub returns-in-None-clause-path : goal.returns-in-None-clause-path
returns-in-None-clause-path c =
    let e = no_place is_question_mark c.args.target.now c.in-None.ensures in
    sym (take_whole _ c.args.target.now (omega arith))

pub returns-in-None-clause-query : goal.returns-in-None-clause-query
returns-in-None-clause-query c =
    let e = no_place is_question_mark c.args.target.now c.in-None.ensures in
    sym (drop_all _ c.args.target.now (omega arith))
