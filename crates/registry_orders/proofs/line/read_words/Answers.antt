use Rattle.std.proofs.Common.{◌≡◌, true, map, refl, subst}
use Rattle.std.proofs.lemmas.Result.{IfOk-weaker}
use Rattle.clap.specs.Takes.{takes}
use Rattle.clap.specs.Values.{kind_of}
use Rattle.clap.specs.declared.error.kind.ErrorKind.TheVariants.{OutOfMemory}
use Rattle.clap.specs.Words.{App, HasMatchesOf}
use Rattle.registry_orders.specs.Tasks.{IsTaskOf}
use Rattle.registry_orders.proofs.line.read_words.Goals as goal

pub returns-in-Ok-try_get_matches_from-clause-read : goal.returns-in-Ok-try_get_matches_from-clause-read
returns-in-Ok-try_get_matches_from-clause-read g c =
    let words = map g.S.AsStr.text c.args.words.now in
    let matches = c.in-Ok-try_get_matches_from.matches in
    let parsed = subst (λ (a : App). HasMatchesOf a words matches) c.in-Ok.ensures c.in-Ok-try_get_matches_from.ensures.matches in
    IfOk-weaker c.read_matches.result _ _ (λ task is. subst (λ o. IsTaskOf o task) (parsed refl).1 is) c.read_matches.ensures.read

pub returns-in-Ok-try_get_matches_from-clause-refused : goal.returns-in-Ok-try_get_matches_from-clause-refused
returns-in-Ok-try_get_matches_from-clause-refused g c = c.read_matches.ensures.refused (map g.S.AsStr.text c.args.words.now)

pub returns-in-Err-try_get_matches_from-clause-refused : goal.returns-in-Err-try_get_matches_from-clause-refused
returns-in-Err-try_get_matches_from-clause-refused g c =
    let words = map g.S.AsStr.text c.args.words.now in
    let error = c.in-Err-try_get_matches_from.error in
    subst (λ (a : App). takes a words ≡ true → kind_of error ≡ OutOfMemory) c.in-Ok.ensures c.in-Err-try_get_matches_from.ensures.passes
