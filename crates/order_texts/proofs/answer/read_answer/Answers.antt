use Rattle.std.proofs.Common.{arith}
use Rattle.std.proofs.lemmas.Bool.Decides.{nat_tests}
use Rattle.order_texts.proofs.AnswerLemmas.{answer_read, answer_places}
use Rattle.order_texts.proofs.answer.read_answer.Goals as goal
use Rattle.order_texts.proofs.answer.read_answer.Goals.{in_default-via-then-bytes-lt2, in_default-via-else-bytes-lt2+then-bytes-lt48, in_default-via-else-bytes-lt2+else-bytes-lt48+then-bytes-lt53+in_default-1, in_default-via-else-bytes-lt2+else-bytes-lt48+else-bytes-lt53}

pub returns-in-48-to-52-clause-read : goal.returns-in-48-to-52-clause-read
returns-in-48-to-52-clause-read c =
    answer_read c.args.bytes.now (omega arith) (omega arith) (omega arith) (omega arith)

pub returns-in_default-clause-none : goal.returns-in_default-clause-none
returns-in_default-clause-none c = λ status text small is.
    let places = answer_places c.args.bytes.now status text small is in
    elim c.in_default.branch [
      | in_default-via-then-bytes-lt2 w ↦ grind (arith, nat_tests, places.0, places.1, places.2)
      | in_default-via-else-bytes-lt2+then-bytes-lt48 w ↦ grind (arith, nat_tests, places.0, places.1, places.2)
      | in_default-via-else-bytes-lt2+else-bytes-lt48+then-bytes-lt53+in_default-1 w ↦ grind (arith, nat_tests, places.0, places.1, places.2)
      | in_default-via-else-bytes-lt2+else-bytes-lt48+else-bytes-lt53 w ↦ grind (arith, nat_tests, places.0, places.1, places.2)
    ]
