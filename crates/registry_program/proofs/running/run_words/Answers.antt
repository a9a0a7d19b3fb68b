use Rattle.std.proofs.Common.{Some, inl, inr, map, refl, arith, rules}
use Rattle.registry_orders.specs.declared.failure.Failure.TheVariants.{InvalidOptions}
use Rattle.registry_opening.specs.Openings.{between}
use Rattle.registry_tasks.specs.Acts.{acts}
use Rattle.registry_tasks.proofs.ExitStatuses.{untouched_telling}
use Rattle.registry_program.proofs.EndedTasks.{task_runs, task_spares}
use Rattle.registry_program.proofs.running.run_words.Goals as goal

pub returns-in-Ok : goal.returns-in-Ok
returns-in-Ok g c = record {
  runs = task_runs (acts (between g.K.Keeper.is_honest g.K.Keeper.kept g.O.Opener.opens (g.O.Opener.had c.args.opener.now)
      (g.O.Opener.had c.run_task.new.opener)) (g.M.Messenger.had c.args.messenger.now) (g.M.Messenger.had c.run_task.new.messenger)) (map g.S.AsStr.text c.args.words.now)
      c.in-Ok.task _ _ _ c.in-Ok.ensures.read c.run_task.ensures.runs;
  refused = λ more less. task_spares (map g.S.AsStr.text c.args.words.now) c.in-Ok.task _ c.in-Ok.ensures.read (c.run_task.ensures.refused more less);
  status = c.run_task.ensures.status;
}

pub returns-in-Err-Options : goal.returns-in-Err-Options
returns-in-Err-Options g c = record {
  runs = inr (inr (((λ l had. had), (λ l had. had)), inl (InvalidOptions, tt, (c.say_at.ensures.status, record { left = refl; held = refl }), inr (c.in-Err-Options.word.now, (Some c.in-Err-Options.cause, c.say_at.ensures.said)))));
  refused = λ more less. inl (record { left = refl; held = refl });
  status = search rules;
}

pub returns-in-Err-Line : goal.returns-in-Err-Line
returns-in-Err-Line g c = record {
  runs =
      let told = rw c.in-Err-Line.field-0-is at c.in-Err-Line.ensures.refused in
      inr (inr (((λ l had. had), (λ l had. had)), inr ((refl {a = g.R.Read.remaining c.args.reader.now}, c.tell.ensures.tells.1), λ fits. c.tell.ensures.wanting (told fits))));
  refused = λ more less. inl (record { left = refl; held = (untouched_telling c.tell.result _ _ c.tell.ensures.tells more (omega arith)).held });
  status = search rules;
}

pub returns-in-Err-Failed-clause-runs : goal.returns-in-Err-Failed-clause-runs
returns-in-Err-Failed-clause-runs g c =
    let of = rw c.in-Err-Failed.field-0-is at c.in-Err-Failed.ensures.refused in
    inr (inr (((λ l had. had), (λ l had. had)), inl (c.in-Err-Failed.failure, of, (c.say.ensures.status, record { left = refl; held = refl }), inl c.say.ensures.said)))
