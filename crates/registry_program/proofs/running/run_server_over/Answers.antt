use Rattle.std.proofs.Common.{arith}
use Rattle.registry_program.proofs.MemoryLemmas.{memory_silent, memory_read}
use Rattle.registry_program.proofs.running.run_server_over.Goals as goal

pub returns-in-Memory : goal.returns-in-Memory
returns-in-Memory g c =
    let run = c.run_memory_server in
    record {
      runs = rw c.in-Memory.is ((λ l had. had), run.ensures.runs);
      silent = memory_silent c.args.serving.settings c.args.serving.limits c.in-Memory.setup run.result _ run.ensures.runs;
      status = run.ensures.status;
      read = memory_read c.args.serving.settings c.args.serving.limits c.in-Memory.setup run.result _ run.ensures.runs;
    }

pub returns-in-Stored : goal.returns-in-Stored
returns-in-Stored g c = record {
  runs = rw c.in-Stored.is c.run_server.ensures.runs;
  silent = λ more less. absurd (let three = c.run_server.ensures.failed more in omega arith);
  status = c.run_server.ensures.status;
  read = λ two. let three = c.run_server.ensures.failed (omega arith) in omega arith;
}
