use Rattle.std.proofs.Common.{◌≡◌, take, drop}
use Rattle.order_sockets.specs.Calling.{AttendsAll}
use Rattle.order_sockets.specs.Calls.{all_called}
use Rattle.order_sockets.proofs.callers.attend_each.Given as goal

abbrev pub invariant-loop-caller : goal.invariant-loop-caller
invariant-loop-caller g l = record {
  rest : drop l.caller-index l.callers ≡ drop l.caller-index l.fn.callers;
  honest : g.K.Keeper.is_honest l.service → g.K.Keeper.is_honest l.fn.service;
  attends : g.K.Keeper.is_honest l.service
      → AttendsAll (all_called (take l.caller-index l.fn.callers)) (all_called (take l.caller-index l.callers)) (g.K.Keeper.kept l.fn.service) (g.K.Keeper.kept l.service);
}
