use Rattle.std.proofs.Common.{rules}
use Rattle.manifest_operations.proofs.manifest_push.push_by_tag.Goals as goal

pub returns : goal.returns
returns g c = record {
  comes = search rules;
  answers = c.push_under.ensures.answers;
  carries = c.push_under.ensures.carries;
  spends = c.push_under.ensures.spends;
  honest = c.push_under.ensures.honest;
}
