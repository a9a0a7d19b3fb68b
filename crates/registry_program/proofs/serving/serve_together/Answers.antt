use Rattle.std.proofs.Common.{refl, ◌≡◌, ◌∙◌, ap, sym, subst, rules}
use Rattle.std.specs.Io.KnownBytes.{Appends}
use Rattle.registry_tasks.specs.Sockets.{greeting}
use Rattle.registry_opening.proofs.SpanLemmas.{none_so_far, one_more, ends_with, ends_without}
use Rattle.registry_tasks.proofs.ExitStatuses.{serving_of_opening}
use Rattle.registry_program.specs.declared.serving.Stop.TheVariants.{Over, Spent, Failed}
use Rattle.registry_program.proofs.ServingLemmas.{greeted_then, has_greeted, over_ends, spent_says, spent_ends, failed_ends, greets_by}
use Rattle.registry_program.proofs.serving.serve_together.Goals as goal

pub loop-init : goal.loop-init
loop-init g c = record {
  spans = none_so_far _ _ _ _ _ _;
  same = refl;
  gathering = refl;
  binding = refl;
  serving = refl;
  buffer = c.requires.buffer;
  none = c.requires.none;
  greeted = refl;
}

pub returns-in-Ok-Over-clause-spans : goal.returns-in-Ok-Over-clause-spans
unfolding ends_with
returns-in-Ok-Over-clause-spans g c =
    let so = c.loop.invariant in
    let ended = c.in-Ok-Over in
    (ends_with _ _ _ _ _ _ _ _ _ _ (λ s s' q. over_ends _ _ so.serving _ s s' (q so.buffer so.none) ended.field-0-is) so.spans ended.ensures.worked, refl)

pub returns-in-Ok-Over-clause-greets : goal.returns-in-Ok-Over-clause-greets
returns-in-Ok-Over-clause-greets g c =
    let so = c.loop.invariant in
    let ended = c.in-Ok-Over in
    let name = ended.ensures.says.0 ∙ so.same in
    let greets = greets_by _ _ _ Over _ _ ended.field-0-is ended.ensures.says.6 in
    let told = greeted_then c.loop.server.greeted _ _ _ so.greeted greets.1 in
    let same : c.with_open.new.work.out.now ≡ c.out-in-Ok-Over-1.given.0 = search rules in
    subst (λ x. Appends (g.W.Write.contents c.args.out.now) (g.W.Write.contents x) greeting) same told

pub returns-in-Ok-Failed-clause-spans : goal.returns-in-Ok-Failed-clause-spans
unfolding ends_with
returns-in-Ok-Failed-clause-spans g c =
    let so = c.loop.invariant in
    let ended = c.in-Ok-Failed in
    (ends_with _ _ _ _ _ _ _ _ _ _ (λ s s' q. failed_ends _ _ so.serving _ s s' (q so.buffer so.none) _ ended.field-0-is) so.spans ended.ensures.worked, tt)

pub returns-in-Ok-Failed-clause-fails : goal.returns-in-Ok-Failed-clause-fails
returns-in-Ok-Failed-clause-fails g c =
    let ended = c.in-Ok-Failed in
    greets_by _ _ _ (Failed ended.failure) _ _ ended.field-0-is ended.ensures.says.6

pub returns-in-Err-clause-spans : goal.returns-in-Err-clause-spans
returns-in-Err-clause-spans g c = (ends_without _ _ _ _ _ _ _ _ _ c.loop.invariant.spans c.in-Err.ensures.never, tt)

pub returns-in-Err-clause-fails : goal.returns-in-Err-clause-fails
returns-in-Err-clause-fails g c = serving_of_opening c.in-Err.failure c.in-Err.ensures.refused

pub loop-preserved : goal.loop-preserved
loop-preserved g c =
    let so = c.loop.invariant in
    let ended = c.in-Ok-Spent in
    let says = ended.ensures.says in
    let greets = greets_by _ _ _ Spent _ _ ended.field-0-is says.6 in
    record {
      spans = one_more _ _ _ _ _ _ _ _ _ (λ s s' q. spent_says _ _ so.serving _ s s' (q so.buffer so.none) ended.field-0-is)
          (λ s s' q. spent_ends _ _ so.serving _ s s' (q so.buffer so.none) ended.field-0-is) so.spans ended.ensures.worked;
      same = says.0 ∙ so.same;
      gathering = says.1 ∙ so.gathering;
      binding = says.2 ∙ so.binding;
      serving = ap (λ v. v.now.serving) says.3 ∙ so.serving;
      buffer = says.4 ∙ so.buffer ∙ ap (λ v. v.now.serving.limits.buffer) (sym says.3);
      none = says.5 ended.field-0-is;
      greeted = has_greeted c.loop.server.greeted _ _ _ _ greets.0 so.greeted greets.1;
    }

pub returns-clause-spans : goal.returns-clause-spans
returns-clause-spans g c = (ends_without _ _ _ _ _ _ _ _ _ c.loop.invariant.spans (λ l had. had), tt)
