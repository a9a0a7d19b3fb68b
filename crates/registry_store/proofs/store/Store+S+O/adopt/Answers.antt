use Rattle.std.proofs.Common.{◌∙◌, inl, inr, refl, sym}
use Rattle.sqlite.specs.State.{HasCleanDisk}
use Rattle.sqlite.specs.Held.{state}
use Rattle.registry_model.proofs.ChangedMaps.{not_Some}
use Rattle.store_statements.proofs.CleanBefore.{was_clean}
use Rattle.registry_store.proofs.store.Store+S+O.adopt.Goals as goal

pub invariant_of-result : goal.invariant_of-result
invariant_of-result g c unspent ours clean =
    let early : HasCleanDisk (state g.S.Store c.args.conn) = was_clean c.take_up.ensures.survives clean.0 in
    let known = c.requires.ours ours early in (
      record {
        settled = elim known.1 [
          | inl bare ↦ (c.in-Ok.ensures.made clean.0 bare).0
          | inr h ↦ (c.in-Ok.ensures.found clean.0 known.0 h).0
        ];
        spared = tt;
        named = tt;
      },
      λ name u is. absurd (not_Some u (sym (c.new.ensures name) ∙ is)),
    )

pub returns-in-Ok : goal.returns-in-Ok
returns-in-Ok g c = record {
  made = λ clean bare. (c.in-Ok.ensures.made clean bare).1;
  found = λ clean idle h. (c.in-Ok.ensures.found clean idle h).1;
  beside = λ clean marked. (c.in-Ok.ensures.free clean marked, c.in-Ok.ensures.beside clean marked);
  asked = c.in-Ok.ensures.asked;
  two = c.in-Ok.ensures.two;
  unspent = refl;
  survives = c.take_up.ensures.survives;
  told = tt;
  another = tt;
  refused = tt;
  unmade = tt;
  wanting = tt;
  other = tt;
  unsaid = tt;
  unmarked = tt;
  unanswered = tt;
}

pub returns-in-Err : goal.returns-in-Err
returns-in-Err g c = record {
  made = tt;
  found = tt;
  beside = tt;
  asked = tt;
  two = tt;
  unspent = tt;
  survives = tt;
  told = c.in-Err.ensures.told;
  another = c.in-Err.ensures.another;
  refused = c.in-Err.ensures.back;
  unmade = c.in-Err.ensures.unmade;
  wanting = c.in-Err.ensures.wanting;
  other = c.in-Err.ensures.other;
  unsaid = c.in-Err.ensures.unsaid;
  unmarked = c.in-Err.ensures.unmarked;
  unanswered = c.in-Err.ensures.unanswered;
}
