use Rattle.std.proofs.Common.{◌∙◌, List, map, None, Some, refl, ap}
use Rattle.order_texts.specs.declared.items.Item.{Item}
use Rattle.order_texts.specs.Items.{item_shown, items_shown}
use Rattle.order_texts.specs.Texts.{text_of}
use Rattle.order_carrying.proofs.FailedReads.{so_failed, ran_out, tells}
use Rattle.order_carrying.proofs.lists.list_text.Goals as goal

pub returns-in_err-items : goal.returns-in_err-items
returns-in_err-items g c = tells c.from_residual.result _ _ _ _ _ _ c.from_residual.ensures (so_failed _ _ _ _ _ c.in_err-items.ensures)

pub returns-in_err-text_of-in-Some : goal.returns-in_err-text_of-in-Some
returns-in_err-text_of-in-Some g c =
    let read = c.in_ok-items.ensures in
    tells c.from_residual-in_err-text_of-in-Some.result _ _ _ _ _ _ c.from_residual-in_err-text_of-in-Some.ensures
    (ran_out _ _ _ _ _ c.in_err-text_of-in-Some.ensures (λ honest. (read.found honest).1) read.spends.0 read.spends.1 read.honest)

pub returns-in_ok-text_of-in-Some : goal.returns-in_ok-text_of-in-Some
returns-in_ok-text_of-in-Some g c =
    let read = c.in_ok-items.ensures in
    record {
      found = λ honest.
          let told = read.found honest in (
            (Some (items_shown c.in-Some.items), rw c.in-Some.is at told.0, ap Some (c.in_ok-text_of-in-Some.ensures ∙ ap (λ (xs : List Item). text_of c.args.form (map item_shown xs)) c.deref.ensures.value)),
            told.1,
          );
      spends = read.spends;
      honest = read.honest;
    }

pub returns-in-None : goal.returns-in-None
returns-in-None g c =
    let read = c.in_ok-items.ensures in
    record {
      found = λ honest. let told = read.found honest in ((None, rw c.in-None.is at told.0, refl), told.1);
      spends = read.spends;
      honest = read.honest;
    }
