use Rattle.std.proofs.Common.{◌∙◌, refl, sym}
use Rattle.std.specs.Prelude.{Option, Vec}
use Rattle.std.specs.declared.alloc.Global.{Global}
use Rattle.order_texts.specs.declared.items.Item.{Item}
use Rattle.order_carrying.specs.Listed.{AreListed}
use Rattle.order_carrying.specs.Reading.{items_if}
use Rattle.order_carrying.proofs.FailedReads.{by_failed, so_by, spends_later, returns_so}
use Rattle.order_carrying.proofs.ListLemmas.{nothing_held, listed_there}
use Rattle.order_carrying.proofs.lists.items.Goals as goal

pub returns-in-Repos : goal.returns-in-Repos
returns-in-Repos g c =
    let read = c.repos.ensures in
    let w = (g.K.Keeper.kept c.args.service.now).world in
    record {
      found = λ honest. so_by items_if (λ (items : Option (Vec Item Global)). AreListed w c.args.listing.now (items_if items)) c.repos.result _ _ _ _ (read.found honest) refl (λ items is. rw c.in-Repos.is is);
      spends = read.spends;
      honest = read.honest;
    }

pub returns-in_err-has_repo-in-InRepo : goal.returns-in_err-has_repo-in-InRepo
returns-in_err-has_repo-in-InRepo g c = returns_so _ c.from_residual.result _ _ _ _ _ c.from_residual.ensures (by_failed _ _ _ _ _ _ c.in_err-has_repo-in-InRepo.ensures)

pub returns-else-branch : goal.returns-else-branch
returns-else-branch g c =
    let looked = c.in_ok-has_repo-in-InRepo.ensures in
    record {
      found = λ honest. let told = looked.found honest in (rw c.in-InRepo.is (nothing_held _ _ (sym told.0 ∙ c.if-branch.false)), told.1);
      spends = looked.spends;
      honest = looked.honest;
    }

pub returns-then-branch : goal.returns-then-branch
returns-then-branch g c =
    let looked = c.in_ok-has_repo-in-InRepo.ensures in
    let read = c.held.ensures in
    let w = (g.K.Keeper.kept c.args.service.now).world in
    record {
      found = λ honest.
          let there = looked.found (read.honest honest) in
          so_by items_if (λ (items : Option (Vec Item Global)). AreListed w c.args.listing.now (items_if items)) c.held.result _ _ _ _ (read.found honest) there.1
          (λ items is. rw c.in-InRepo.is (is ∙ listed_there _ _ _ _ _ _ there.0 c.if-branch.true there.1 refl));
      spends = spends_later c.held.result _ _ _ looked.spends.0 read.spends;
      honest = λ honest. looked.honest (read.honest honest);
    }

pub returns-in-Grants : goal.returns-in-Grants
returns-in-Grants g c = record {
  found = rw c.in-Grants.is c.grants.ensures.found;
  spends = c.grants.ensures.spends;
  honest = c.grants.ensures.honest;
}
