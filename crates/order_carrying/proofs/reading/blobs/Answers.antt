use Rattle.std.proofs.Common.{◌∙◌, ℕ, [], Some, ap, rules}
use Rattle.std.specs.Prelude.{Option, option_map}
use Rattle.std.specs.List.{cons_option}
use Rattle.std.proofs.lemmas.Iterator.Adapters.{YieldsList-from_vec}
use Rattle.std.proofs.lemmas.Iterator.Consumers.{YieldsList-so_far, YieldsList-turn, YieldsList-end}
use Rattle.oci_types.specs.Text.{Text}
use Rattle.order_texts.specs.Items.{blob_item}
use Rattle.order_carrying.specs.Reading.{namings_at, namers_among, blob_item_at}
use Rattle.order_carrying.specs.Naming.{namers_in}
use Rattle.order_carrying.proofs.FailedReads.{by_failed, later, added_by, not_added_by, returns_by}
use Rattle.order_carrying.proofs.ListLemmas.{found_more, blobs_found}
use Rattle.order_carrying.proofs.NamingLemmas.{blob_is_new, still_there, taken_of}
use Rattle.order_carrying.proofs.reading.blobs.Goals as goal

pub loop-digest-preserved : goal.loop-digest-preserved
loop-digest-preserved g c =
    let l = c.loop-digest in
    let so_far = l.invariant in
    let digest : Text = c.in-Some.digest in
    let manifests = c.take-manifests.result in
    let shown = λ (size : Option ℕ). option_map (λ size. blob_item digest size manifests.items) size in
    let one = added_by (λ (size : Option ℕ). size) (λ (size : Option ℕ). cons_option (shown size) []) c.blob_size-found.result _ _ _ _ _ _ _ _ c.blob_size-found.ensures c.in_ok-push_blob.ensures in
    record {
      unspent = one.unspent;
      honest = λ honest. so_far.honest (one.honest honest);
      same = λ honest. (one.told honest).1 ∙ so_far.same (one.honest honest);
      left = λ q. still_there l.yielded digest q _ _ _ (so_far.left q) (c.take-manifests.ensures.left q);
      found = λ honest.
          let early = one.honest honest in
          let began = so_far.honest early in
          let told = c.in_ok-digests.ensures.found began in
          let named = c.in_ok-namers.ensures.found (c.in_ok-digests.ensures.honest began) in
          let given = c.into_iter-digest-iterator.ensures.into_iter_gives in
          let road = YieldsList-from_vec c.in_ok-digests.digests.items given.0 (search (rules, given)) in
          let before = YieldsList-so_far road l.yielded l.digest-iterator l.yielded_by in
          let turn = YieldsList-turn road l.yielded l.digest-iterator l.yielded_by c.next.result c.next.new.self digest c.in-Some.is c.next.ensures.steps in
          let s = g.K.Keeper.kept c.args.service.now in
          let w = (g.K.Keeper.kept c.blob_digests.new.self).world in
          let name = c.args.name.now in
          let is_new = blob_is_new (g.K.Keeper.kept c.read.new.service).world name c.in_ok-digests.digests.items l.yielded digest told.0 before turn in
          let namers = taken_of s (g.K.Keeper.kept c.blob_digests.new.self) name digest (namers_in c.in_ok-namers.namers) (namers_in l.namers digest) manifests.items c.take-manifests.ensures.given (so_far.left digest is_new) named.0 (told.1 ∙ named.1) in
          found_more (λ world d. blob_item_at world name (namings_at w name) d) (g.K.Keeper.kept c.blob_digests.new.self) (g.K.Keeper.kept l.service) _ _ l.yielded digest (shown one.item)
          (so_far.found early) one.added
          (ap (λ ms. option_map (λ size. blob_item digest size ms) one.item) namers ∙ ap (λ (size : Option ℕ). option_map (λ size. blob_item digest size (namers_among (namings_at w name) digest)) size) (one.told honest).0) (so_far.same early);
    }

pub returns-in_err-namers : goal.returns-in_err-namers
returns-in_err-namers g c = returns_by _ c.from_residual.result _ _ _ _ _ _ c.from_residual.ensures (by_failed _ _ _ _ _ _ c.in_err-namers.ensures)

pub returns-in_err-digests : goal.returns-in_err-digests
returns-in_err-digests g c =
    let first = c.in_ok-namers.ensures in
    returns_by _ c.from_residual-in_err-digests.result _ _ _ _ _ _ c.from_residual-in_err-digests.ensures
    (later _ _ _ _ _ _ _ (λ between. (first.found between).1) first.honest first.spends.0 (by_failed _ _ _ _ _ _ c.in_err-digests.ensures))

pub returns-in_err-push_blob : goal.returns-in_err-push_blob
returns-in_err-push_blob g c =
    let first = c.in_ok-namers.ensures in
    let second = c.in_ok-digests.ensures in
    let so_far = c.loop-digest.invariant in
    returns_by _ c.from_residual-in_err-push_blob.result _ _ _ _ _ _ c.from_residual-in_err-push_blob.ensures
    (later _ _ _ _ _ _ _
    (λ between. so_far.same between ∙ (second.found (so_far.honest between)).1 ∙ (first.found (second.honest (so_far.honest between))).1)
    (λ between. first.honest (second.honest (so_far.honest between))) first.spends.0
    (not_added_by (λ (size : Option ℕ). size) _ c.blob_size-found.result _ _ _ _ _ _ _ _ c.blob_size-found.ensures c.in_err-push_blob.ensures))

pub returns : goal.returns
returns g c = record {
  found = λ honest.
      let second = c.loop-digest.invariant.honest honest in
      let told = c.in_ok-digests.ensures.found second in
      let named = c.in_ok-namers.ensures.found (c.in_ok-digests.ensures.honest second) in
      let given = c.into_iter-digest-iterator.ensures.into_iter_gives in
      let road = YieldsList-from_vec c.in_ok-digests.digests.items given.0 (search (rules, given)) in
      let all = YieldsList-end road c.loop-digest.yielded c.loop-digest.digest-iterator c.loop-digest.yielded_by c.next.result c.next.new.self c.in-None.is c.next.ensures.steps in (
        ap Some (blobs_found (g.K.Keeper.kept c.args.service.now) _ _ c.args.name.now _ c.loop-digest.yielded _
            (c.loop-digest.invariant.found honest) all.0 named.1 told.0 told.1),
        c.loop-digest.invariant.same honest ∙ told.1 ∙ named.1,
      );
  spends = (c.in_ok-namers.ensures.spends.0, c.loop-digest.invariant.unspent);
  honest = λ honest. c.in_ok-namers.ensures.honest (c.in_ok-digests.ensures.honest (c.loop-digest.invariant.honest honest));
}
