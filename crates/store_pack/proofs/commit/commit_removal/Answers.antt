use Rattle.std.proofs.Common.{◌∙◌, sym, ap, subst, refl}
use Rattle.std.specs.Prelude.{IsTrue, ⊤}
use Rattle.sqlite.specs.Held.{Held, state}
use Rattle.store_places.specs.Places.{Removes}
use Rattle.store_pack.proofs.CommitLemmas.{outcomes}
use Rattle.store_pack.proofs.commit.commit_removal.Goals as goal

pub returns-clause-crash : goal.returns-clause-crash
returns-clause-crash g c clean is =
    let same = c.conn-1.given.1 (sym (c.remove_content-done.ensures.same_reference ∙ c.transaction-tx.ensures.same_reference)) in
    let first = c.transaction-tx.result.conn.now in
    let begun = c.transaction-tx.ensures.begun in
    outcomes (λ a b (v : ⊤). Removes a b c.args.id.id) (λ a b v p. p.others.schema) (state g.S.Store c.args.conn.now) (state g.S.Store first) (state g.S.Store c.remove_content-done.new.tx.conn.now)
    (state g.S.Store c.conn-1.given.0) c.remove_content-done.result c.end.result
    (ap (λ (h : Held _). (state g.S.Store h).now) begun)
    (ap (λ (h : Held _). (state g.S.Store h).committed) begun)
    (subst (λ (h : Held _). IsTrue (state g.S.Store h).in_transaction) (sym begun) refl)
    (λ db may. subst (λ (h : Held _). (state g.S.Store h).may_leave db) begun may)
    (λ db opened may. g.met.S.Store.settled c.args.conn.now.store db opened may)
    c.remove_content-done.ensures.removed c.remove_content-done.ensures.kept c.remove_content-done.ensures.survives (rw (sym same) at c.end.ensures.ended) clean is
