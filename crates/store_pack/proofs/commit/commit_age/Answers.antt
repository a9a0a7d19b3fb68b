use Rattle.std.proofs.Common.{◌∙◌, sym, ap, subst, refl}
use Rattle.std.specs.Prelude.{IsTrue, ⊤}
use Rattle.sqlite.specs.Held.{Held, state}
use Rattle.sqlite.specs.Effect.{Database}
use Rattle.sqlite.proofs.Callers.{survives_begin}
use Rattle.store_statements.specs.Clauses.{LastsUncommitted}
use Rattle.store_statements.proofs.Transactions.{survives_all}
use Rattle.store_pack.specs.Pack.{PackSays, PutsPack}
use Rattle.store_pack.proofs.CommitLemmas.{becomes, goes_back, outcomes}
use Rattle.store_pack.proofs.commit.commit_age.Goals as goal

pub returns : goal.returns
returns g c =
    let same = c.conn-1.given.1 (sym (c.set_age-done.ensures.same_reference ∙ c.transaction-tx.ensures.same_reference)) in
    let old = state g.S.Store c.args.conn.now in
    let first = c.transaction-tx.result.conn.now in
    let mid = state g.S.Store c.set_age-done.new.tx.conn.now in
    let begun = c.transaction-tx.ensures.begun in
    let ended = rw (sym same) at c.end.ensures.ended in
    let now = ap (λ (h : Held _). (state g.S.Store h).now) begun in
    record {
      set = λ clean is mark was says.
          becomes (λ a b (v : ⊤). PutsPack a b mark c.args.age) (λ a b v p. p.others.schema) old (state g.S.Store first) mid (state g.S.Store c.conn-1.given.0) c.set_age-done.result c.end.result
          now (ap (λ (h : Held _). (state g.S.Store h).committed) begun) (subst (λ (h : Held _). IsTrue (state g.S.Store h).in_transaction) (sym begun) refl)
          (λ db may. subst (λ (h : Held _). (state g.S.Store h).may_leave db) begun may) (λ db opened may. g.met.S.Store.settled c.args.conn.now.store db opened may)
          (λ late inside. c.set_age-done.ensures.set late inside mark was (subst (λ (d : Database). PackSays d mark was) (sym now) says)) c.set_age-done.ensures.kept c.set_age-done.ensures.survives ended clean is;
      back = λ clean is mark was says.
          goes_back (λ a b (v : ⊤). PutsPack a b mark c.args.age) (λ a b v p. p.others.schema) old (state g.S.Store first) mid (state g.S.Store c.conn-1.given.0) c.set_age-done.result c.end.result
          now (ap (λ (h : Held _). (state g.S.Store h).committed) begun) (subst (λ (h : Held _). IsTrue (state g.S.Store h).in_transaction) (sym begun) refl)
          (λ db may. subst (λ (h : Held _). (state g.S.Store h).may_leave db) begun may) (λ db opened may. g.met.S.Store.settled c.args.conn.now.store db opened may)
          (λ late inside. c.set_age-done.ensures.set late inside mark was (subst (λ (d : Database). PackSays d mark was) (sym now) says)) c.set_age-done.ensures.kept c.set_age-done.ensures.survives ended clean is;
      crash = λ clean is mark was says.
          outcomes (λ a b (v : ⊤). PutsPack a b mark c.args.age) (λ a b v p. p.others.schema) old (state g.S.Store first) mid (state g.S.Store c.conn-1.given.0) c.set_age-done.result c.end.result
          now (ap (λ (h : Held _). (state g.S.Store h).committed) begun) (subst (λ (h : Held _). IsTrue (state g.S.Store h).in_transaction) (sym begun) refl)
          (λ db may. subst (λ (h : Held _). (state g.S.Store h).may_leave db) begun may) (λ db opened may. g.met.S.Store.settled c.args.conn.now.store db opened may)
          (λ late inside. c.set_age-done.ensures.set late inside mark was (subst (λ (d : Database). PackSays d mark was) (sym now) says)) c.set_age-done.ensures.kept c.set_age-done.ensures.survives ended clean is;
      survives = survives_all old mid (state g.S.Store c.conn-1.given.0) _ _
          (survives_begin g.S.Store c.args.conn.now mid _ (subst (λ (h : Held _). LastsUncommitted g.S.Store h c.set_age-done.new.tx.conn.now) begun c.set_age-done.ensures.survives)) ended.survives;
    }
