use Rattle.std.proofs.Common.{◌∙◌, Err, OnOk, ap, sym, subst}
use Rattle.std.specs.Prelude.{⊤}
use Rattle.sqlite.specs.State.{HasCleanDisk}
use Rattle.sqlite.specs.Held.{state}
use Rattle.registry_pack.specs.Pack.{file_of}
use Rattle.sqlite.specs.Effect.{Database}
use Rattle.store_contents.specs.Layouts.{InPack, Layout}
use Rattle.store_pack.proofs.ContentsLemmas.{named_as_said, said_as_named}
use Rattle.store_reads.proofs.CleanBefore.{was_clean}
use Rattle.store_statements.proofs.Alone.{less}
use Rattle.store_statements.specs.Between.{Outcomes}
use Rattle.store_statements.specs.Held.{IsSettled, SettlesOn, tables_in, world_in}
use Rattle.store_statements.specs.World.{world_of}
use Rattle.store_statements.specs.Tables.{Beside}
use Rattle.registry_store.proofs.PackCalls.{bytes_cut, cleared_order, given_contents, given_left, given_order, outcomes_settled, rows_settled, uncleared_left}
use Rattle.store_contents.specs.Places.{place_rows, runs_of}
use Rattle.store_pack.specs.Contents.{IsSpared}
use Rattle.registry_store.proofs.RowCalls.{all_are, same_order}
use Rattle.registry_store.proofs.pack_reclaim.PackContentsReclaim.clear.Goals as goal

-- ---- the contents went

pub returns-in-Ok-clause-made : goal.returns-in-Ok-clause-made
returns-in-Ok-clause-made g c clean is =
    let old = state g.S.Store c.args.conn.now in
    let mid = state g.S.Store c.clear_pack.new.conn in
    let new = state g.S.Store c.give_back-given.new.conn in
    let k0 = c.args.self.now in
    let k1 = c.give_back-given.new.self in
    let k2 = c.trim.new.self in
    let file = g.D.Disk.seen (file_of k0.pack) in
    let early : HasCleanDisk mid = was_clean mid new c.give_back-given.ensures.survives clean.0 in
    let made = c.in-Ok.ensures.made file early is.settled in
    let after = cleared_order c.args.conn.now c.clear_pack.new.conn k0 is made.0 (c.in-Ok.ensures.places file early is.settled) in
    let says = said_as_named mid.now k0.pack after.named in
    let spared = c.give_back-given.ensures.spared clean.0 after.settled.holds.contents.rows after.spared in
    let still = all_are (IsSpared k1.pack) (IsSpared k2.pack) c.trim.ensures.spared (runs_of (place_rows mid.now)) spared in
    let bytes = bytes_cut k0.pack k1.pack k2.pack (place_rows mid.now) after.spared spared c.give_back-given.ensures.bytes c.trim.ensures.bytes in
    less c.or_later.result
    (λ lives.
    let kept = c.give_back-given.ensures.tables file clean.0 after.settled says lives in
    let named = c.trim.ensures.names _ (named_as_said new.now k1.pack (c.give_back-given.ensures.named clean.0 (rows_settled file mid after.settled) says lives)) in
    let it = given_order c.clear_pack.new.conn c.give_back-given.new.conn k0 k2 after still bytes kept.settles kept.tables named in
    (it.0, it.1 ∙ made.1))
    c.or_later.ensures.done

pub returns-in-Ok-clause-freed : goal.returns-in-Ok-clause-freed
returns-in-Ok-clause-freed g c clean is =
    let old = state g.S.Store c.args.conn.now in
    let mid = state g.S.Store c.clear_pack.new.conn in
    let new = state g.S.Store c.give_back-given.new.conn in
    let k0 = c.args.self.now in
    let k1 = c.give_back-given.new.self in
    let k2 = c.trim.new.self in
    let file = g.D.Disk.seen (file_of k0.pack) in
    let early : HasCleanDisk mid = was_clean mid new c.give_back-given.ensures.survives clean.0 in
    let made = c.in-Ok.ensures.made file early is.settled in
    let after = cleared_order c.args.conn.now c.clear_pack.new.conn k0 is made.0 (c.in-Ok.ensures.places file early is.settled) in
    let says = said_as_named mid.now k0.pack after.named in
    let spared = c.give_back-given.ensures.spared clean.0 after.settled.holds.contents.rows after.spared in
    let still = all_are (IsSpared k1.pack) (IsSpared k2.pack) c.trim.ensures.spared (runs_of (place_rows mid.now)) spared in
    let bytes = bytes_cut k0.pack k1.pack k2.pack (place_rows mid.now) after.spared spared c.give_back-given.ensures.bytes c.trim.ensures.bytes in
    less c.or_later.result
    (λ lives id.
    let kept = c.give_back-given.ensures.tables file clean.0 after.settled says lives in
    given_contents c.clear_pack.new.conn c.give_back-given.new.conn k0 k2 after still bytes kept.settles kept.tables id ∙ c.in-Ok.ensures.freed file early is.settled id)
    c.or_later.ensures.done

pub returns-in-Ok-clause-memory : goal.returns-in-Ok-clause-memory
returns-in-Ok-clause-memory g c clean is wanting = absurd (c.or_later.ensures.failed wanting)

pub returns-in-Ok-clause-crash : goal.returns-in-Ok-clause-crash
returns-in-Ok-clause-crash g c clean is m may =
    let old = state g.S.Store c.args.conn.now in
    let mid = state g.S.Store c.clear_pack.new.conn in
    let new = state g.S.Store c.give_back-given.new.conn in
    let k0 = c.args.self.now in
    let k1 = c.give_back-given.new.self in
    let k2 = c.trim.new.self in
    let file = g.D.Disk.seen (file_of k0.pack) in
    let early : HasCleanDisk mid = was_clean mid new c.give_back-given.ensures.survives clean.0 in
    let made = c.in-Ok.ensures.made file early is.settled in
    let after = cleared_order c.args.conn.now c.clear_pack.new.conn k0 is made.0 (c.in-Ok.ensures.places file early is.settled) in
    let says = said_as_named mid.now k0.pack after.named in
    let spared = c.give_back-given.ensures.spared clean.0 after.settled.holds.contents.rows after.spared in
    let still = all_are (IsSpared k1.pack) (IsSpared k2.pack) c.trim.ensures.spared (runs_of (place_rows mid.now)) spared in
    let bytes = bytes_cut k0.pack k1.pack k2.pack (place_rows mid.now) after.spared spared c.give_back-given.ensures.bytes c.trim.ensures.bytes in
    let crash =
    subst
    (λ (l : Layout). IsSettled l mid → Outcomes mid.now new (λ s. OnOk c.give_back-given.result (SettlesOn l s (world_in l mid))) (λ s. SettlesOn l s (world_in l mid)) (λ s. SettlesOn l s (world_in l mid)))
    (sym may.2) (λ there. c.give_back-given.ensures.crash may.0 says clean.0 there) in
    let schema = ap (λ (b : Beside). b.schema) (c.in-Ok.ensures.beside file early is.settled) in
    outcomes_settled m _ old.now new c.or_later.result
    (given_left c.clear_pack.new.conn c.give_back-given.new.conn k0 k2 after still bytes old.now schema _ made.1 m may (λ s. OnOk c.give_back-given.result (SettlesOn m s (world_in m mid))) crash)

pub returns-in-Ok-clause-clean : goal.returns-in-Ok-clause-clean
returns-in-Ok-clause-clean g c clean =
    let old = state g.S.Store c.args.conn.now in
    let mid = state g.S.Store c.clear_pack.new.conn in
    let new = state g.S.Store c.give_back-given.new.conn in
    (was_clean old mid c.clear_pack.ensures.survives (was_clean mid new c.give_back-given.ensures.survives clean.0), c.give_back-given.ensures.elsewhere.clean (c.trim.ensures.clean clean.1))

-- ---- they did not

pub returns-in-Err-clause-memory : goal.returns-in-Err-clause-memory
returns-in-Err-clause-memory g c clean is wanting =
    let k0 = c.args.self.now in
    let it = c.in-Err.ensures.memory (g.D.Disk.seen (file_of k0.pack)) clean.0 is.settled wanting in
    let after = same_order _ _ k0 c.args.conn.now c.clear_pack.new.conn is it.0 it.1 in
    (after, ap (λ (d : Database). world_of (tables_in (InPack (g.D.Disk.seen (file_of k0.pack))) d)) it.1)

pub returns-in-Err-clause-crash : goal.returns-in-Err-clause-crash
returns-in-Err-clause-crash g c clean is m may =
    let old = state g.S.Store c.args.conn.now in
    let mid = state g.S.Store c.clear_pack.new.conn in
    let crash =
    subst
    (λ (l : Layout). IsSettled l old → Outcomes old.now mid (λ s. OnOk c.clear_pack.result (SettlesOn l s (world_in l old))) (λ s. SettlesOn l s (world_in l old)) (λ s. SettlesOn l s (world_in l old)))
    (sym may.2) (λ there. c.clear_pack.ensures.crash may.0 clean.0 there) in
    outcomes_settled {A = ⊤} m _ old.now mid (Err c.in-Err.fault) (uncleared_left c.args.conn.now c.clear_pack.new.conn c.args.self.now is m may (λ s. OnOk c.clear_pack.result (SettlesOn m s (world_in m old))) crash)

pub returns-in-Err-clause-clean : goal.returns-in-Err-clause-clean
returns-in-Err-clause-clean g c clean = (was_clean (state g.S.Store c.args.conn.now) (state g.S.Store c.clear_pack.new.conn) c.clear_pack.ensures.survives clean.0, clean.1)
