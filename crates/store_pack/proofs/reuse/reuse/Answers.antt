use Rattle.std.proofs.Common.{◌≡◌, ◌∙◌, ◌+◌, inl, [], Err, ap, arith, refl, sym, subst}
use Rattle.std.specs.Prelude.{◌⊎◌, ⊤, IsTrue, Vec}
use Rattle.std.specs.declared.alloc.Global.{Global}
use Rattle.registry_pack.specs.declared.extent.Extent.{Extent}
use Rattle.sqlite.specs.Effect.{Database}
use Rattle.sqlite.specs.Tree.{Trees}
use Rattle.sqlite.specs.Held.{state}
use Rattle.sqlite.specs.State.{HasCleanDisk}
use Rattle.sqlite_trees.proofs.ListLemmas.{all_weaker}
use Rattle.oci_types.specs.declared.fault.Fault.TheVariants.{Memory}
use Rattle.registry_pack.specs.declared.head.Head.{Head}
use Rattle.registry_pack.specs.Holes.{IsFree}
use Rattle.registry_pack.specs.Pack.{age_of, file_of, mark_of}
use Rattle.registry_pack.specs.Standing.{KeepsElsewhere}
use Rattle.store_contents.specs.Places.{place_rows, runs_of}
use Rattle.store_schema.proofs.Selects.{was_clean}
use Rattle.store_statements.proofs.Alone.{less, less_err}
use Rattle.store_statements.proofs.Transactions.{survives_all}
use Rattle.store_pack.specs.Commits.{IsSettled, Stays, with_trees}
use Rattle.store_pack.specs.Contents.{IsRemembered, IsSpared}
use Rattle.store_pack.specs.Joint.{IsRefused}
use Rattle.store_pack.specs.Pack.{MayPutPack, PutsPack, SaysAge}
use Rattle.store_pack.proofs.AgeLemmas.{elsewhere_itself, wanting}
use Rattle.store_pack.proofs.AgedRows.{not_storage, raised_crash, raised_keeps, says_after, says_same, says_some, settled_rows}
use Rattle.store_pack.proofs.ContentsLemmas.{writable_same}
use Rattle.store_pack.proofs.ReuseLemmas.{apart_still, bytes_behind, elsewhere_old, given_rows, refuses_after, remembered_rows, remembered_same, spared_rows, spared_same}
use Rattle.store_pack.proofs.reuse.reuse.Goals as goal

pub raise_age-requires : goal.raise_age-requires
raise_age-requires g c = record { usable = subst (λ f. IsTrue (g.D.Disk.is_usable f)) (sym c.reclaim.ensures.file.file) c.requires.usable }

pub returns-in-Ok-reclaim : goal.returns-in-Ok-reclaim
returns-in-Ok-reclaim g c =
    let old = state g.S.Store c.args.conn.now in
    let mid = state g.S.Store c.extents_in_use.new.conn in
    let new = state g.S.Store c.raise_age.new.conn in
    let was = c.args.pack.now in
    let half = c.reclaim.new.self in
    let is = c.raise_age.new.pack in
    let used = c.in-Ok.used.items in
    let file = c.reclaim.ensures.file.file in
    let head = c.reclaim.ensures.file.head in
    let raised = c.raise_age.ensures in
    let early : HasCleanDisk new → HasCleanDisk mid = was_clean raised.survives in
    let stays : HasCleanDisk new → IsSettled old → Stays old mid = λ clean settled. c.in-Ok.ensures.settled (early clean) settled refl in
    let age_same : age_of half ≡ age_of was = ap (λ (h : Head). h.age) head in
    record {
      says = λ clean settled says.
          let st = stays clean settled in
          let it = says_some mid.now half (says_same old.now mid.now was half st.1 head says) in
          less c.raise_age.result (λ put. put.says) (raised.rows clean st.0 it.0 it.1);
      named = λ clean settled says lives.
          let st = stays clean settled in
          let here = says_same old.now mid.now was half st.1 head says in
          let it = says_some mid.now half here in
          says_after c.raise_age.result mid.now new.now half is (raised.rows clean st.0 it.0 it.1) (less_err c.raise_age.result (λ keeps. keeps.head) raised.err) (raised.settled clean st.0 it.0 it.1 lives).1 here;
      tables = λ bytes clean settled says lives.
          let st = stays clean (settled_rows bytes old settled) in
          let it = says_some mid.now half (says_same old.now mid.now was half st.1 head says) in
          raised_keeps bytes old new (mark_of half) (age_of half + 1) settled
          (subst (λ (d : Database). IsSettled new × MayPutPack d new.now (mark_of half) (age_of half + 1)) st.1 (raised.settled clean st.0 it.0 it.1 lives));
      crash = λ bytes says clean settled.
          let st = stays clean (settled_rows bytes old settled) in
          let it = says_some mid.now half (says_same old.now mid.now was half st.1 head says) in
          raised_crash bytes old new c.raise_age.result (mark_of half) (age_of half + 1) settled
          (subst (λ (d : Database). (db : Trees) → new.may_leave db → (db ≡ d.trees) ⊎ (⊤ × PutsPack d (with_trees d db) (mark_of half) (age_of half + 1))) st.1 (raised.outcomes clean st.0 it.0 it.1));
      survives = survives_all old mid new _ _ c.extents_in_use.ensures.lasts raised.survives;
      spared = λ clean holds all.
          spared_rows was half is used c.in-Ok-reclaim.ensures.ok c.reclaim.ensures.writable file c.raise_age.result raised.writable raised.none_retired raised.err raised.elsewhere (place_rows old.now) (c.in-Ok.ensures.found (early clean) holds) all;
      remembered = λ clean holds all.
          remembered_rows was half is used c.in-Ok-reclaim.ensures.ok c.reclaim.ensures.writable file c.raise_age.result raised.writable raised.none_retired raised.err raised.elsewhere (place_rows old.now) (c.in-Ok.ensures.found (early clean) holds) all;
      given = λ clean holds.
          given_rows was half is used c.in-Ok-reclaim.ensures.ok c.reclaim.ensures.writable file c.raise_age.result raised.writable raised.none_retired raised.err raised.elsewhere (place_rows old.now) (c.in-Ok.ensures.found (early clean) holds);
      apart = λ apart.
          apart_still was half is used c.in-Ok-reclaim.ensures.ok c.reclaim.ensures.writable file c.raise_age.result raised.writable raised.none_retired raised.err raised.elsewhere;
      age = less c.raise_age.result (λ e. e ∙ ap (λ n. n + 1) age_same) raised.age;
      mark = raised.mark ∙ ap (λ (h : Head). h.mark) head;
      heads = raised.heads;
      refused = less c.raise_age.result (λ refused age low. refused (age, []) (omega (arith, low, age_same))) raised.refused;
      refuses = λ age low it second. refuses_after was half is head file c.raise_age.result age low it second raised.refused raised.memory raised.one_stands;
      bytes = λ db all. bytes_behind was is (elsewhere_old was half is used c.in-Ok-reclaim.ensures.ok c.reclaim.ensures.writable file c.raise_age.result raised.writable raised.none_retired raised.err raised.elsewhere) db all;
      elsewhere = elsewhere_old was half is used c.in-Ok-reclaim.ensures.ok c.reclaim.ensures.writable file c.raise_age.result raised.writable raised.none_retired raised.err raised.elsewhere;
      usable = raised.usable;
    }

pub returns-in-Err-reclaim : goal.returns-in-Err-reclaim
returns-in-Err-reclaim g c =
    let old = state g.S.Store c.args.conn.now in
    let mid = state g.S.Store c.extents_in_use.new.conn in
    let was = c.args.pack.now in
    let half = c.reclaim.new.self in
    let file = c.reclaim.ensures.file.file in
    let head = c.reclaim.ensures.file.head in
    let runs = runs_of (place_rows old.now) in
    let still : KeepsElsewhere g.D.Disk 0 8192 (file_of was) (file_of half) = subst (λ f. KeepsElsewhere g.D.Disk 0 8192 (file_of was) f) (sym file) (elsewhere_itself g.D.Disk 0 8192 (file_of was)) in
    record {
      says = λ clean settled says. tt;
      named = λ clean settled says lives. says_same old.now mid.now was half (c.in-Ok.ensures.settled clean settled refl).1 head says;
      tables = λ bytes clean settled says lives.
          let st = c.in-Ok.ensures.settled clean (settled_rows bytes old settled) refl in
          raised_keeps bytes old mid [] 0 settled (st.0, inl st.1);
      crash = λ bytes says clean settled.
          raised_crash {A = ⊤} bytes old mid (Err Memory) [] 0 settled (λ db may. inl ((c.extents_in_use.ensures.kept clean (settled_rows bytes old settled)).crash db may));
      survives = c.extents_in_use.ensures.lasts;
      spared = λ clean holds all. all_weaker (IsSpared was) (IsSpared half) (spared_same was half c.reclaim.ensures.writable file c.in-Err-reclaim.ensures.err) runs all;
      remembered = λ clean holds all. all_weaker (IsRemembered was) (IsRemembered half) (remembered_same was half c.reclaim.ensures.writable file) runs all;
      given = λ clean holds. tt;
      apart = λ apart p may retired. apart p (writable_same was half c.reclaim.ensures.writable p may) (subst (λ h. IsFree h p) c.in-Err-reclaim.ensures.err retired);
      age = tt;
      mark = ap (λ (h : Head). h.mark) head;
      heads = tt;
      refused = tt;
      refuses = λ age low it second. subst (λ f. IsRefused g.D.Disk f (age, [])) (sym file) it;
      bytes = λ db all. bytes_behind was half still db all;
      elsewhere = still;
      usable = λ lives. subst (λ f. IsTrue (g.D.Disk.is_usable f)) (sym file) c.requires.usable;
    }

pub returns-in-Err : goal.returns-in-Err
returns-in-Err g c =
    let old = state g.S.Store c.args.conn.now in
    let mid = state g.S.Store c.extents_in_use.new.conn in
    let was = c.args.pack.now in
    let still = elsewhere_itself g.D.Disk 0 8192 (file_of was) in
    record {
      says = λ clean settled says. tt;
      named = λ clean settled says lives.
          wanting c.in-Err.fault (SaysAge mid.now was) (λ wants. says_same old.now mid.now was was (c.in-Err.ensures.settled clean settled (not_storage (Vec Extent Global) c.in-Err.fault wants)).1 refl says) lives;
      tables = λ bytes clean settled says lives.
          wanting c.in-Err.fault _
          (λ wants. let st = c.in-Err.ensures.settled clean (settled_rows bytes old settled) (not_storage (Vec Extent Global) c.in-Err.fault wants) in raised_keeps bytes old mid [] 0 settled (st.0, inl st.1)) lives;
      crash = λ bytes says clean settled.
          raised_crash {A = ⊤} bytes old mid (Err c.in-Err.fault) [] 0 settled (λ db may. inl ((c.extents_in_use.ensures.kept clean (settled_rows bytes old settled)).crash db may));
      survives = c.extents_in_use.ensures.lasts;
      spared = λ clean holds all. all;
      remembered = λ clean holds all. all;
      given = λ clean holds. tt;
      apart = λ apart. apart;
      age = tt;
      mark = refl;
      heads = tt;
      refused = tt;
      refuses = λ age low it second. it;
      bytes = λ db all. bytes_behind was was still db all;
      elsewhere = still;
      usable = λ lives. c.requires.usable;
    }
